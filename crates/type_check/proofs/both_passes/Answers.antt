use Rattle.std.proofs.Common.{rules}
use mathlib.Core.Path.{◌∙◌}
use Rattle.type_check.proofs.Ending as ending
use mathlib.Core.Path.{refl}
use Rattle.row_index.proofs.Additions as index
use Rattle.type_check.proofs.both_passes.Goals as goal

pub returns-then-rows-lt-FIXED_LENGTH : goal.returns-then-rows-lt-FIXED_LENGTH
returns-then-rows-lt-FIXED_LENGTH c = ending.no_room _ _ _ _ _ c.if-rows-lt-FIXED_LENGTH.true

pub link_all-requires : goal.link_all-requires
link_all-requires c = c.put_fixed_rows.ensures.table.room

pub items_start-requires : goal.items_start-requires
items_start-requires c = c.requires.passed.layout

pub declare_items-requires : goal.declare_items-requires
declare_items-requires c = record { fine_nodes = ending.list_of_items c.requires.passed c.items_start.ensures; ready = ending.first_ready c.requires.passed c.requires.work_value c.put_fixed_rows.ensures (index.indexed_all _ c.put_digits.ensures _ _ _ _ refl c.link_all.ensures) }

pub type_check_items-requires : goal.type_check_items-requires
type_check_items-requires c = record { fine_nodes = ending.list_of_items c.requires.passed c.items_start.ensures; ready = ending.second_ready c.requires.passed c.declare_items.ensures.effect }

pub shape_of-rows : goal.shape_of-rows
shape_of-rows c = search (ending.rows_kept c.put_fixed_rows.ensures c.declare_items.ensures.effect c.type_check_items.ensures.effect, c.type_check_items.ensures.loans.rows, c.declare_items.ensures.loans.rows, rules)

pub returns : goal.returns
returns c =
    let whole = ending.passes_end c.items_start.ensures c.built_ins-names.ensures c.requires.passed c.requires.output_value c.requires.work_value c.put_fixed_rows.ensures (c.type_check_items.ensures.loans.errors_length ∙ c.declare_items.ensures.loans.errors_length) c.declare_items.ensures.effect c.type_check_items.ensures.effect in
    search (whole, c.type_check_items.ensures.loans.rows, c.declare_items.ensures.loans.rows, c.type_check_items.ensures.loans.output, c.declare_items.ensures.loans.output, c.type_check_items.ensures.loans.errors, c.declare_items.ensures.loans.errors, rules)
