use Rattle.std.proofs.lemmas.Result.{err_from_is_err_and}
use borrow.Author.Rules.{rules}
use Rattle.reorder.proofs.Outcomes as laws
use Rattle.reorder.proofs.shuffle.Goals as goal

pub returns-in_err-check_layout : goal.returns-in_err-check_layout
returns-in_err-check_layout c =
    let p = err_from_is_err_and c.from_residual.result c.from_residual.ensures.1 in
    rw (p.1, p.2) (laws.bad_layout _ _ _ _ c.in_err-check_layout.ensures)

pub returns-then-output-input : goal.returns-then-output-input
returns-then-output-input c = laws.short_output _ _ _ (laws.good_layout _ c.in_ok-check_layout.ensures) c.if-output-input.true

pub write_items-requires : goal.write_items-requires
write_items-requires c = record { input_value = laws.good_layout _ c.in_ok-check_layout.ensures; max_items_in_bounds = search rules; input_in_bounds = search rules }

pub returns : goal.returns
returns c = laws.all_written _ _ _ (laws.good_layout _ c.in_ok-check_layout.ensures) _ c.if-output-input.false c.write_items.ensures
