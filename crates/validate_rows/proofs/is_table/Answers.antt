use Rattle.validate_rows.proofs.Tested as laws
use Rattle.types.proofs.Rows as table_rows
use borrow.Author.Rules.{rules}
use Rattle.validate_rows.proofs.is_table.Goals as goal

pub loop-m-init : goal.loop-m-init
loop-m-init c = (table_rows.rows_none _, laws.index_start _)

pub returns-then-not-has_size : goal.returns-then-not-has_size
returns-then-not-has_size c = laws.size_wrong _ _ _ c.row_at-row.ensures (search rules) _ c.loop-m-test.true (search rules)

pub loop-m-preserved : goal.loop-m-preserved
loop-m-preserved c = (
  laws.rows_more _ _ _ c.row_at-row.ensures (search rules) c.loop-m.invariant.0 (search rules) _ c.highest_part-below.ensures (laws.none_found _ _ _ _ _ c.find.ensures (search rules)),
  laws.index_more c.row_at-row.ensures c.loop-m.invariant.1 c.link.ensures,
)
