-- The loop: the rows that were passed obey the rules and are in the index.
use Rattle.types.proofs.Rows as table_rows
use Rattle.row_index.specs.Index.{RowsIndexed}
use Rattle.validate_rows.proofs.is_table.Given as goal

abbrev pub invariant-loop-m : goal.invariant-loop-m
invariant-loop-m l = table_rows.Rows l.rows l.m × RowsIndexed l.rows l.m l.index
