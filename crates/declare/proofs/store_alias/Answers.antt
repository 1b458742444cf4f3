use Rattle.walk.specs.Typed.{typed}
use Rattle.declare.proofs.Aliases as laws
use Rattle.declare.proofs.store_alias.Goals as goal

pub returns-then-earlier-gt0-clause-effect : goal.returns-then-earlier-gt0-clause-effect
returns-then-earlier-gt0-clause-effect c = rw c.report.ensures.loans.rows_kept (rw c.report.ensures.loans.index_kept (laws.alias_taken _ _ _ c.requires.names_one _ _ _ _ _ _ _ c.requires.s_in_bounds _ c.word-name.ensures _ c.word_of-earlier.ensures c.if-earlier-gt0.true _ c.error_at.ensures _ _ c.report.ensures.effect))

pub returns-then-primitive-gt0-clause-effect : goal.returns-then-primitive-gt0-clause-effect
returns-then-primitive-gt0-clause-effect c = rw c.report-then-primitive-gt0.ensures.loans.rows_kept (rw c.report-then-primitive-gt0.ensures.loans.index_kept (laws.alias_built_in _ _ _ c.requires.names_one _ _ _ _ _ _ _ c.requires.s_in_bounds _ c.word-name.ensures _ c.word_of-earlier.ensures c.if-earlier-gt0.false _ c.primitive_type-primitive.ensures c.requires.table.0 c.if-primitive-gt0.true _ c.error_at-then-primitive-gt0.ensures _ _ c.report-then-primitive-gt0.ensures.effect))

pub make-alias-requires : goal.make-alias-requires
make-alias-requires c = record { table = laws.alias_row_ok _ _ c.requires.names_one c.args.distinct _ _ c.word-name.ensures _ _ c.requires.table.0 c.requires.table.1 _ c.alias_row.ensures; indexed = c.requires.indexed }

pub returns-clause-effect : goal.returns-clause-effect
returns-clause-effect c = rw c.make-alias.ensures.loans.errors_kept (laws.alias_stored _ _ _ c.requires.names_one c.args.distinct _ _ _ _ _ _ c.requires.s_in_bounds _ c.word-name.ensures _ c.word_of-earlier.ensures c.if-earlier-gt0.false _ c.primitive_type-primitive.ensures c.requires.table.0 c.if-primitive-gt0.false _ c.alias_row.ensures _ (typed c.make-alias.result c.make-alias.new.self.state) c.make-alias.ensures.effect _ c.set_word.ensures)
