use Rattle.declare.proofs.Aliases as laws
use Rattle.declare.proofs.internal_alias.Goals as goal

pub returns-then-primitive-lt1-clause-effect : goal.returns-then-primitive-lt1-clause-effect
returns-then-primitive-lt1-clause-effect c = laws.internal_absent _ _ _ _ c.word-name.ensures _ c.primitive_type-primitive.ensures _ _ _ _ c.requires.table.0 c.requires.table.1 c.if-primitive-lt1.true _ c.error_at.ensures _ _ c.report.ensures.effect

pub remove_aliasing-built_in-requires : goal.remove_aliasing-built_in-requires
remove_aliasing-built_in-requires c = (c.requires.table.0, laws.built_in_is _ _ _ _ c.word-name.ensures _ c.primitive_type-primitive.ensures _ _ c.requires.table.0 c.if-primitive-lt1.false)

pub returns-then-plain-built_in-clause-effect : goal.returns-then-plain-built_in-clause-effect
returns-then-plain-built_in-clause-effect c = laws.internal_differs _ _ _ _ c.word-name.ensures _ c.primitive_type-primitive.ensures _ _ _ _ c.requires.table.0 c.requires.table.1 c.if-primitive-lt1.false _ _ c.remove_aliasing-plain.ensures c.remove_aliasing-built_in.ensures c.if-plain-built_in.true _ c.error_at-then-plain-built_in.ensures _ _ c.report-then-plain-built_in.ensures.effect

pub returns-else-plain-built_in-clause-effect : goal.returns-else-plain-built_in-clause-effect
returns-else-plain-built_in-clause-effect c = laws.internal_matches _ _ _ _ c.word-name.ensures _ c.primitive_type-primitive.ensures _ _ _ _ c.requires.table.0 c.requires.table.1 c.if-primitive-lt1.false _ _ c.remove_aliasing-plain.ensures c.remove_aliasing-built_in.ensures c.if-plain-built_in.false
