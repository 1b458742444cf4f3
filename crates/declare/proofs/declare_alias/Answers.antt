use native.Mathlib.Omega.{arith}
use Rattle.walk.specs.Typed.{typed}
use Rattle.walk.proofs.Loans as loans
use Rattle.declare.proofs.Items as laws
use Rattle.declare.proofs.declare_alias.Goals as goal

pub word-flags-requires : goal.word-flags-requires
word-flags-requires c = omega (arith, laws.alias_room _ _ _ c.requires.fine_node c.requires.at_value)

pub overflow_sub-inner : goal.overflow_sub-inner
overflow_sub-inner c = omega (arith, laws.alias_room _ _ _ c.requires.fine_node c.requires.at_value)

pub convert_node_type-ty-requires : goal.convert_node_type-ty-requires
convert_node_type-ty-requires c = record { fine_node = (laws.alias_room _ _ _ c.requires.fine_node c.requires.at_value).type; ready = c.requires.ready }

pub internal_alias-requires : goal.internal_alias-requires
internal_alias-requires c = record { names_one = (laws.alias_room _ _ _ c.requires.fine_node c.requires.at_value).names; table = (c.convert_node_type-ty.ensures.effect.walked.walked.grew.good.table, c.convert_node_type-ty.ensures.effect.walked.is) }

pub returns-then-flags-ge-INTERNAL-clause-effect : goal.returns-then-flags-ge-INTERNAL-clause-effect
returns-then-flags-ge-INTERNAL-clause-effect c = rw (loans.after_errors c.internal_alias.ensures.loans c.args.work.now) (laws.internal_declared _ _ _ c.requires.fine_node _ _ _ _ _ _ _ c.requires.at_value _ c.word-flags.ensures _ _ _ (typed c.convert_node_type-ty.result c.convert_node_type-ty.new.walk.state) c.convert_node_type-ty.ensures.effect c.if-flags-ge-INTERNAL.true _ _ c.internal_alias.ensures.effect)

pub store_alias-requires : goal.store_alias-requires
store_alias-requires c = record { names_one = (laws.alias_room _ _ _ c.requires.fine_node c.requires.at_value).names; s_in_bounds = c.requires.ready.wide; table = (c.convert_node_type-ty.ensures.effect.walked.walked.grew.good.table, c.convert_node_type-ty.ensures.effect.walked.is); indexed = c.convert_node_type-ty.ensures.effect.walked.walked.grew.good.indexed }

pub returns-else-flags-ge-INTERNAL-clause-effect : goal.returns-else-flags-ge-INTERNAL-clause-effect
returns-else-flags-ge-INTERNAL-clause-effect c = rw (loans.after_rule c.store_alias.ensures.loans c.store_alias.new.work) (laws.alias_declared _ _ _ c.requires.fine_node _ _ _ _ _ _ _ c.requires.at_value _ c.word-flags.ensures _ _ _ (typed c.convert_node_type-ty.result c.convert_node_type-ty.new.walk.state) c.convert_node_type-ty.ensures.effect c.if-flags-ge-INTERNAL.false _ _ _ _ c.store_alias.ensures.effect)
