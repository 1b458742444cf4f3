use mathlib.Core.Path.{sym, ◌∙◌}
use Rattle.walk.proofs.Loans.{errors_then, after_errors}
use Rattle.compound.proofs.Compounds as laws
use Rattle.compound.proofs.type_check_compound_assignment.Goals as goal

pub type_check_expressions-requires : goal.type_check_expressions-requires
type_check_expressions-requires c = record { fine_nodes = laws.elements_fine c.requires.fine_node (laws.held_is c.enter-head.ensures _ c.children-list.ensures) (sym c.enter-head.ensures.opened.kinds ∙ c.if-head-eq-ARRAY_COMPOUND.true); ready = c.requires.ready }

pub returns-then-head-eq-ARRAY_COMPOUND-clause-effect : goal.returns-then-head-eq-ARRAY_COMPOUND-clause-effect
returns-then-head-eq-ARRAY_COMPOUND-clause-effect c = rw (after_errors c.array_compound.ensures.loans _) (laws.array_checked c.requires.fine_node (laws.held_is c.enter-head.ensures _ c.children-list.ensures) (sym c.enter-head.ensures.opened.kinds ∙ c.if-head-eq-ARRAY_COMPOUND.true) c.type_check_expressions.ensures.effect c.array_compound.ensures.effect)

pub type_check_fields-requires : goal.type_check_fields-requires
type_check_fields-requires c = record { fine_nodes = laws.fields_fine c.requires.fine_node (laws.held_is c.enter-head.ensures _ c.children-list.ensures) (λ e. c.if-head-eq-ARRAY_COMPOUND.false (c.enter-head.ensures.opened.kinds ∙ e)); ready = c.requires.ready }

pub returns-else-head-eq-ARRAY_COMPOUND-clause-effect : goal.returns-else-head-eq-ARRAY_COMPOUND-clause-effect
returns-else-head-eq-ARRAY_COMPOUND-clause-effect c =
    rw (after_errors (errors_then c.struct_compound.ensures.loans c.check_repeats.ensures.loans) _)
    (laws.struct_checked c.requires.fine_node (laws.held_is c.enter-head.ensures _ c.children-list.ensures) (λ e. c.if-head-eq-ARRAY_COMPOUND.false (c.enter-head.ensures.opened.kinds ∙ e)) c.type_check_fields.ensures.effect c.struct_compound.ensures.effect c.check_repeats.ensures.effect)
