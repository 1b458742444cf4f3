use native.Mathlib.Omega.{arith}
use Rattle.walk.proofs.Loans.{after_errors}
use Rattle.initial_value.proofs.Values as laws
use Rattle.initial_value.proofs.type_check_initial.Goals as goal

pub returns-then-value-clause-effect : goal.returns-then-value-clause-effect
returns-then-value-clause-effect c = laws.none_checked c.requires.fine_list c.args.value.compare c.if-value.true c.requires.ready

pub half-requires : goal.half-requires
half-requires c = omega (arith, laws.value_room c.requires.fine_list c.if-value.false)

pub type_check_expression-ty-requires : goal.type_check_expression-ty-requires
type_check_expression-ty-requires c = record { fine_node = laws.expression_fine c.requires.fine_list c.if-value.false c.half.ensures.is c.if-half-ge-ARRAY_COMPOUND.false; ready = c.requires.ready }

pub check_types_are_assignable-requires : goal.check_types_are_assignable-requires
check_types_are_assignable-requires c = (laws.value_room c.requires.fine_list c.if-value.false, laws.both_types c.requires.fine_list c.if-value.false c.half.ensures.is c.if-half-ge-ARRAY_COMPOUND.false c.type_check_expression-ty.ensures.effect c.requires.one_type)

pub returns-then-value-2-clause-effect : goal.returns-then-value-2-clause-effect
returns-then-value-2-clause-effect c = rw (after_errors c.check_types_are_assignable.ensures.loans _) (laws.compared_checked c.requires.fine_list c.if-value.false c.half.ensures.is c.if-half-ge-ARRAY_COMPOUND.false c.type_check_expression-ty.ensures.effect c.args.value.compare c.if-value-2.true c.check_types_are_assignable.ensures.effect)

pub returns-else-value-2-clause-effect : goal.returns-else-value-2-clause-effect
returns-else-value-2-clause-effect c = laws.plain_checked c.requires.fine_list c.if-value.false c.half.ensures.is c.if-half-ge-ARRAY_COMPOUND.false c.type_check_expression-ty.ensures.effect c.args.value.compare c.if-value-2.false

pub type_check_compound_assignment-requires : goal.type_check_compound_assignment-requires
type_check_compound_assignment-requires c = record { fine_node = laws.compound_fine c.requires.fine_list c.if-value.false c.half.ensures.is c.if-half-ge-ARRAY_COMPOUND.true; ready = c.requires.ready; one_type = c.requires.one_type }

pub returns-then-half-ge-ARRAY_COMPOUND-clause-effect : goal.returns-then-half-ge-ARRAY_COMPOUND-clause-effect
returns-then-half-ge-ARRAY_COMPOUND-clause-effect c = laws.compound_checked c.requires.fine_list c.if-value.false c.half.ensures.is c.args.value.compare c.if-half-ge-ARRAY_COMPOUND.true c.type_check_compound_assignment.ensures.effect
