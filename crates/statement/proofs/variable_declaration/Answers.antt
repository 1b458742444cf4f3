use native.Mathlib.Omega.{arith}
use Rattle.expression.proofs.Heads as heads
use Rattle.walk.proofs.Loans.{after_errors}
use Rattle.statement.proofs.Own as laws
use Rattle.divergence.proofs.Walk.{bounds}
use Rattle.statement.proofs.variable_declaration.Goals as goal

pub overflow_sub-depth : goal.overflow_sub-depth
overflow_sub-depth c = omega (arith, (bounds _ _ _ _ _ c.requires.fine_node.0).deep)

pub convert_node_type-declared-requires : goal.convert_node_type-declared-requires
convert_node_type-declared-requires c = record { fine_node = laws.type_fine c.requires.fine_node.0 c.requires.fine_node.1; ready = c.requires.ready }

pub declare_local-ty-requires : goal.declare_local-ty-requires
declare_local-ty-requires c = (omega (arith, laws.named_room c.requires.fine_node.0 c.requires.fine_node.1), laws.name_room c.requires.fine_node.0 c.requires.fine_node.1 c.requires.ready)

pub length_at-requires : goal.length_at-requires
length_at-requires c = omega (arith, laws.named_room c.requires.fine_node.0 c.requires.fine_node.1)

pub length_at-requires-2 : goal.length_at-requires-2
length_at-requires-2 c = omega (arith, laws.named_room c.requires.fine_node.0 c.requires.fine_node.1)

pub type_check_initial-requires-clause-fine_list : goal.type_check_initial-requires-clause-fine_list
type_check_initial-requires-clause-fine_list c = laws.initial_fine c.requires.fine_node.0 c.requires.fine_node.1 _ _ (heads.stops_at _ _ _ c.length_at.ensures) (heads.stops_at _ _ _ c.length_at-2.ensures)

pub type_check_initial-requires-clause-ready : goal.type_check_initial-requires-clause-ready
type_check_initial-requires-clause-ready c =
    rw (after_errors c.declare_local-ty.ensures.loans _)
    (laws.declared_ready c.requires.fine_node.0 c.requires.fine_node.1 _ _ (heads.stops_at _ _ _ c.length_at.ensures) (heads.stops_at _ _ _ c.length_at-2.ensures) c.requires.ready c.convert_node_type-declared.ensures.effect c.declare_local-ty.ensures.effect)

pub type_check_initial-requires-clause-one_type : goal.type_check_initial-requires-clause-one_type
type_check_initial-requires-clause-one_type c =
    rw c.declare_local-ty.ensures.loans.rows_kept
    (laws.declared_type c.requires.fine_node.0 c.requires.fine_node.1 _ _ (heads.stops_at _ _ _ c.length_at.ensures) (heads.stops_at _ _ _ c.length_at-2.ensures) c.requires.ready c.convert_node_type-declared.ensures.effect c.declare_local-ty.ensures.effect)

pub returns-clause-effect : goal.returns-clause-effect
returns-clause-effect c =
    laws.variable_checked c.requires.fine_node.0 c.requires.fine_node.1 _ _ (heads.stops_at _ _ _ c.length_at.ensures) (heads.stops_at _ _ _ c.length_at-2.ensures) c.requires.ready c.convert_node_type-declared.ensures.effect c.declare_local-ty.ensures.effect
    (rw (after_errors c.declare_local-ty.ensures.loans _) at c.type_check_initial.ensures.effect)
