use native.Mathlib.Omega.{arith}
use borrow.Author.Rules.{rules}
use Rattle.statement.proofs.Wholes as laws
use Rattle.statement.proofs.own_parts.Goals as goal

pub condition-requires : goal.condition-requires
condition-requires c = record { fine_record = laws.condition_fine c.requires.fine_node.0 (laws.conditional_kind c.requires.fine_node.0 c.requires.fine_node.1 c.in-71.is); ready = c.requires.ready }

pub returns-in-65-clause-effect : goal.returns-in-65-clause-effect
returns-in-65-clause-effect c = laws.whole_own c.requires.fine_node.0 c.requires.fine_node.1 65 c.in-65.is (omega arith) (omega arith) (c.expression_statement.ensures.effect _)

pub returns-in-66-clause-effect : goal.returns-in-66-clause-effect
returns-in-66-clause-effect c = laws.whole_own c.requires.fine_node.0 c.requires.fine_node.1 66 c.in-66.is (omega arith) (omega arith) (c.variable_declaration.ensures.effect _)

pub returns-in-67-clause-effect : goal.returns-in-67-clause-effect
returns-in-67-clause-effect c = laws.whole_own c.requires.fine_node.0 c.requires.fine_node.1 67 c.in-67.is (omega arith) (omega arith) (c.assignment.ensures.effect _)

pub returns-in-68-clause-effect : goal.returns-in-68-clause-effect
returns-in-68-clause-effect c = laws.whole_own c.requires.fine_node.0 c.requires.fine_node.1 68 c.in-68.is (omega arith) (omega arith) (c.compound_assignment.ensures.effect _)

pub returns-in-69-clause-effect : goal.returns-in-69-clause-effect
returns-in-69-clause-effect c = laws.whole_own c.requires.fine_node.0 c.requires.fine_node.1 69 c.in-69.is (omega arith) (omega arith) c.return_statement.ensures.effect

pub returns-in-71-clause-effect : goal.returns-in-71-clause-effect
returns-in-71-clause-effect c = laws.condition_own c.requires.fine_node.0 c.requires.fine_node.1 c.in-71.is c.condition.ensures.effect

pub returns-in_default-clause-effect : goal.returns-in_default-clause-effect
returns-in_default-clause-effect c = laws.none_own c.requires.fine_node.0 c.requires.fine_node.1 (search rules) (search rules) (search rules) (search rules) (search rules) (search rules) c.requires.ready
