use borrow.Author.Rules.{rules}
use Rattle.compound_rules.proofs.Elements as turns
use Rattle.call_rules.proofs.Chains as chains
use Rattle.compound_rules.proofs.check_elements.Goals as goal

pub word-got-requires : goal.word-got-requires
word-got-requires c = search turns.element_inside

pub check_types_are_assignable-next-requires : goal.check_types_are_assignable-next-requires
check_types_are_assignable-next-requires c = (search rules, search turns.element_types)

pub length_at-place-requires : goal.length_at-place-requires
length_at-place-requires c = search chains.head_inside

pub loop-place-smaller : goal.loop-place-smaller
loop-place-smaller c = search chains.next_less

pub loop-place-preserved : goal.loop-place-preserved
loop-place-preserved c = search turns.elements_on

pub returns : goal.returns
returns c = search turns.elements_done
