use borrow.Author.Rules.{rules}
use Rattle.call_rules.proofs.Turns as turns
use Rattle.call_rules.proofs.Chains as chains
use Rattle.call_rules.proofs.check_arguments.Goals as goal

pub part-ty-requires : goal.part-ty-requires
part-ty-requires c = (search rules, search turns.cell_low, search turns.cell_high, search turns.cell_part)

pub word-got-requires : goal.word-got-requires
word-got-requires c = search turns.argument_inside

pub types_are_assignable-holds-requires : goal.types_are_assignable-holds-requires
types_are_assignable-holds-requires c = search turns.argument_types

pub rest-cell-requires : goal.rest-cell-requires
rest-cell-requires c = (search rules, search turns.cell_low, search turns.cell_high, search turns.cell_rest)

pub length_at-place-requires : goal.length_at-place-requires
length_at-place-requires c = search chains.head_inside

pub loop-place-smaller : goal.loop-place-smaller
loop-place-smaller c = search chains.next_less

pub loop-place-preserved : goal.loop-place-preserved
loop-place-preserved c = search turns.arguments_on

pub returns-else-cell-ne0 : goal.returns-else-cell-ne0
returns-else-cell-ne0 c = search turns.arguments_none

pub returns-after-loop-place : goal.returns-after-loop-place
returns-after-loop-place c = search turns.arguments_done
