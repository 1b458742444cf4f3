-- A law for each exit.
use Rattle.call_rules.proofs.Exits as exits
use Rattle.compound_rules.proofs.Elements as elements
use borrow.Author.Rules.{rules}
use Rattle.compound_rules.proofs.array_compound.Goals as goal

pub returns-then-kind-ne-ARRAY : goal.returns-then-kind-ne-ARRAY
returns-then-kind-ne-ARRAY c = search elements.no_array

pub check_elements-requires : goal.check_elements-requires
check_elements-requires c = (search rules, search exits.filled_after, search exits.part_after)

pub returns : goal.returns
returns c = search elements.array_filled
