-- A law for each exit.
use Rattle.call_rules.proofs.Exits as exits
use borrow.Author.Rules.{rules}
use Rattle.call_rules.proofs.call_result.Goals as goal

pub returns-then-kind-ne-FUNCTION : goal.returns-then-kind-ne-FUNCTION
returns-then-kind-ne-FUNCTION c = search exits.not_called

pub check_arguments-last-requires-clause-at_in_bounds : goal.check_arguments-last-requires-clause-at_in_bounds
check_arguments-last-requires-clause-at_in_bounds c = (search rules, search exits.filled_after)

pub returns : goal.returns
returns c = search exits.called
