use Rattle.error_messages.proofs.ErrorSteps as laws
use Rattle.error_messages.proofs.readable.all_readable.Goals as goal

pub returns-then-not-is_readable : goal.returns-then-not-is_readable
returns-then-not-is_readable c = search laws.testing_no

pub loop-i-preserved : goal.loop-i-preserved
loop-i-preserved c = search laws.testing_more

pub returns : goal.returns
returns c = search laws.testing_done
