use Rattle.error_messages.proofs.LineSteps as laws
use Rattle.error_messages.proofs.readable.is_readable.Goals as goal

pub loop-byte-init : goal.loop-byte-init
loop-byte-init c = search laws.testing_start

pub returns-then-not-piece_exists : goal.returns-then-not-piece_exists
returns-then-not-piece_exists c = search laws.testing_no

pub loop-byte-preserved : goal.loop-byte-preserved
loop-byte-preserved c = search laws.testing_more

pub returns : goal.returns
returns c = search laws.testing_done
