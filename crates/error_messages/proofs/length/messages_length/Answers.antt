use Rattle.error_messages.proofs.Words as words
use native.Mathlib.Omega.{arith}
use borrow.Author.Rules.{rules}
use Rattle.error_messages.proofs.ErrorSteps as laws
use Rattle.error_messages.proofs.length.messages_length.Goals as goal

pub message_length-length-requires : goal.message_length-length-requires
message_length-length-requires c = record { ready = search rules; error_width_in_bounds = (search words.words_room, search laws.counting_readable) }

pub loop-i-preserved : goal.loop-i-preserved
loop-i-preserved c = laws.counting_more _ _ _ _ _ _ _ _ c.loop-i.invariant (omega arith) _ c.message_length-length.ensures _ (omega arith)

pub returns : goal.returns
returns c = search laws.counting_done
