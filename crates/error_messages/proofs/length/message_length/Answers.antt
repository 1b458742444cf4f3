use native.Mathlib.Omega.{arith}
use borrow.Author.Rules.{rules}
use Rattle.error_messages.proofs.LineSteps as laws
use Rattle.error_messages.proofs.length.message_length.Goals as goal

pub loop-byte-init : goal.loop-byte-init
loop-byte-init c = search laws.counting_start

pub piece_length-length-requires : goal.piece_length-length-requires
piece_length-length-requires c = record { ready = search rules; exists_as = laws.counting_exists _ _ _ _ c.args.error.now _ _ _ c.loop-byte.invariant (omega arith) _ c.word_of.ensures }

pub loop-byte-preserved : goal.loop-byte-preserved
loop-byte-preserved c = laws.counting_more _ _ _ _ c.args.error.now _ _ _ c.loop-byte.invariant (omega arith) _ c.word_of.ensures _ c.piece_length-length.ensures _ (omega arith)

pub returns : goal.returns
returns c = search laws.counting_done
