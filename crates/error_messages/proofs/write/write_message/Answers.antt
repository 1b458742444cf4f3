use native.Mathlib.Omega.{arith}
use borrow.Author.Rules.{rules}
use Rattle.error_messages.proofs.LineSteps as laws
use Rattle.error_messages.proofs.write.write_message.Goals as goal

pub loop-byte-init : goal.loop-byte-init
loop-byte-init c = search laws.writing_start

pub write_piece-at-requires : goal.write_piece-at-requires
write_piece-at-requires c = let exists = laws.writing_exists _ _ _ _ c.args.error.now _ _ _ _ _ _ c.loop-byte.invariant (omega arith) _ c.word_of.ensures in
    let fits = laws.writing_fits _ _ _ _ c.args.error.now _ _ _ _ _ _ c.loop-byte.invariant (omega arith) _ c.word_of.ensures in
    record { ready = search rules; exists_as = exists; fits = fits }

pub loop-byte-preserved : goal.loop-byte-preserved
loop-byte-preserved c = search laws.writing_more

pub returns : goal.returns
returns c = search laws.writing_done
