use Rattle.error_messages.proofs.Words as words
use borrow.Author.Rules.{rules}
use Rattle.error_messages.proofs.ErrorSteps as laws
use Rattle.error_messages.proofs.write.write_messages.Goals as goal

pub loop-i-init : goal.loop-i-init
loop-i-init c = search laws.writing_start

pub write_message-at-requires : goal.write_message-at-requires
write_message-at-requires c = record { ready = search rules; error_width_in_bounds = (search words.words_room, search laws.writing_readable); fits = search laws.writing_fits }

pub loop-i-preserved : goal.loop-i-preserved
loop-i-preserved c = search laws.writing_more

pub returns : goal.returns
returns c = search laws.writing_done
