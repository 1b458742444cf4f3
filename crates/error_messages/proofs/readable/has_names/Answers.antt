use Rattle.error_messages.proofs.RowNames as laws
use Rattle.error_messages.proofs.readable.has_names.Goals as goal

pub loop-n-preserved : goal.loop-n-preserved
loop-n-preserved c = search laws.named_more

pub returns : goal.returns
returns c = search laws.named_all
