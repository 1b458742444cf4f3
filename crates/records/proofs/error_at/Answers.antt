-- `error_at` gives the error that its words make.
use Rattle.records.proofs.Laws as laws
use Rattle.records.proofs.error_at.Goals as goal

pub returns : goal.returns
returns c = search laws.error_read
