use Rattle.listing.proofs.Marks as laws
use Rattle.listing.proofs.literal_text.Goals as goal

pub returns-then-length-lt-FIELDS_END : goal.returns-then-length-lt-FIELDS_END
returns-then-length-lt-FIELDS_END c = search laws.literal_short

pub returns : goal.returns
returns c = search laws.literal_digits
