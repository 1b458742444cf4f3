use Rattle.error_messages.proofs.BuiltInLaws as laws
use Rattle.error_messages.proofs.built_in.built_in_text.Goals as goal

pub returns-then-same_bytes : goal.returns-then-same_bytes
returns-then-same_bytes c = search laws.string_text

pub returns : goal.returns
returns c = search laws.other_text
