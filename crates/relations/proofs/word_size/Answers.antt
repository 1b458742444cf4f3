use native.Mathlib.Omega.{arith}
use Rattle.relations.proofs.WordLaws.{size_known, size_large, size_unknown}
use Rattle.relations.proofs.word_size.Goals as goal

pub returns-in-0-to-65535 : goal.returns-in-0-to-65535
returns-in-0-to-65535 c = size_known _ _ _ c.requires _ c.words.ensures (omega arith)

pub returns-in-65536 : goal.returns-in-65536
returns-in-65536 c = search size_large

pub returns-in_default : goal.returns-in_default
returns-in_default c = search size_unknown
