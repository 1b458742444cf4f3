use Rattle.layout.proofs.LayoutLaws as laws
use Rattle.layout.proofs.check_layout.Goals as goal

pub returns-then-n-eq0 : goal.returns-then-n-eq0
returns-then-n-eq0 c = search laws.layout_empty

pub returns-then-n-gt-MAX_BYTES : goal.returns-then-n-gt-MAX_BYTES
returns-then-n-gt-MAX_BYTES c = search laws.layout_long

pub returns : goal.returns
returns c = search laws.layout_walked
