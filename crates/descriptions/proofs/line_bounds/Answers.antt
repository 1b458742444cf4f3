use Rattle.descriptions.proofs.Table as laws
use Rattle.descriptions.proofs.line_bounds.Goals as goal

pub returns-then-number-ge-KINDS : goal.returns-then-number-ge-KINDS
returns-then-number-ge-KINDS c = search laws.line_past

pub returns : goal.returns
returns c = laws.line_stands _ c.if-number-ge-KINDS.false
