use borrow.Author.Tests.{lt-leb, le-leb}
use Rattle.layout.specs.Layout.{is_bad}
use Rattle.layout.proofs.is_bad.Goals as goal

pub word-requires : goal.word-requires
word-requires c = c.requires c.if-nth-fields.true

pub returns-then-nth-fields : goal.returns-then-nth-fields
unfolding is_bad
returns-then-nth-fields c = simp (le-leb _ _ c.if-nth-fields.true, c.allows.ensures, ← c.word.ensures.is)

pub returns-else-nth-fields : goal.returns-else-nth-fields
unfolding is_bad
returns-else-nth-fields c = simp (lt-leb _ _ c.if-nth-fields.false)
