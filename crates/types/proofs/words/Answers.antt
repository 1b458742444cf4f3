use mathlib.Core.Path.{◌∙◌}
use borrow.Author.Rules.{rules}
use Rattle.types.proofs.words.Goals as goal

pub returns : goal.returns
returns c = c.size_word_at.ensures ∙ c.requires.0.sizes c.args.n (search rules) (search rules)
