use mathlib.Core.Path.{sym, ◌∙◌}
use mathlib.Core.Bool.{true≢false}
use Rattle.relations.proofs.StripLaws as laws
use Rattle.relations.proofs.is_castable_to.Goals as goal
use Rattle.relations.proofs.is_castable_to.Goals.{then-cast_fits, else-cast_fits}

pub returns-then-is_strip_of : goal.returns-then-is_strip_of
returns-then-is_strip_of c = c.if-is_strip_of.true ∙ elim c.if-cast_fits.branch [
  | then-cast_fits w ↦ laws.last_fit _ _ _ _ _ _ c.last_strip-from.ensures c.last_strip-to.ensures _ c.cast_fits.ensures w.if-cast_fits.true
  | else-cast_fits w ↦ laws.target_fits_lem _ _ _ _ _ _ c.last_strip-from.ensures c.last_strip-to.ensures _ c.cast_fits.ensures w.if-cast_fits.false _ w.is_strip_of.ensures (sym w.value-is ∙ c.if-is_strip_of.true)
]

pub returns-else-is_strip_of : goal.returns-else-is_strip_of
returns-else-is_strip_of c = elim c.if-cast_fits.branch [
  | then-cast_fits w ↦ absurd (true≢false (sym w.if-cast_fits.true ∙ sym w.value-is ∙ c.if-is_strip_of.false))
  | else-cast_fits w ↦ laws.source_decides _ _ _ _ _ _ c.last_strip-from.ensures c.last_strip-to.ensures _ c.cast_fits.ensures w.if-cast_fits.false _ w.is_strip_of.ensures (sym w.value-is ∙ c.if-is_strip_of.false) _ c.is_strip_of-else-is_strip_of.ensures
]
