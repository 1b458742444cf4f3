-- A pointer behind a transparent alias that decays but cannot be cast (document 02, paper 5): a table of rows, with what it shows.
use Rattle.std.specs.Prelude.{ℕ, ◌≡◌, Bool, true, false, List, [], ◌∷◌, ◌++◌}
use Rattle.types.specs.Ty.{Ty, u16, pointer, array, alias, pointer_kind, array_kind, alias_kind}
use Rattle.types.specs.Table.{unfolded, fixed_words}
use Rattle.relations.specs.Relations.{types_are_assignable, is_castable_to}
use Rattle.relations.specs.TypeRows.{TwoTypes}
use Rattle.relations.specs.Footprint.{Plain}

-- Behind the seven fixed rows: 8, a transparent alias of row 6, the pointer to u16; 9, an array of four u16; 10, a pointer to it; 11, a
-- transparent alias of that pointer
abbrev pub decay_rows : List ℕ
decay_rows =
    fixed_words
    ++ alias_kind ∷ 6 ∷ 0 ∷ 0 ∷ 1
    ∷ array_kind ∷ 4 ∷ 4 ∷ 0 ∷ 4
    ∷ pointer_kind ∷ 9 ∷ 0 ∷ 0 ∷ 1
    ∷ alias_kind ∷ 10 ∷ 0 ∷ 1 ∷ 1
    ∷ []

abbrev pub decay_count : ℕ
decay_count = 11

-- Two type rows, the source assignable to the target; whether it is castable to it
pub record Assigned (target source : ℕ) (castable : Bool) : Type 0 where
  pub types : TwoTypes decay_rows decay_count target source
  pub assigned : types_are_assignable (unfolded decay_rows target) (unfolded decay_rows source) ≡ true
  pub cast : is_castable_to (unfolded decay_rows source) (unfolded decay_rows target) ≡ castable

-- A pointer to an array decays to a pointer to its element, and can be cast to it; behind an alias it decays and cannot be cast, nor can
-- the pointer itself where the target is behind one
pub record Decay : Type 0 where
  pub row_6 : unfolded decay_rows 6 ≡ pointer u16
  pub row_8 : unfolded decay_rows 8 ≡ alias (pointer u16) 0
  pub row_10 : unfolded decay_rows 10 ≡ pointer (array u16 4)
  pub row_11 : unfolded decay_rows 11 ≡ alias (pointer (array u16 4)) 1
  pub without_alias : Assigned 6 10 true
  pub source_alias : Assigned 6 11 false
  pub target_alias : Assigned 8 10 false

-- Assignable implies castable, for any two type rows of any table of which the condition holds
abbrev pub CastableWhere : (condition : (target source : Ty) → Type 0) → Type 0
CastableWhere condition =
    (w : List ℕ) (count target source : ℕ) → TwoTypes w count target source → condition (unfolded w target) (unfolded w source)
    → types_are_assignable (unfolded w target) (unfolded w source) ≡ true → is_castable_to (unfolded w source) (unfolded w target) ≡ true

-- That neither type is a transparent alias at its top is needed of each of them
pub record BothPlain : Type 0 where
  pub enough : CastableWhere (λ target source. Plain target × Plain source)
  pub source_needed : CastableWhere (λ target source. Plain target) → ⊥
  pub target_needed : CastableWhere (λ target source. Plain source) → ⊥
