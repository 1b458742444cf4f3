-- A cast keeps a value's words; what is assignable has one backend type.
use Prim.Native.Nat.{ℕ}
use mathlib.Core.Path.{◌≡◌, refl, sym, ap, ◌∙◌}
use mathlib.Core.List.{List}
use mathlib.Core.Bool.{Bool, true, false, cond, ◌&&◌, ◌||◌, or-true, or-false, and-false, false≢true}
use mathlib.Core.Option.{Option, none, some, map}
use mathlib.Core.Logic.{◌⊎◌, inl, inr, ⊎_elim}
use native.Mathlib.Omega.{arith}
use borrow.Author.Tests.{eqb-true}
use lib.Dec.{eqb, leb}
use Rattle.types.specs.Ty.{Ty, end, node, is, kind_of, first_of, same, desugar, u16_kind, i16_kind, pointer_kind, distinct_kind}
use Rattle.types.specs.Table.{size_word_at, up_to, unfolded}
use Rattle.types.specs.WordSize.{IrType, to_ir_type, ir_word_size}
use Rattle.types.proofs.Laws.{both, either, same_true, same_refl}
use Rattle.types.proofs.Query.{desugar_other}
use Rattle.relations.specs.Relations.{pair, types_are_assignable, is_integral_kind, cast_kinds, cast_fits, is_castable_to}
use Rattle.relations.specs.WordSize.{largest, answered, word_size_of, as_word}
use Rattle.relations.specs.TypeRows.{TwoTypes}
use Rattle.relations.specs.Footprint.{is_missing, UnknownPrevents, SameBackend, exact_words, Plain, Footprint}
use Rattle.relations.specs.Decay.{decay_rows, decay_count, BothPlain}
use Rattle.relations.specs.declared.WordSize.{WordSize}
use Rattle.relations.specs.declared.WordSize.TheVariants.{Words, TooLarge, Unknown}
use Rattle.relations.proofs.AssignLaws.{turn, assign_turn}
use Rattle.relations.proofs.CastLaws.{target_fits, target_turn, source_turn}
use Rattle.relations.proofs.WordLaws.{size_told}
use Rattle.relations.proofs.BackendLaws.{kind_ir, desugar_ir, turn_cases, assigned_ir, unknown_prevents}
use Rattle.relations.proofs.Decay.{decay}

-- The kinds that fit by themselves: u16, i16 and pointers, of one word each
one_word : (kind : ℕ) → Bool
one_word k = is_integral_kind k || eqb k pointer_kind

one_word_lem : (t : Ty) → one_word (kind_of t) ≡ true → exact_words t ≡ some 1
unfolding one_word exact_words ir_word_size
one_word_lem t e = ⊎_elim (λ q. ⊎_elim of_u16_lem of_i16_lem (either (eqb (kind_of t) u16_kind) (eqb (kind_of t) i16_kind) q)) of_pointer (either (is_integral_kind (kind_of t)) (eqb (kind_of t) pointer_kind) e)
  where
    of_u16_lem : eqb (kind_of t) u16_kind ≡ true → exact_words t ≡ some 1
    of_u16_lem q = ap (map ir_word_size) (kind_ir t u16_kind (omega arith) (eqb-true (kind_of t) u16_kind q))

    of_i16_lem : eqb (kind_of t) i16_kind ≡ true → exact_words t ≡ some 1
    of_i16_lem q = ap (map ir_word_size) (kind_ir t i16_kind (omega arith) (eqb-true (kind_of t) i16_kind q))

    of_pointer : eqb (kind_of t) pointer_kind ≡ true → exact_words t ≡ some 1
    of_pointer q = ap (map ir_word_size) (kind_ir t pointer_kind (omega arith) (eqb-true (kind_of t) pointer_kind q))

one_of_three : (k : ℕ) → (eqb k u16_kind ≡ false → eqb k i16_kind ≡ false → eqb k pointer_kind ≡ false → ⊥) → one_word k ≡ true
unfolding one_word
one_of_three k some-of-them = go (eqb k u16_kind) refl (eqb k i16_kind) refl (eqb k pointer_kind) refl
  where
    go : (u : Bool) → eqb k u16_kind ≡ u → (i : Bool) → eqb k i16_kind ≡ i → (p : Bool) → eqb k pointer_kind ≡ p → (u || i || p) ≡ true
    go true eu i ei p ep = refl
    go false eu true ei p ep = refl
    go false eu false ei true ep = refl
    go false eu false ei false ep = absurd (some-of-them eu ei ep)

-- Both of two kinds that fit are of these
source_one : (j k : ℕ) → cast_kinds j k ≡ true → one_word j ≡ true
source_one j k e = one_of_three j (λ u i p. false≢true (simp (u, i, p) at e))

target_one : (j k : ℕ) → cast_kinds j k ≡ true → one_word k ≡ true
target_one j k e = one_of_three k (λ u i p. false≢true (simp (u, i, p, and-false, or-false) at e))

kinds_words : (s t : Ty) → cast_kinds (kind_of s) (kind_of t) ≡ true → exact_words s ≡ exact_words t
kinds_words s t e = one_word_lem s (source_one (kind_of s) (kind_of t) e) ∙ sym (one_word_lem t (target_one (kind_of s) (kind_of t) e))

-- A pair that fits has the same words
fits_words : (s t : Ty) → cast_fits (pair s t) ≡ true → exact_words s ≡ exact_words t
unfolding exact_words
fits_words s t e =
    ⊎_elim
    (λ q. kinds_words s t q)
    (λ q. ap (map ir_word_size) (sym (desugar_ir s) ∙ ap to_ir_type (same_true (desugar s) (desugar t) q) ∙ desugar_ir t))
    (either (cast_kinds (kind_of s) (kind_of t)) (same (desugar s) (desugar t)) e)

-- A distinct alias has the words of what it stands for
stripped_words : (t : Ty) → is distinct_kind t ≡ true → exact_words t ≡ exact_words (first_of t)
unfolding exact_words
stripped_words t e = ap (map ir_word_size) (kind_ir t distinct_kind (omega arith) (eqb-true (kind_of t) distinct_kind e))

-- A search over the strips of a type that finds a type of so many words was over a type of as many
module _ (searched test : Ty → Bool) (turn : (t : Ty) → searched t ≡ (test t || (is distinct_kind t && searched (first_of t))))
    (words : Option ℕ) (tested : (t : Ty) → test t ≡ true → words ≡ exact_words t) where
  found_words : (t : Ty) → searched t ≡ true → words ≡ exact_words t
  found_words end e = ⊎_elim (tested end) (λ q. absurd (false≢true q)) (either (test end) false (sym (turn end) ∙ e))
  found_words (node k a b z n) e = go (found_words a) (either (test t) (eqb k distinct_kind && searched a) (sym (turn t) ∙ e))
    where
      t : Ty
      t = node k a b z n

      go : (searched a ≡ true → words ≡ exact_words a) → (test t ≡ true) ⊎ ((eqb k distinct_kind && searched a) ≡ true) → words ≡ exact_words t
      go inner (inl q) = tested t q
      go inner (inr q) = let r = both (eqb k distinct_kind) (searched a) q in inner r.1 ∙ sym (stripped_words t r.0)

-- Types that can be cast have the same words, however many, or neither has any
pub cast_exact : (s t : Ty) → is_castable_to s t ≡ true → exact_words s ≡ exact_words t
cast_exact s t e =
    let target : (u : Ty) → target_fits u t ≡ true → exact_words t ≡ exact_words u =
    λ u q. sym (found_words (target_fits u) (λ v. cast_fits (pair u v)) (target_turn u) (exact_words u) (fits_words u) t q) in
    sym (found_words (λ u. is_castable_to u t) (λ u. target_fits u t) (source_turn t) (exact_words t) target s e)

-- So they have the same words answer
told_of : Option ℕ → WordSize
told_of none = Unknown
told_of (some n) = cond (leb n largest) (Words n) TooLarge

told_of_lem : (o : Option IrType) → answered o ≡ told_of (map ir_word_size o)
unfolding told_of
told_of_lem none = refl
told_of_lem (some ir) = refl

pub cast_words : (s t : Ty) → is_castable_to s t ≡ true → word_size_of s ≡ word_size_of t
unfolding exact_words word_size_of
cast_words s t e = told_of_lem (to_ir_type s) ∙ ap told_of (cast_exact s t e) ∙ sym (told_of_lem (to_ir_type t))

-- and their rows the same fifth word
pub cast_sizes : (w : List ℕ) (count source target : ℕ) → TwoTypes w count source target → is_castable_to (unfolded w source) (unfolded w target) ≡ true
    → size_word_at w source ≡ size_word_at w target
cast_sizes w count source target types e =
    sym (size_told w count source (record { table = types.table; type = types.first }))
    ∙ ap as_word (cast_words (unfolded w source) (unfolded w target) e)
    ∙ size_told w count target (record { table = types.table; type = types.second })

-- Without a transparent alias at the top of either, what is assignable fits as it stands
module _ (t s : Ty) (plain-target : Plain t) (plain-source : Plain s) where
  assigned_turn : types_are_assignable t s ≡ true → turn t s ≡ true
  assigned_turn e = sym (λ i. turn (desugar_other t plain-target i) (desugar_other s plain-source i)) ∙ sym (assign_turn t s) ∙ e

  equal_fits : t ≡ s → cast_fits (pair s t) ≡ true
  equal_fits e = (λ i. cast_kinds (kind_of s) (kind_of t) || same (desugar s) (desugar (e i))) ∙ rw (same_refl (desugar s)) (or-true (cast_kinds (kind_of s) (kind_of t)))

  pointers_fit : kind_of t ≡ pointer_kind → kind_of s ≡ pointer_kind → cast_fits (pair s t) ≡ true
  pointers_fit p q = rw (p, q)

  pub assigned_castable : types_are_assignable t s ≡ true → is_castable_to s t ≡ true
  assigned_castable e = source_turn t s ∙ rw (target_turn s t, turn_cases (cast_fits (pair s t) ≡ true) t s (assigned_turn e) equal_fits pointers_fit)

-- The same backend type, or none on either side and an Unknown on both
same_backend : (t s : Ty) → UnknownPrevents t → UnknownPrevents s → to_ir_type t ≡ to_ir_type s → SameBackend t s
same_backend t s prevents-t prevents-s e = go (to_ir_type t) refl
  where
    go : (o : Option IrType) → to_ir_type t ≡ o → SameBackend t s
    go (some ir) q = inl (ir, record { first = q; second = sym e ∙ q })
    go none q =
        let q' = sym e ∙ q in
        inr (record { unknown = prevents-t ∙ ap is_missing q; missing = q }, record { unknown = prevents-s ∙ ap is_missing q'; missing = q' })

-- Any two type rows of any rows that obey the rules
pub footprint : (w : List ℕ) (count target source : ℕ) → TwoTypes w count target source → Footprint (unfolded w target) (unfolded w source)
footprint w count target source types =
    let t = unfolded w target in
    let s = unfolded w source in
    let of-target = unknown_prevents w count types.table target types.first.high in
    let of-source = unknown_prevents w count types.table source types.second.high in
    record {
      target_unknown = of-target;
      source_unknown = of-source;
      assigned = λ e. same_backend t s of-target of-source (assigned_ir t s e);
      cast = λ e words known. sym (cast_words s t e) ∙ known;
      castable = assigned_castable t s;
    }

-- That both are plain is enough; with an alias at the top of either it is not so
pub both_plain : BothPlain
unfolding unfolded up_to
both_plain =
    record {
      enough = λ w count target source types plain. assigned_castable (unfolded w target) (unfolded w source) plain.0 plain.1;
      source_needed = λ implied.
          let shown = decay.source_alias in
          false≢true (sym shown.cast ∙ implied decay_rows decay_count 6 11 shown.types (λ e. omega arith) shown.assigned);
      target_needed = λ implied.
          let shown = decay.target_alias in
          false≢true (sym shown.cast ∙ implied decay_rows decay_count 8 10 shown.types (λ e. omega arith) shown.assigned);
    }
