-- A cast is decided by the last strips of its two types: what a search over all pairs finds is found at them, or where one of them,
-- desugared, is a strip of the other type.
use Prim.Native.Nat.{ℕ, ◌+◌}
use mathlib.Core.Path.{◌≡◌, refl, sym, ap, ◌∙◌}
use mathlib.Core.List.{List}
use mathlib.Core.Bool.{Bool, true, false, cond, ◌&&◌, ◌||◌, or-false, and-false, false≢true}
use mathlib.Core.Logic.{◌⊎◌, inl, inr, ⊎_elim}
use native.Mathlib.Omega.{arith}
use borrow.Author.Tests.{eq-eqb, eqb-true, eqb-false}
use lib.Dec.{eqb}
use Rattle.types.specs.Ty.{Ty, end, node, is, kind_of, first_of, same, member, desugar, strip_to, distinct_kind}
use Rattle.types.specs.Table.{unfolded}
use Rattle.types.specs.Post.{TypePart}
use Rattle.types.proofs.Query.{desugar_other, strip_to_here, strip_to_other, strip_to_next}
use Rattle.types.proofs.Laws.{both, either, same_refl, same_true, same_false, unfolded_zero}
use Rattle.relations.specs.Relations.{pair, strips, cast_fits, is_castable_to}
use Rattle.relations.specs.Strips.{last_strip, is_strip_of}
use Rattle.relations.specs.TypeRows.{TwoTypes}
use Rattle.relations.proofs.CastLaws.{strips_turn, target_fits, target_turn, source_turn, fits_distinct_source, fits_distinct_target}
use Rattle.relations.proofs.CastLaws.{fits_itself, same_rows}

-- The last strip of a type that is no distinct alias, and of one that is
last_here : (t : Ty) → is distinct_kind t ≡ false → last_strip t ≡ t
unfolding last_strip
last_here end e = refl
last_here (node k a b s n) e = rw e

last_next : (t : Ty) → is distinct_kind t ≡ true → last_strip t ≡ last_strip (first_of t)
unfolding last_strip
last_next end e = refl
last_next (node k a b s n) e = rw e

-- Stripping that wants nothing goes on to the last strip
strip_all : (t : Ty) → strip_to end t ≡ last_strip t
unfolding strip_to last_strip same
strip_all end = refl
strip_all (node k a b s n) = go (eqb k distinct_kind) (strip_all a)
  where
    go : (c : Bool) → strip_to end a ≡ last_strip a → cond (c && true) (strip_to end a) (node k a b s n) ≡ cond c (last_strip a) (node k a b s n)
    go true e = e
    go false e = refl

pub last_told : (w : List ℕ) (count n r : ℕ) → TypePart w count (n + 1) (strip_to (unfolded w 0) (unfolded w n)) r → TypePart w count (n + 1) (last_strip (unfolded w n)) r
last_told w count n r p =
    record { is = p.is; lower = p.lower; type = p.type ∙ ap (λ (u : Ty). strip_to u (unfolded w n)) (unfolded_zero w) ∙ strip_all (unfolded w n) }

-- Whether a type is among the strips of another, turn by turn
strip_turn : (u t : Ty) → member u (strips t) ≡ (same u t || (is distinct_kind t && member u (strips (first_of t))))
unfolding member
strip_turn u = strips_turn (member u) (same u) refl (λ t l. refl)

-- Two distinct aliases, or none
same_kind : (u t : Ty) → same u t ≡ true → is distinct_kind u ≡ is distinct_kind t
same_kind u t e = ap (is distinct_kind) (same_true u t e)

swapped : (u t : Ty) → same u t ≡ same t u
swapped u t = go (same t u) refl
  where
    go : (c : Bool) → same t u ≡ c → same u t ≡ same t u
    go true e = ap (λ (x : Ty). same x t) (sym (same_true t u e)) ∙ same_refl t ∙ sym e
    go false e = same_false u t (λ q. false≢true (sym e ∙ ap (λ (x : Ty). same x u) (sym q) ∙ same_refl u)) ∙ sym e

-- A distinct alias is none of the strips of a type that is no distinct alias
no_strip : (u t : Ty) → is distinct_kind t ≡ false → (is distinct_kind u && member u (strips t)) ≡ false
no_strip u t e = ap (is distinct_kind u &&◌) (strip_turn u t ∙ rw (e, or-false (same u t))) ∙ go (same u t) refl
  where
    go : (c : Bool) → same u t ≡ c → (is distinct_kind u && same u t) ≡ false
    go true q = rw (same_kind u t q, e)
    go false q = rw q (and-false (is distinct_kind u))

-- Of the strips of the target, one that is a distinct alias fits exactly if the source desugars to it; else only the last can
target_mix : (here last alias below : Bool) → (here ≡ true → alias ≡ true) → (here || (last || (alias && below))) ≡ (last || (alias && (here || below)))
target_mix true true alias below h = refl
target_mix true false alias below h = rw (h refl)
target_mix false last alias below h = refl

target_last : (s t : Ty) → target_fits s t ≡ (cast_fits (pair s (last_strip t)) || is_strip_of s t)
target_last s end = target_turn s end ∙ sym (λ i. cast_fits (pair s (last_here end refl i)) || no_strip (desugar s) end refl i)
target_last s (node k a b z n) = target_turn s t ∙ go (target_last s a) (eqb k distinct_kind) refl
  where
    t : Ty
    t = node k a b z n

    go : target_fits s a ≡ (cast_fits (pair s (last_strip a)) || is_strip_of s a) → (c : Bool) → eqb k distinct_kind ≡ c
        → (cast_fits (pair s t) || (eqb k distinct_kind && target_fits s a)) ≡ (cast_fits (pair s (last_strip t)) || is_strip_of s t)
    go inner false e = (λ i. cast_fits (pair s t) || (e i && target_fits s a)) ∙ sym (λ i. cast_fits (pair s (last_here t e i)) || no_strip (desugar s) t e i)
    go inner true e =
        let here = fits_distinct_target s t (eqb-true k distinct_kind e) in
        let strip = strip_turn (desugar s) t ∙ (λ i. same (desugar s) t || (e i && member (desugar s) (strips a))) in
        (λ i. here i || (e i && inner i))
        ∙ target_mix (same (desugar s) t) (cast_fits (pair s (last_strip a))) (is distinct_kind (desugar s)) (member (desugar s) (strips a)) (λ q. same_kind (desugar s) t q ∙ e)
        ∙ sym (λ i. cast_fits (pair s (last_next t e i)) || (is distinct_kind (desugar s) && strip i))

-- A strip of a type has its last strip
strip_last : (u t : Ty) → member u (strips t) ≡ true → last_strip u ≡ last_strip t
strip_last u end e = ⊎_elim (λ q. ap last_strip (same_true u end q)) (λ q. absurd (false≢true q)) (either (same u end) false (sym (strip_turn u end) ∙ e))
strip_last u (node k a b z n) e = go (strip_last u a) (either (same u t) (eqb k distinct_kind && member u (strips a)) (sym (strip_turn u t) ∙ e))
  where
    t : Ty
    t = node k a b z n

    go : (member u (strips a) ≡ true → last_strip u ≡ last_strip a) → (same u t ≡ true) ⊎ ((eqb k distinct_kind && member u (strips a)) ≡ true) → last_strip u ≡ last_strip t
    go inner (inl q) = ap last_strip (same_true u t q)
    go inner (inr q) = let r = both (eqb k distinct_kind) (member u (strips a)) q in inner r.1 ∙ sym (last_next t r.0)

-- So where a source is a strip of the target, their last strips fit
strip_fits : (s t : Ty) → member s (strips t) ≡ true → target_fits (last_strip s) t ≡ true
strip_fits s t e =
    target_last (last_strip s) t
    ∙ ap (λ (u : Ty). cast_fits (pair (last_strip s) u) || is_strip_of (last_strip s) t) (sym (strip_last s t e))
    ∙ rw (fits_itself (last_strip s))

source_mix : (here strip last alias below : Bool) → (here ≡ true → alias ≡ true) → (strip ≡ true → last ≡ true)
    → ((here || strip) || (last || (alias && below))) ≡ (last || (alias && (here || below)))
source_mix true strip true alias below h f = refl
source_mix true strip false alias below h f = rw (h refl)
source_mix false true last alias below h f = rw (f refl)
source_mix false false last alias below h f = refl

source_last : (s t : Ty) → is_castable_to s t ≡ (target_fits (last_strip s) t || is_strip_of (last_strip t) s)
source_last end t = source_turn t end ∙ sym (λ i. target_fits (last_here end refl i) t || no_strip (desugar (last_strip t)) end refl i)
source_last (node k a b z n) t = source_turn t s ∙ go (source_last a t) (eqb k distinct_kind) refl
  where
    s : Ty
    s = node k a b z n

    v : Ty
    v = desugar (last_strip t)

    go : is_castable_to a t ≡ (target_fits (last_strip a) t || is_strip_of (last_strip t) a) → (c : Bool) → eqb k distinct_kind ≡ c
        → (target_fits s t || (eqb k distinct_kind && is_castable_to a t)) ≡ (target_fits (last_strip s) t || is_strip_of (last_strip t) s)
    go inner false e = (λ i. target_fits s t || (e i && is_castable_to a t)) ∙ sym (λ i. target_fits (last_here s e i) t || no_strip v s e i)
    go inner true e =
        let distinct = eqb-true k distinct_kind e in
        let plain : desugar s ≡ s = desugar_other s (λ h. omega arith) in
        let here = fits_distinct_source s (last_strip t) distinct ∙ swapped s v in
        let strip : is_strip_of s t ≡ member s (strips t) = (λ i. is distinct_kind (plain i) && member (plain i) (strips t)) ∙ rw e in
        let below = strip_turn v s ∙ (λ i. same v s || (e i && member v (strips a))) in
        (λ i. target_last s t i || (e i && inner i))
        ∙ (λ i. (here i || strip i) || (target_fits (last_strip a) t || is_strip_of (last_strip t) a))
        ∙ source_mix (same v s) (member s (strips t)) (target_fits (last_strip a) t) (is distinct_kind v) (member v (strips a)) (λ q. same_kind v s q ∙ e)
        (λ q. ap (λ (u : Ty). target_fits u t) (sym (last_next s e)) ∙ strip_fits s t q)
        ∙ sym (λ i. target_fits (last_next s e i) t || (is distinct_kind v && below i))

-- The three tests by which a cast is decided
pub by_last_strips : (s t : Ty) → is_castable_to s t ≡ ((cast_fits (pair (last_strip s) (last_strip t)) || is_strip_of (last_strip s) t) || is_strip_of (last_strip t) s)
by_last_strips s t = source_last s t ∙ ap (◌|| is_strip_of (last_strip t) s) (target_last (last_strip s) t)

-- Their exits: what is stripped to a type that is wanted is that type, exactly if it is a strip
strip_member : (u t : Ty) → kind_of u ≡ distinct_kind → same (strip_to u t) u ≡ member u (strips t)
strip_member u end e = ap (λ (x : Ty). same x u) (strip_to_other u end (λ h. omega arith)) ∙ swapped end u ∙ sym (strip_turn u end ∙ or-false (same u end))
strip_member u (node k a b z n) e = go (strip_member u a e) (eqb k distinct_kind) refl (same u t) refl
  where
    t : Ty
    t = node k a b z n

    go : same (strip_to u a) u ≡ member u (strips a) → (c : Bool) → eqb k distinct_kind ≡ c → (d : Bool) → same u t ≡ d → same (strip_to u t) u ≡ member u (strips t)
    go inner false q d r =
        ap (λ (x : Ty). same x u) (strip_to_other u t (eqb-false k distinct_kind q)) ∙ swapped t u ∙ sym (strip_turn u t ∙ rw q (or-false (same u t)))
    go inner true q true r =
        ap (λ (x : Ty). same x u) (strip_to_here u t (same_true u t r)) ∙ swapped t u ∙ r ∙ sym (strip_turn u t ∙ rw r)
    go inner true q false r =
        ap (λ (x : Ty). same x u) (strip_to_next u t (eqb-true k distinct_kind q) r) ∙ inner ∙ sym (strip_turn u t ∙ rw (r, q))

module _ (w : List ℕ) (count n top : ℕ) (two : TwoTypes w count n top) (wanted : ℕ) (part : TypePart w count (n + 1) (desugar (unfolded w n)) wanted)
    (k : ℕ) (k-is : k ≡ kind_of (unfolded w wanted)) where
  pub strip_reached : k ≡ distinct_kind → (r : ℕ) → TypePart w count (top + 1) (strip_to (unfolded w wanted) (unfolded w top)) r
      → eqb r wanted ≡ is_strip_of (unfolded w n) (unfolded w top)
  strip_reached distinct r reached =
      same_rows w count r wanted (record { table = two.table; first = reached.is; second = part.is })
      ∙ ap (λ (x : Ty). same x (unfolded w wanted)) reached.type
      ∙ strip_member (unfolded w wanted) (unfolded w top) (sym k-is ∙ distinct)
      ∙ sym (ap (λ (u : Ty). is distinct_kind u && member u (strips (unfolded w top))) (sym part.type) ∙ rw (← k-is, eq-eqb k distinct_kind distinct))

module _ (w : List ℕ) (count source target from to : ℕ) (f : TypePart w count (source + 1) (last_strip (unfolded w source)) from)
    (t : TypePart w count (target + 1) (last_strip (unfolded w target)) to) (fits : Bool) (fits_is : fits ≡ cast_fits (pair (unfolded w from) (unfolded w to))) where
  tests : is_castable_to (unfolded w source) (unfolded w target)
      ≡ ((cast_fits (pair (unfolded w from) (unfolded w to)) || is_strip_of (unfolded w from) (unfolded w target)) || is_strip_of (unfolded w to) (unfolded w source))
  tests =
      by_last_strips (unfolded w source) (unfolded w target)
      ∙ sym (λ i. (cast_fits (pair (f.type i) (t.type i)) || is_strip_of (f.type i) (unfolded w target)) || is_strip_of (t.type i) (unfolded w source))

  pub last_fit : fits ≡ true → true ≡ is_castable_to (unfolded w source) (unfolded w target)
  last_fit hit = sym (tests ∙ rw (← fits_is, hit))

  module _ (miss : fits ≡ false) (strip : Bool) (strip-is : strip ≡ is_strip_of (unfolded w from) (unfolded w target)) where
    pub target_fits_lem : strip ≡ true → true ≡ is_castable_to (unfolded w source) (unfolded w target)
    target_fits_lem hit = sym (tests ∙ rw (← fits_is, miss, ← strip-is, hit))

    pub source_decides : strip ≡ false → (r : Bool) → r ≡ is_strip_of (unfolded w to) (unfolded w source) → r ≡ is_castable_to (unfolded w source) (unfolded w target)
    source_decides other r e = e ∙ sym (tests ∙ rw (← fits_is, miss, ← strip-is, other))
