-- What the marks say, and that literals stand. Nothing is asked of the module's layout.
use Prim.Native.Nat.{ℕ, zero, suc, ◌+◌, ◌-◌, ◌≤◌, ◌<◌}
use native.Mathlib.Omega.{arith}
use native.Mathlib.Decide.{dec_le}
use mathlib.Core.Path.{◌≡◌, refl, sym, ap, ◌∙◌, subst}
use mathlib.Core.Bool.{Bool, true, false, cond, not, ◌&&◌, and-eq-true_iff}
use mathlib.Core.List.{List, [], ◌∷◌, ◌++◌}
use mathlib.Core.Logic.{◌⊎◌, inl, inr, ⊎_elim}
use lib.Dec.{eqb, leb}
use lib.ListN.{length, get_or, set, take, drop, length-set, replicate, length-replicate, get_or-replicate, get_or-eq_default}
use lib.Seq.{get_or-set_same, get_or-set_other}
use borrow.Author.Tests.{eqb-true, eqb-false, leb-true}
use Rattle.shape.specs.Kinds as kinds
use Rattle.record_bytes.specs.Bytes.{word_at, head_size, Read}
use Rattle.names.specs.Names.{stands}
use Rattle.layout.specs.Layout.{max_bytes, max_depth, kind_at, start_at, stop_at}
use Rattle.trees.specs.Record.{Records, no_records, records_at, records_with, record_with, go_on, holds_free_bytes}
use Rattle.listing.specs.Literals.{literals_in, literal_places, literal_text, mark_all, Marked, Among, IsLiteral, LiteralStands}
use Rattle.listing.proofs.Marking.{here_in, inner_of, mark_length}

-- A place, after 1 is set at some places
module _ (p : ℕ) where
  inside_marks : (m : List ℕ) → get_or m p 0 ≡ 1 → p < length m
  inside_marks m e = elim (dec_le (length m) p) [ yes q ↦ let z = get_or-eq_default m 0 q in absurd (omega arith) | no q ↦ omega arith ]

  set_here : (m : List ℕ) (x : ℕ) → p ≡ x → p < length m → get_or (set m x 1) p 0 ≡ 1
  set_here m x e q = subst (λ (y : ℕ). get_or (set m y 1) p 0 ≡ 1) e (get_or-set_same m p 1 0 q)

  -- a 1 stays
  kept : (l m : List ℕ) → get_or m p 0 ≡ 1 → get_or (mark_all l m) p 0 ≡ 1
  unfolding mark_all
  kept [] m e = e
  kept (x ∷ l) m e = kept l (set m x 1) (go (eqb p x) refl)
    where
      go : (b : Bool) → eqb p x ≡ b → get_or (set m x 1) p 0 ≡ 1
      go true h = set_here m x (eqb-true p x h) (inside_marks m e)
      go false h = get_or-set_other m x p 1 0 (eqb-false p x h) ∙ e

  marks_all : (l m : List ℕ) → Among p l → p < length m → get_or (mark_all l m) p 0 ≡ 1
  unfolding mark_all Among
  marks_all [] m h q = absurd h
  marks_all (x ∷ l) m (inl e) q = kept l (set m x 1) (set_here m x e q)
  marks_all (x ∷ l) m (inr h) q = marks_all l (set m x 1) h (omega (arith, length-set m x 1))

  marks_only : (l m : List ℕ) → get_or (mark_all l m) p 0 ≡ 1 → (get_or m p 0 ≡ 1) ⊎ Among p l
  unfolding mark_all Among
  marks_only [] m e = inl e
  marks_only (x ∷ l) m e = ⊎_elim (λ (h : get_or (set m x 1) p 0 ≡ 1). go (eqb p x) refl h) (λ (h : Among p l). inr (inr h)) (marks_only l (set m x 1) e)
    where
      go : (b : Bool) → eqb p x ≡ b → get_or (set m x 1) p 0 ≡ 1 → (get_or m p 0 ≡ 1) ⊎ ((p ≡ x) ⊎ Among p l)
      go true h g = inr (inl (eqb-true p x h))
      go false h g = inl (sym (get_or-set_other m x p 1 0 (eqb-false p x h)) ∙ g)

-- A record that stands is whole
stands_whole : (s : List ℕ) (at end : ℕ) → stands s at end ≡ true → (head_size ≤ word_at s at) × (stop_at s at ≤ end)
unfolding stands
stands_whole s at end e =
    let a = (and-eq-true_iff (leb (at + 16) end && leb 16 (word_at s at)) (leb (at + word_at s at) end)).0 e in
    let b = (and-eq-true_iff (leb (at + 16) end) (leb 16 (word_at s at))).0 a.0 in
    (leb-true 16 (word_at s at) b.1, leb-true (at + word_at s at) end a.1)

among_append : (p : ℕ) (a b : List ℕ) → Among p (a ++ b) → Among p a ⊎ Among p b
unfolding Among
among_append p [] b h = inr h
among_append p (x ∷ a) b (inl e) = inl (inl e)
among_append p (x ∷ a) b (inr h) = ⊎_elim (λ (g : Among p a). inl (inr g)) (λ (g : Among p b). inr g) (among_append p a b h)

-- The records of literals are whole, by the depth and the number of records
module _ (s : List ℕ) (p : ℕ) where
  here_stands : (at end : ℕ) → end ≤ length s → stands s at end ≡ true → Among p (here_in s at) → LiteralStands s p
  unfolding Among
  here_stands at end q e h = go (eqb (kind_at s at) kinds.integer) h
    where
      go : (b : Bool) → Among p (cond b (at ∷ []) []) → LiteralStands s p
      go true (inl i) = let w = stands_whole s at end e in subst (LiteralStands s) (sym i) (record { head = w.0; whole = omega (arith, w.1) })
      go true (inr i) = absurd i
      go false i = absurd i

  with_stands : (levels : ℕ → ℕ → Records) → ((a e : ℕ) → e ≤ length s → Among p (literals_in (levels a e)) → LiteralStands s p)
      → (n at end : ℕ) → end ≤ length s → Among p (literals_in (records_with n levels s at end)) → LiteralStands s p
  unfolding records_with literals_in Among
  with_stands levels hyp zero at end q h = absurd h
  with_stands levels hyp (suc n) at end q h = go (stands s at end) refl (λ g. with_stands levels hyp n (stop_at s at) end q g) h
    where
      inner : (b : Bool) → stop_at s at ≤ end → Among p (literals_in (go_on (not b) (λ _. levels (start_at s at) (stop_at s at)) no_records)) → LiteralStands s p
      inner true w g = absurd g
      inner false w g = hyp (start_at s at) (stop_at s at) (omega arith) g

      go : (b : Bool) → stands s at end ≡ b → (Among p (literals_in (records_with n levels s (stop_at s at) end)) → LiteralStands s p)
          → Among p (literals_in (go_on b (λ _. record_with levels s at (records_with n levels s (stop_at s at) end)) no_records)) → LiteralStands s p
      go false e rest g = absurd g
      go true e rest g =
          ⊎_elim
          (λ (x : Among p (here_in s at ++ literals_in (inner_of levels s at))).
          ⊎_elim
          (λ (y : Among p (here_in s at)). here_stands at end q e y)
          (λ (y : Among p (literals_in (inner_of levels s at))). inner (holds_free_bytes (kind_at s at)) (stands_whole s at end e).1 y)
          (among_append p (here_in s at) (literals_in (inner_of levels s at)) x))
          rest
          (among_append p (here_in s at ++ literals_in (inner_of levels s at)) (literals_in (records_with n levels s (stop_at s at) end)) g)

  records_stand : (d at end : ℕ) → end ≤ length s → Among p (literals_in (records_at s d at end)) → LiteralStands s p
  unfolding records_at literals_in Among
  records_stand zero at end q h = absurd h
  records_stand (suc d) at end q h = with_stands (records_at s d) (λ a e i. records_stand d a e i) (suc (length s)) at end q h

-- The literals of a module stand
pub literals_stand : (s : List ℕ) (p : ℕ) → IsLiteral s p → LiteralStands s p
unfolding literal_places
literals_stand s p h = records_stand s p max_depth 0 (length s) (omega arith) h

-- Marks that were all 0 say exactly where the literals are
module _ (s marks₀ : List ℕ) (given : (length s ≤ max_bytes) × (marks₀ ≡ replicate max_bytes 0)) where
  wide : length marks₀ ≡ max_bytes
  wide = ap length given.1 ∙ length-replicate {A = ℕ} max_bytes 0

  pub marks_room : length s ≤ length marks₀
  marks_room = omega (arith, wide, given.0)

  clean : (p : ℕ) → p < length s → get_or marks₀ p 0 ≡ 0
  clean p q = ap (λ (m : List ℕ). get_or m p 0) given.1 ∙ get_or-replicate max_bytes p 0 0 (omega (arith, given.0))

  pub marks_are : (marks : List ℕ) → marks ≡ mark_all (literals_in (records_at s max_depth 0 (length s))) marks₀ → Marked s marks
  unfolding literal_places
  marks_are marks e =
      record {
        room = let l = ap length e ∙ mark_length (literal_places s) marks₀ in omega (arith, l, marks_room);
        is = λ p q h.
            ⊎_elim (λ (g : get_or marks₀ p 0 ≡ 1). absurd (omega (arith, clean p q, g))) (λ (g : IsLiteral s p). g)
            (marks_only p (literal_places s) marks₀ (sym (ap (λ (m : List ℕ). get_or m p 0) e) ∙ h));
        all = λ p h.
            let t = literals_stand s p h in
            (omega (arith, t.head, t.whole), ap (λ (m : List ℕ). get_or m p 0) e ∙ marks_all p (literal_places s) marks₀ h (omega (arith, t.head, t.whole, marks_room)));
      }

pub all_marked : (s before marks : List ℕ) → marks ≡ mark_all (literals_in (records_at s max_depth 0 (length s))) before → marks ≡ mark_all (literal_places s) before
unfolding literal_places
all_marked s before marks e = e

-- A literal's digits
module _ (s : List ℕ) (place long : ℕ) (read : Read (word_at s place) 32 long) where
  pub literal_digits : 24 ≤ long → take (place + long - (place + 24)) (drop (place + 24) s) ≡ literal_text s place
  unfolding literal_text
  literal_digits p = ap (λ (n : ℕ). take (place + n - (place + 24)) (drop (place + 24) s)) read.is

  pub literal_short : long < 24 → [] ≡ literal_text s place
  unfolding literal_text
  literal_short p = let e : 0 ≡ place + word_at s place - (place + 24) = omega (arith, read.is) in ap (λ (n : ℕ). take n (drop (place + 24) s)) e
