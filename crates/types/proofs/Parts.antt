-- A table has the parts of its types.
use Prim.Native.Nat.{ℕ, zero, suc, ◌≤◌, ◌<◌}
use mathlib.Core.Path.{◌≡◌, refl, sym, ap, ◌∙◌, subst}
use mathlib.Core.List.{List, [], ◌∷◌, ◌++◌}
use mathlib.Core.Bool.{Bool, true, false, ◌||◌, or_assoc, or-false, true≢false, false≢true}
use mathlib.Core.Logic.{◌⊎◌, inl, inr, ⊎_elim}
use native.Mathlib.Omega.{arith}
use borrow.Author.Tests.{eqb-false}
use lib.Dec.{eqb}
use Rattle.types.specs.Ty.{Ty, end, node, same, member, parts, first_of, second_of}
use Rattle.types.specs.Table.{row_at, build, unfolded, has_type, Table}
use Rattle.types.specs.Post.{Added}
use Rattle.types.proofs.Laws.{either, same_true, unfolded_zero, unfolded_row, first_lower, second_lower, row_not_end}
use Rattle.types.proofs.Set.{has_here}

pub member_append : (u : Ty) (a b : List Ty) → member u (a ++ b) ≡ (member u a || member u b)
unfolding member
member_append u [] b = refl
member_append u (x ∷ a) b = ap (λ (y : Bool). same u x || y) (member_append u a b) ∙ sym (or_assoc (same u x) (member u a) (member u b))

-- A part of a type is the type itself, or a part of one of its two parts
part_cases : (u t : Ty) → member u (parts t) ≡ true → (u ≡ t) ⊎ ((member u (parts (first_of t)) ≡ true) ⊎ (member u (parts (second_of t)) ≡ true))
unfolding member parts
part_cases u end e = absurd (true≢false (sym e))
part_cases u (node k a b s n) e =
    ⊎_elim
    (λ (q : same u (node k a b s n) ≡ true). inl (same_true u (node k a b s n) q))
    (λ (q : member u (parts a ++ parts b) ≡ true). inr (either (member u (parts a)) (member u (parts b)) (sym (member_append u (parts a) (parts b)) ∙ q)))
    (either (same u (node k a b s n)) (member u (parts a ++ parts b)) e)

-- A table has all parts of its row n
abbrev HasParts : List ℕ → (count n : ℕ) → Type 0
HasParts w count n = (u : Ty) → member u (parts (unfolded w n)) ≡ true → has_type w count u ≡ true

module _ (w : List ℕ) (c : ℕ) (t : Table w c) where
  none_of_end : (u v : Ty) → v ≡ end → member u (parts v) ≡ true → has_type w c u ≡ true
  unfolding member parts
  none_of_end u v z e = absurd (false≢true (ap (λ (x : Ty). member u (parts x)) (sym z) ∙ e))

  parts_step : (n : ℕ) → ((m : ℕ) → m < n → HasParts w c m) → n ≤ c → HasParts w c n
  parts_step zero lower h u e = none_of_end u (unfolded w 0) (unfolded_zero w) e
  parts_step (suc m) lower h u e = ⊎_elim here (⊎_elim in_first (in_second (eqb (row_at w (suc m)).kind 7) refl)) (part_cases u (unfolded w (suc m)) e)
    where
      l : 1 ≤ suc m
      l = omega arith

      row : unfolded w (suc m) ≡ build (row_at w (suc m)) (unfolded w)
      row = unfolded_row w c t (suc m) l h

      here : u ≡ unfolded w (suc m) → has_type w c u ≡ true
      here q = has_here w c (suc m) u l h (sym q)

      in_first : member u (parts (first_of (unfolded w (suc m)))) ≡ true → has_type w c u ≡ true
      in_first q = lower (row_at w (suc m)).first (first_lower w c t (suc m) l h) u (subst (λ (x : Ty). member u (parts x) ≡ true) (ap first_of row) q)

      in_second : (b : Bool) → eqb (row_at w (suc m)).kind 7 ≡ b → member u (parts (second_of (unfolded w (suc m)))) ≡ true → has_type w c u ≡ true
      in_second true k q = none_of_end u (second_of (unfolded w (suc m))) (rw k at (ap second_of row)) q
      in_second false k q =
          lower (row_at w (suc m)).second (second_lower w c t (suc m) l h (eqb-false (row_at w (suc m)).kind 7 k)) u
          (subst (λ (x : Ty). member u (parts x) ≡ true) (rw k at (ap second_of row)) q)

  parts_below : (b n : ℕ) → n < b → n ≤ c → HasParts w c n
  parts_below zero n l h = absurd (omega arith)
  parts_below (suc b) n l h = parts_step n (λ m k. parts_below b m (omega arith) (omega arith)) h

  pub has_parts : (n : ℕ) → n ≤ c → HasParts w c n
  has_parts n h = parts_below (suc n) n (omega arith) h

-- A type that is met is one of the table's, with its parts
self_part : (u t : Ty) → (end ≡ t → ⊥) → member u (parts t) ≡ false → same u t ≡ false
unfolding member parts
self_part u end ne e = absurd (ne refl)
self_part u (node k a b s n) ne e = go (same u (node k a b s n)) refl e
  where
    go : (d : Bool) → same u (node k a b s n) ≡ d → (same u (node k a b s n) || member u (parts a ++ parts b)) ≡ false → same u (node k a b s n) ≡ false
    go true q p = absurd (true≢false (rw q at p))
    go false q p = q

module _ (w : List ℕ) (c : ℕ) (l : List Ty) (members : (u : Ty) → has_type w c u ≡ member u l) where
  pub met_members : (t : Ty) (w' : List ℕ) (n c' : ℕ) → Added w c t w' n c' → (u : Ty) → has_type w' c' u ≡ member u (parts t ++ l)
  met_members t w' n c' a u = go (member u (parts t)) refl ∙ sym (member_append u (parts t) l)
    where
      go : (b : Bool) → member u (parts t) ≡ b → has_type w' c' u ≡ (member u (parts t) || member u l)
      go true e =
          let known : has_type w' c' u ≡ true = has_parts w' c' a.table n a.high u (ap (λ (x : Ty). member u (parts x)) a.type ∙ e) in
          rw (e, known)
      go false e =
          let other : same u t ≡ false = self_part u t (λ z. row_not_end w' c' a.table n a.low a.high (z ∙ sym a.type)) e in
          a.types u ∙ rw (e, other, members u, or-false)

  pub row_members : Table w c → (n : ℕ) → n ≤ c → (u : Ty) → has_type w c u ≡ member u (parts (unfolded w n) ++ l)
  row_members t n h u = go (member u (parts (unfolded w n))) refl ∙ sym (member_append u (parts (unfolded w n)) l)
    where
      go : (b : Bool) → member u (parts (unfolded w n)) ≡ b → has_type w c u ≡ (member u (parts (unfolded w n)) || member u l)
      go true e = let known : has_type w c u ≡ true = has_parts w c t n h u e in rw (e, known)
      go false e = rw e (members u)
