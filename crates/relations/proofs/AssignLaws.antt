-- Laws of assignable types, for the turns of its loop.
use Prim.Native.Nat.{ℕ, ◌+◌}
use mathlib.Core.Path.{◌≡◌, refl, sym, ◌∙◌}
use mathlib.Core.List.{List}
use mathlib.Core.Bool.{Bool, true, false, ◌&&◌, ◌||◌, or-false}
use borrow.Author.Tests.{eq-eqb, ne_eqb}
use lib.Dec.{eqb}
use Rattle.types.specs.Ty.{Ty, end, node, is, kind_of, first_of, same, desugar, pointer_kind, array_kind, alias_kind}
use Rattle.types.specs.Table.{Table, unfolded}
use Rattle.types.specs.Post.{TypePart}
use Rattle.relations.specs.Relations.{types_are_assignable}
use Rattle.types.proofs.Laws.{injective, same_refl, same_false}

-- One turn, at what both sides desugar to
abbrev pub turn : (t s : Ty) → Bool
turn t s = same t s || (is pointer_kind t && is pointer_kind s && is array_kind (first_of s) && types_are_assignable (first_of t) (first_of (first_of s)))

pub assign_turn : (t s : Ty) → types_are_assignable t s ≡ turn (desugar t) (desugar s)
unfolding types_are_assignable desugar
assign_turn end s = sym (or-false _)
assign_turn (node k a b z n) s = go (eqb k alias_kind) refl (assign_turn a s)
  where
    go : (c : Bool) → eqb k alias_kind ≡ c → types_are_assignable a s ≡ turn (desugar a) (desugar s) → types_are_assignable (node k a b z n) s ≡ turn (desugar (node k a b z n)) (desugar s)
    go true e ih = rw e ih
    go false e ih = rw e

-- One row on both sides, whatever aliases it has on top
pub assign_one : (w : List ℕ) (to from : ℕ) (answer : Bool) → types_are_assignable (unfolded w to) (unfolded w from) ≡ answer → to ≡ from → true ≡ answer
assign_one w to from answer means e = sym (sym means ∙ assign_turn (unfolded w to) (unfolded w from) ∙ rw (← e, same_refl))

-- The rows t and s are what the rows `to` and `from` desugar to, and the answer is theirs
module _ (w : List ℕ) (count : ℕ) (table : Table w count) (to from t s : ℕ) (answer : Bool)
    (means : types_are_assignable (unfolded w to) (unfolded w from) ≡ answer)
    (target : TypePart w count (to + 1) (desugar (unfolded w to)) t) (source : TypePart w count (from + 1) (desugar (unfolded w from)) s) where
  turned : answer ≡ turn (unfolded w t) (unfolded w s)
  turned = sym means ∙ assign_turn (unfolded w to) (unfolded w from) ∙ sym (λ i. turn (target.type i) (source.type i))

  pub assign_equal : t ≡ s → true ≡ answer
  assign_equal e = sym (turned ∙ rw (← e, same_refl))

  module _ (apart : t ≡ s → ⊥) where
    different : same (unfolded w t) (unfolded w s) ≡ false
    different = same_false _ _ (λ e. apart (injective w count table t s target.is.high source.is.high e))

    pub assign_no_target : (k : ℕ) → k ≡ kind_of (unfolded w t) → (k ≡ pointer_kind → ⊥) → false ≡ answer
    assign_no_target k e other = sym (turned ∙ rw (different, ← e, ne_eqb k pointer_kind other))

    module _ (k : ℕ) (k-is : k ≡ kind_of (unfolded w t)) (k-pointer : k ≡ pointer_kind) (l : ℕ) (l-is : l ≡ kind_of (unfolded w s)) where
      pub assign_no_source : (l ≡ pointer_kind → ⊥) → false ≡ answer
      assign_no_source other = sym (turned ∙ rw (different, ← k-is, eq-eqb k pointer_kind k-pointer, ← l-is, ne_eqb l pointer_kind other))

      module _ (l-pointer : l ≡ pointer_kind) (p : ℕ) (pointee : TypePart w count s (first_of (unfolded w s)) p) (m : ℕ) (m-is : m ≡ kind_of (unfolded w p)) where
        decays : (b : Bool) → eqb m array_kind ≡ b → answer ≡ (b && types_are_assignable (first_of (unfolded w t)) (first_of (unfolded w p)))
        decays b e = turned ∙ rw (different, ← k-is, eq-eqb k pointer_kind k-pointer, ← l-is, eq-eqb l pointer_kind l-pointer, ← pointee.type, ← m-is, e)

        pub assign_no_array : (m ≡ array_kind → ⊥) → false ≡ answer
        assign_no_array other = sym (decays false (ne_eqb m array_kind other))

        pub assign_next : m ≡ array_kind → (to' from' : ℕ) → TypePart w count t (first_of (unfolded w t)) to' → TypePart w count p (first_of (unfolded w p)) from'
            → types_are_assignable (unfolded w to') (unfolded w from') ≡ answer
        assign_next m-array to' from' target' source' = sym (decays true (eq-eqb m array_kind m-array) ∙ sym (λ i. types_are_assignable (target'.type i) (source'.type i)))
