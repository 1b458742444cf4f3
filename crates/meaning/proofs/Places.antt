-- "Every such alias precedes each item whose declared types name it": by places, and along the list.
use Prim.Native.Nat.{ℕ, zero, suc, ◌<◌}
use mathlib.Core.Logic.Or
use mathlib.Core.Logic.{∥∥₁_elim, ∥∥₁_map, ∥∥₁_prop}
use mathlib.Core.HLevel.{⊥_prop}
use mathlib.Core.List.{List, [], ◌∷◌, Mem, mem-append, not-mem-nil}
use native.Mathlib.Omega.{arith}
use lib.ListN.{length, get_or}
use Rattle.trees.specs.Tree.{Item, other_item}
use Rattle.meaning.specs.Context.{each}
use Rattle.meaning.specs.JoiningOrder.{names_in_declared_types, alias_name}

-- No alias at or after an item has a name that the item's declared types name
unfoldable pub Precede : List Item → Type 0
Precede [] = Unit {0}
Precede (i ∷ is) = ((name : ℕ) → Mem name (names_in_declared_types i) → ¬ Mem name (each alias_name (i ∷ is))) × Precede is

abbrev at : List Item → (i : ℕ) → Item
at items i = get_or items i other_item

-- An alias (item j) that an item's declared types (item i) name stands at an earlier place
abbrev pub PrecedeByPlace : List Item → Type 0
PrecedeByPlace items =
    (i j name : ℕ) → i < length items → j < length items → Mem name (names_in_declared_types (at items i)) → Mem name (alias_name (at items j)) → j < i

-- A member of the joined lists is one of a list at some place
place_of : (f : Item → List ℕ) (items : List Item) (name : ℕ) → Mem name (each f items)
    → ∥ ((j : ℕ) × (j < length items) × Mem name (f (at items j))) ∥₁
unfolding each
place_of f [] name m = absurd (not-mem-nil m)
place_of f (i ∷ is) name m =
    Or.elim ∥∥₁_prop (mem-append.0 m) (λ h. ∣ (zero, omega arith, h) ∣₁)
    (λ t. ∥∥₁_map (place_of f is name t) (λ p. (suc p.0, later p.0 (length is) p.1, p.2)))
  where
    later : (j n : ℕ) → j < n → suc j < suc n
    later j n h = omega arith

pub precede : (items : List Item) → PrecedeByPlace items → Precede items
unfolding Precede
precede [] h = tt
precede (i ∷ is) h = (
  λ name named m. ∥∥₁_elim (place_of alias_name (i ∷ is) name m) ⊥_prop (λ p. let z : p.0 < 0 = h 0 p.0 name (omega arith) p.1 named p.2 in omega arith),
  precede is (λ a b name p q named m. let z : suc b < suc a = h (suc a) (suc b) name (omega arith) (omega arith) named m in omega arith),
)
