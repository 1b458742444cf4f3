-- A place in an item, counted from the item's start, is what it was counted by. Assumes nothing.
use Prim.Native.Nat.{ℕ, zero, suc, ◌+◌, ◌-◌, ◌≤◌, ◌<◌}
use native.Mathlib.Omega.{arith}
use mathlib.Core.Path.{◌≡◌, refl}
use mathlib.Core.Bool.{Bool, true, false}
use mathlib.Core.List.{List, [], ◌∷◌}
use borrow.Author.Tests.{le-leb, lt-leb}
use lib.ListN.{length, get_or}
use Rattle.shape.specs.Shape.{pick}
use Rattle.record_bytes.specs.Bytes.{word_at}
use Rattle.names.specs.Names.{stands, chain, item_places}
use Rattle.meaning.specs.Promise.{item_place, item_count}
use Rattle.meaning.specs.ItemStart.{start_from, place_in_item}

-- A chain of records has nothing before its start
none_before : (n : ℕ) (s : List ℕ) (at end before place : ℕ) → place < at → start_from before (chain n s at end) place ≡ before
unfolding chain start_from
none_before zero s at end before place p = refl
none_before (suc n) s at end before place p = go (stands s at end)
  where
    go : (b : Bool) → start_from before (pick b (at ∷ chain n s (at + word_at s at) end) []) place ≡ before
    go true = rw (lt-leb at place p) refl
    go false = refl

-- Every record of a chain starts at its start or behind the record before
low : (n : ℕ) (s : List ℕ) (at end i : ℕ) → i < length (chain n s at end) → at ≤ get_or (chain n s at end) i 0
unfolding chain
low zero s at end i p = absurd (omega arith)
low (suc n) s at end i p = go (stands s at end) i (λ j. low n s (at + word_at s at) end j) p
  where
    go : (b : Bool) (j : ℕ) → ((k : ℕ) → k < length (chain n s (at + word_at s at) end) → at + word_at s at ≤ get_or (chain n s (at + word_at s at) end) k 0)
        → j < length (pick b (at ∷ chain n s (at + word_at s at) end) []) → at ≤ get_or (pick b (at ∷ chain n s (at + word_at s at) end) []) j 0
    go true zero h q = omega arith
    go true (suc j) h q = let l = h j (omega arith) in omega arith
    go false j h q = absurd (omega arith)

-- A place in a record of a chain starts there
in_chain : (n : ℕ) (s : List ℕ) (at end before i r : ℕ) → i < length (chain n s at end) → r < word_at s (get_or (chain n s at end) i 0)
    → start_from before (chain n s at end) (get_or (chain n s at end) i 0 + r) ≡ get_or (chain n s at end) i 0
unfolding chain start_from
in_chain zero s at end before i r p q = absurd (omega arith)
in_chain (suc n) s at end before i r p q = go (stands s at end) i (λ j. in_chain n s (at + word_at s at) end at j r) p q
  where
    go : (b : Bool) (j : ℕ)
        → ((k : ℕ) → k < length (chain n s (at + word_at s at) end) → r < word_at s (get_or (chain n s (at + word_at s at) end) k 0)
        → start_from at (chain n s (at + word_at s at) end) (get_or (chain n s (at + word_at s at) end) k 0 + r) ≡ get_or (chain n s (at + word_at s at) end) k 0)
        → j < length (pick b (at ∷ chain n s (at + word_at s at) end) [])
        → r < word_at s (get_or (pick b (at ∷ chain n s (at + word_at s at) end) []) j 0)
        → start_from before (pick b (at ∷ chain n s (at + word_at s at) end) []) (get_or (pick b (at ∷ chain n s (at + word_at s at) end) []) j 0 + r)
        ≡ get_or (pick b (at ∷ chain n s (at + word_at s at) end) []) j 0
    go true zero h x y = rw (le-leb at (at + r) (omega arith)) (none_before n s (at + word_at s at) end at (at + r) (omega arith))
    go true (suc j) h x y =
        let l = low n s (at + word_at s at) end j (omega arith) in
        rw (le-leb at (get_or (chain n s (at + word_at s at) end) j 0 + r) (omega arith)) (h j (omega arith) y)
    go false j h x y = absurd (omega arith)

-- The place of what stands r bytes from the start of item i, counted from its item, is r
pub place_in_item_lem : (input : List ℕ) (i r : ℕ) → i < item_count input → r < word_at input (item_place input i) → place_in_item input (item_place input i + r) ≡ r
unfolding item_places
place_in_item_lem input i r p q = let e = in_chain (length input) input _ _ 0 i r p q in omega arith
