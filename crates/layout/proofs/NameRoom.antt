-- How many names a module can have. Assumes nothing.
use Prim.Native.Nat.{ℕ, zero, suc, ◌+◌, ◌-◌, ◌*◌, ◌≤◌, min}
use mathlib.Core.Path.{◌≡◌, refl}
use mathlib.Core.Bool.{Bool, true, false, ◌&&◌}
use mathlib.Core.List.{List, [], ◌∷◌}
use lib.ListN.{length}
use lib.Dec.{leb}
use native.Mathlib.Omega.{arith}
use borrow.Author.Tests.{leb-true}
use Rattle.shape.proofs.ShapeLaws.{and_both}
use Rattle.shape.specs.Shape.{pick}
use Rattle.record_bytes.specs.Bytes.{word_at}
use Rattle.layout.specs.Layout.{max_bytes}
use Rattle.names.specs.Names.{stands, chain, names_end, name_places, name_count}

-- a name takes at least 16 bytes, so few fit into a module
chain_room : (n : ℕ) (s : List ℕ) (at end : ℕ) → 16 * length (chain n s at end) ≤ end - at
unfolding chain stands
chain_room zero s at end = omega arith
chain_room (suc n) s at end = go (stands s at end) refl (chain_room n s (at + word_at s at) end)
  where
    go : (b : Bool) → stands s at end ≡ b → 16 * length (chain n s (at + word_at s at) end) ≤ end - (at + word_at s at)
        → 16 * length (pick b (at ∷ chain n s (at + word_at s at) end) []) ≤ end - at
    go true e h =
        let p = and_both (leb (at + 16) end && leb 16 (word_at s at)) (leb (at + word_at s at) end) e in
        let q = and_both (leb (at + 16) end) (leb 16 (word_at s at)) p.0 in
        let x = leb-true 16 (word_at s at) q.1 in
        let y = leb-true (at + word_at s at) end p.1 in
        omega arith
    go false e h = omega arith

pub few_names : (s : List ℕ) → length s ≤ max_bytes → name_count s ≤ 4094
unfolding name_count name_places names_end
few_names s p = let h = chain_room (length s) s 32 (min (16 + word_at s 16) (length s)) in omega arith
