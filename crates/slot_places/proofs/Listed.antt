-- The items of a list of records, one after another, and those of a module. Assumes nothing.
use Prim.Native.Nat.{ℕ, zero, suc, ◌+◌, ◌-◌, ◌≤◌}
use mathlib.Core.Path.{◌≡◌, refl, sym, ap, ◌∙◌}
use mathlib.Core.Bool.{Bool, true, false}
use mathlib.Core.List.{List, [], ◌∷◌, map}
use native.Mathlib.Omega.{arith}
use lib.ListN.{length}
use lib.Dec.{eqb}
use borrow.Author.Tests.{eqb-true, eqb-false}
use Rattle.shape.specs.Shape.{an_item, pick, due_in}
use Rattle.shape.specs.declared.Holds.TheVariants.{Items}
use Rattle.names.specs.Names.{stands, chain, names_end}
use Rattle.trees.specs.Tree.{Item}
use Rattle.layout.specs.Layout.{Good, stop_at, layout_of}
use Rattle.trees.specs.Record.{to_item, item_tree_at}
use Rattle.node.specs.Fine.{FineRecord, FineList}
use Rattle.node.proofs.Open.{split_may, opened, fine_stands, items_list, item_chain}
use Rattle.trees.proofs.Decode.{fine_own, records_cons, records_end}
use Rattle.walk.proofs.Sets.{both}
use Rattle.slot_places.specs.Absolute.{to_items, items_at, trees_at}
use Rattle.slot_places.proofs.Items.{stands_low}

pub items_cons : (s : List ℕ) (d at end : ℕ) → FineRecord s d at end an_item → items_at s d at end ≡ item_tree_at s d at ∷ items_at s d (stop_at s at) end
unfolding to_items
items_cons s d at end f =
    ap to_items (records_cons s d at end an_item f)
    ∙ ap (λ (x : Item). x ∷ items_at s d (stop_at s at) end) (sym (ap to_item (records_cons s d at (stop_at s at) an_item (fine_own s d at end an_item f))))

pub items_none : (s : List ℕ) (d end : ℕ) → items_at s d end end ≡ []
unfolding to_items
items_none s d end = ap to_items (records_end s d end)

-- They stand at the places of a chain of records
nothing_left : (s : List ℕ) (d at end : ℕ) → FineList s d at end Items → stands s at end ≡ false → at ≡ end
unfolding due_in
nothing_left s d at end l e = go (eqb at end) refl
  where
    go : (b : Bool) → eqb at end ≡ b → at ≡ end
    go true q = eqb-true at end q
    go false q =
        let m = split_may s d at end Items an_item Items refl (eqb-false at end q) l in
        both (fine_stands s d at end an_item m.first) e

chain_items : (s : List ℕ) (d n at end : ℕ) → FineList s d at end Items → end - at ≤ n → items_at s d at end ≡ map (item_tree_at s d) (chain n s at end)
unfolding chain due_in
chain_items s d zero at end l few =
    let low = l.part.starts in
    let here : at ≡ end = omega arith in
    ap (λ (x : ℕ). items_at s d x end) here ∙ items_none s d end
chain_items s d (suc n) at end l few = go (stands s at end) refl (chain_items s d n (stop_at s at) end)
  where
    go : (b : Bool) → stands s at end ≡ b → (FineList s d (stop_at s at) end Items → end - stop_at s at ≤ n → items_at s d (stop_at s at) end ≡ map (item_tree_at s d) (chain n s (stop_at s at) end))
        → items_at s d at end ≡ map (item_tree_at s d) (pick b (at ∷ chain n s (stop_at s at) end) [])
    go false e rest = ap (λ (x : ℕ). items_at s d x end) (nothing_left s d at end l e) ∙ items_none s d end
    go true e rest =
        let low = stands_low s at end e in
        let m = split_may s d at end Items an_item Items refl (λ (z : at ≡ end). omega arith) l in
        let o = opened s d at end an_item m.first in
        let after : at + 16 ≤ stop_at s at = omega (arith, o.head, o.body) in
        items_cons s d at end m.first ∙ ap (λ (x : List Item). item_tree_at s d at ∷ x) (rest m.rest (omega (arith, o.room)))

-- and those of a module at the places of its items
pub module_items : (input : List ℕ) → layout_of input ≡ Good → items_at input 63 (names_end input) (length input) ≡ trees_at input
module_items input e =
    let n = length input in
    chain_items input 63 n (names_end input) n (items_list input e) (omega arith) ∙ ap (map (item_tree_at input 63)) (sym (item_chain input e))
