-- `arrange`: what it has written so far. Assumes nothing.
use Prim.Native.Nat.{ℕ, zero, suc, ◌+◌, ◌-◌, ◌≤◌, ◌<◌, ◌^◌}
use mathlib.Core.Path.{◌≡◌, refl, sym, ◌∙◌, ap, subst}
use mathlib.Core.Bool.{Bool, true, false}
use mathlib.Core.List.{List, [], ◌∷◌, ◌++◌, map, append-nil, append_assoc, Permᴰ}
use native.Mathlib.Omega.{arith}
use lib.Dec.{eqb}
use lib.ListN.{length, get_or, take, drop, length-append, length-take, length-drop}
use lib.Seq.{paste, take-suc, drop-cons, take_at, drop_at, drop-append-add, drop-drop, take-length, length-take-le, take_all, drop-length}
use borrow.Author.Tests.{eqb-true, eqb-false}
use Rattle.shape.specs.Shape.{an_item, due_in}
use Rattle.shape.specs.declared.Holds.TheVariants.{Items}
use Rattle.record_bytes.specs.Bytes.{word_at}
use Rattle.names.specs.Names.{chain, names_end, item_places, item_bytes}
use Rattle.layout.specs.Layout.{Good, stop_at, layout_of}
use Rattle.node.specs.Fine.{FineRecord, FineList}
use Rattle.node.proofs.Open.{opened, split_may, fine_stands, names_inside, few_bytes, items_list, item_chain}
use Rattle.meaning.proofs.Permutation.{along, invariant}
use Rattle.reorder.specs.Order.{joined, arranged, Places}
use Rattle.reorder.proofs.Listing.{none_left}

-- Something holds of each number of a list
unfoldable pub Each : (ℕ → Type 0) → List ℕ → Type 0
Each P [] = Unit
Each P (a ∷ l) = P a × Each P l

pub each_permuted : (P : ℕ → Type 0) {l r : List ℕ} → Permᴰ l r → Each P l → Each P r
unfolding Each
each_permuted P =
    along (λ l r. Each P l → Each P r) (λ e. e) (λ a l r p f e. (e.0, f e.1)) (λ a b l e. (e.1.0, (e.0, e.1.1))) (λ l r s p f g e. g (f e))

pub each_at : (P : ℕ → Type 0) (l : List ℕ) (i : ℕ) → i < length l → Each P l → P (get_or l i 0)
unfolding Each
each_at P [] i h e = absurd (omega arith)
each_at P (a ∷ l) zero h e = e.0
each_at P (a ∷ l) (suc i) h e = each_at P l i (omega arith) e.1

-- An item stands at `p`, with no fault
abbrev pub IsItem : List ℕ → (p : ℕ) → Type 0
IsItem s p = FineRecord s 63 p (length s) an_item

-- The bytes of the items at these places, one after the other
abbrev pub items_at : List ℕ → (places : List ℕ) → List ℕ
items_at s places = joined (map (item_bytes s) places)

pub item_room : (s : List ℕ) (p : ℕ) → IsItem s p → (16 ≤ word_at s p) × (p + word_at s p ≤ length s) × (length (item_bytes s p) ≡ word_at s p)
unfolding item_bytes
item_room s p f =
    let o = opened s 63 p (length s) an_item f in
    let r : p + word_at s p ≤ length s = o.room in
    (omega (arith, o.head, o.body), r, omega (arith, length-take (word_at s p) (drop p s), length-drop p s))

-- A list of items with no fault: each has none, and together they fill it
pub record Whole (s : List ℕ) (at : ℕ) (places : List ℕ) : Type 0 where
  pub each : Each (IsItem s) places
  pub fill : at + length (items_at s places) ≡ length s

whole_chain : (s : List ℕ) (n at : ℕ) → length s - at ≤ n → FineList s 63 at (length s) Items → Whole s at (chain n s at (length s))
unfolding chain due_in Each joined
whole_chain s zero at h l = record { each = tt; fill = omega (arith, l.part.starts) }
whole_chain s (suc n) at h l = go (eqb at (length s)) refl (whole_chain s n)
  where
    go : (b : Bool) → eqb at (length s) ≡ b → ((a : ℕ) → length s - a ≤ n → FineList s 63 a (length s) Items → Whole s a (chain n s a (length s)))
        → Whole s at (chain (suc n) s at (length s))
    go true t f =
        let e = eqb-true at (length s) t in
        rw (none_left s at (length s) (omega arith)) (record { each = tt; fill = omega arith })
    go false t f =
        let r = split_may s 63 at (length s) Items an_item Items refl (eqb-false at (length s) t) l in
        let i = item_room s at r.first in
        let w = f (stop_at s at) (omega (arith, i.0)) r.rest in
        let long = length-append (item_bytes s at) (items_at s (chain n s (stop_at s at) (length s))) in
        rw (fine_stands s 63 at (length s) an_item r.first) (record { each = (r.first, w.each); fill = omega (arith, w.fill, i.2) })

pub whole_items : (s : List ℕ) → layout_of s ≡ Good → Whole s (names_end s) (item_places s)
whole_items s e = subst (Whole s (names_end s)) (sym (item_chain s e)) (whole_chain s (length s) (names_end s) (omega arith) (items_list s e))

-- Together they have the same length in any order
length_permuted : (s : List ℕ) {l r : List ℕ} → Permᴰ l r → length (items_at s l) ≡ length (items_at s r)
unfolding joined
length_permuted s =
    invariant (λ l. length (items_at s l)) (λ a l r p e. omega (arith, length-append (item_bytes s a) (items_at s l), length-append (item_bytes s a) (items_at s r)))
    (λ a b l. omega (
      arith,
      length-append (item_bytes s a) (item_bytes s b ++ items_at s l),
      length-append (item_bytes s b) (items_at s l),
      length-append (item_bytes s b) (item_bytes s a ++ items_at s l),
      length-append (item_bytes s a) (items_at s l),
    ))

pub whole_places : (s places : List ℕ) → Places s places → Whole s (names_end s) places
whole_places s places p =
    let w = whole_items s p.layout in
    record { each = each_permuted (IsItem s) p.order w.each; fill = ap (λ (x : ℕ). names_end s + x) (sym (length_permuted s p.order)) ∙ w.fill }

items_append : (s l r : List ℕ) → items_at s (l ++ r) ≡ items_at s l ++ items_at s r
unfolding joined
items_append s [] r = refl
items_append s (a ∷ l) r = ap (λ (x : List ℕ). item_bytes s a ++ x) (items_append s l r) ∙ sym (append_assoc (item_bytes s a) (items_at s l) (items_at s r))

-- One item more
arranged_more : (s l : List ℕ) (p : ℕ) → arranged s (l ++ (p ∷ [])) ≡ arranged s l ++ item_bytes s p
unfolding arranged joined
arranged_more s l p =
    let a = take (names_end s) s in
    ap (λ (x : List ℕ). a ++ x) (items_append s l (p ∷ []) ∙ ap (λ (x : List ℕ). items_at s l ++ x) (append-nil (item_bytes s p))) ∙ sym (append_assoc a (items_at s l) (item_bytes s p))

arranged_none : (s : List ℕ) → arranged s [] ≡ take (names_end s) s
unfolding arranged joined
arranged_none s = append-nil (take (names_end s) s)

pasted : (d a b : List ℕ) (to : ℕ) → length a ≡ to → to + length b ≤ length d → paste (a ++ drop to d) to b (length b) ≡ a ++ b ++ drop (to + length b) d
pasted d a b to e h =
    let rest : drop (to + length b) (a ++ drop to d) ≡ drop (to + length b) d =
    ap (λ (n : ℕ). drop (n + length b) (a ++ drop to d)) (sym e) ∙ drop-append-add a (drop to d) (length b) ∙ drop-drop (length b) to d in
    λ i. take_at a (drop to d) to e i ++ take-length b i ++ rest i

-- What is copied before the items
module _ (s : List ℕ) (from : ℕ) (q : from ≡ names_end s) where
  pub head_inside : from ≤ length s
  head_inside = omega (arith, names_inside s)

  pub head_count : from ≡ length (take from s)
  head_count = sym (length-take-le from s head_inside)

  pub head_room : (before : List ℕ) → length s ≤ length before → 0 + length (take from s) ≤ length before
  head_room before h = omega (arith, length-take from s)

-- The first `i` items are written, and the rest fills the module
pub record Arranging (s places before after : List ℕ) (to i : ℕ) : Type 0 where
  pub layout : layout_of s ≡ Good
  pub each : Each (IsItem s) places
  pub inside : i ≤ length places
  pub starts : to ≡ length (arranged s (take i places))
  pub left : to + length (items_at s (drop i places)) ≡ length s
  pub are : after ≡ arranged s (take i places) ++ drop to before
  pub long : length after ≡ length before
  pub room : length s ≤ length before

module _ (s places before : List ℕ) where
  module _ (after : List ℕ) (to i : ℕ) (g : Arranging s places before after to i) where
    pub arranging_item : i < length places → IsItem s (get_or places i 0)
    arranging_item h = each_at (IsItem s) places i h g.each

    pub arranging_fits : i < length places → get_or places i 0 + 4 ≤ length s
    arranging_fits h = let r = item_room s (get_or places i 0) (arranging_item h) in omega (arith, r.0, r.1)

    pub arranging_stops : (w : ℕ) → i < length places → w ≡ word_at s (get_or places i 0) → get_or places i 0 + w ≤ length s
    arranging_stops w h q = let r = item_room s (get_or places i 0) (arranging_item h) in omega (arith, r.1)

    pub arranging_small : (w : ℕ) → i < length places → w ≡ word_at s (get_or places i 0) → get_or places i 0 + w < 2 ^ 64
    arranging_small w h q = omega (arith, arranging_stops w h q, few_bytes s g.layout)

    next_fits : i < length places → (to + word_at s (get_or places i 0) ≤ length s)
        × (to + word_at s (get_or places i 0) + length (items_at s (drop (i + 1) places)) ≡ length s)
    unfolding joined
    next_fits h =
        let p = get_or places i 0 in
        let r = item_room s p (arranging_item h) in
        let k : suc i ≡ i + 1 = omega arith in
        let e : items_at s (drop i places) ≡ item_bytes s p ++ items_at s (drop (i + 1) places) =
        ap (items_at s) (drop-cons places i 0 h ∙ ap (λ (x : ℕ). p ∷ drop x places) k) in
        let n = ap length e ∙ length-append (item_bytes s p) (items_at s (drop (i + 1) places)) in
        (omega (arith, g.left, r.2), omega (arith, g.left, r.2))

    -- What is handed to `copy_to`
    part_is : (w : ℕ) → w ≡ word_at s (get_or places i 0) → take (get_or places i 0 + w - get_or places i 0) (drop (get_or places i 0) s) ≡ item_bytes s (get_or places i 0)
    unfolding item_bytes
    part_is w q =
        let e : get_or places i 0 + w - get_or places i 0 ≡ word_at s (get_or places i 0) = omega arith in
        ap (λ (n : ℕ). take n (drop (get_or places i 0) s)) e

    pub arranging_room : (w : ℕ) → i < length places → w ≡ word_at s (get_or places i 0)
        → to + length (take (get_or places i 0 + w - get_or places i 0) (drop (get_or places i 0) s)) ≤ length after
    arranging_room w h q =
        let r = item_room s (get_or places i 0) (arranging_item h) in
        let n = next_fits h in
        omega (arith, ap length (part_is w q), r.2, n.0, g.long, g.room)

    pub arranging_on : (next : List ℕ) (w : ℕ) → i < length places → w ≡ word_at s (get_or places i 0)
        → next ≡ paste after to (take (get_or places i 0 + w - get_or places i 0) (drop (get_or places i 0) s)) (length (take (get_or places i 0 + w - get_or places i 0) (drop (get_or places i 0) s)))
        → Arranging s places before next (to + (get_or places i 0 + w - get_or places i 0)) (i + 1)
    arranging_on next w h q e =
        let p = get_or places i 0 in
        let b = item_bytes s p in
        let r = item_room s p (arranging_item h) in
        let n = next_fits h in
        let k : suc i ≡ i + 1 = omega arith in
        let a = arranged s (take i places) in
        let more : arranged s (take (i + 1) places) ≡ a ++ b =
        ap (λ (x : ℕ). arranged s (take x places)) (sym k) ∙ ap (arranged s) (take-suc places i 0 h) ∙ arranged_more s (take i places) p in
        let stop : to + length b ≡ to + (p + w - p) = omega (arith, r.2) in
        let shape : next ≡ arranged s (take (i + 1) places) ++ drop (to + (p + w - p)) before =
        e ∙ ap (λ (x : List ℕ). paste after to x (length x)) (part_is w q) ∙ ap (λ (x : List ℕ). paste x to b (length b)) g.are
        ∙ pasted before a b to (sym g.starts) (omega (arith, r.2, n.0, g.room)) ∙ (λ j. sym more j ++ drop (stop j) before) in
        let m : length (arranged s (take (i + 1) places)) ≡ to + (p + w - p) = ap length more ∙ length-append a b ∙ omega (arith, g.starts, r.2) in
        record {
          layout = g.layout;
          each = g.each;
          inside = omega arith;
          starts = sym m;
          left = omega (arith, n.1);
          are = shape;
          long = ap length shape ∙ length-append (arranged s (take (i + 1) places)) (drop (to + (p + w - p)) before)
              ∙ omega (arith, m, length-drop (to + (p + w - p)) before, n.0, g.room);
          room = g.room;
        }

    pub arranging_done : length places ≤ i → after ≡ arranged s places ++ drop (length s) before
    unfolding joined
    arranging_done h =
        let k : i ≡ length places = omega (arith, g.inside) in
        let none : drop i places ≡ [] = ap (λ (x : ℕ). drop x places) k ∙ drop-length places in
        let stop : to ≡ length s = omega (arith, g.left, ap (λ (x : List ℕ). length (items_at s x)) none) in
        g.are ∙ (λ j. arranged s (take_all i places h j) ++ drop (stop j) before)

-- What stands before the items is written
module _ (s places before start : List ℕ) (from : ℕ) (p : Places s places) (room : length s ≤ length before) (q : from ≡ names_end s)
    (e : start ≡ paste before 0 (take from s) (length (take from s))) where
  none_yet : arranged s [] ≡ take from s
  none_yet = arranged_none s ∙ ap (λ (x : ℕ). take x s) (sym q)

  head_long : length (arranged s []) ≡ from
  head_long = ap length none_yet ∙ sym (head_count s from q)

  begun : start ≡ arranged s [] ++ drop from before
  begun =
      let to : 0 + length (take from s) ≡ from = omega (arith, ap length none_yet, head_long) in
      e ∙ pasted before [] (take from s) 0 refl (omega (arith, head_inside s from q)) ∙ (λ i. sym none_yet i ++ drop (to i) before)

  begun_past : (k : ℕ) → drop (from + k) start ≡ drop (from + k) before
  begun_past k = (λ i. drop (sym head_long i + k) (begun i)) ∙ drop-append-add (arranged s []) (drop from before) k ∙ drop-drop k from before

  pub arranging_start : Arranging s places start start from 0
  arranging_start =
      let whole = whole_places s places p in
      let past : drop from start ≡ drop from before = ap (λ (x : List ℕ). drop from x) begun ∙ drop_at (arranged s []) (drop from before) from head_long in
      let long : length start ≡ length before =
      ap length begun ∙ length-append (arranged s []) (drop from before) ∙ omega (arith, head_long, length-drop from before, head_inside s from q) in
      record {
        layout = p.layout;
        each = whole.each;
        inside = omega arith;
        starts = sym head_long;
        left = omega (arith, whole.fill);
        are = begun ∙ ap (λ (x : List ℕ). arranged s [] ++ x) (sym past);
        long = refl;
        room = omega arith;
      }

  pub arranging_end : (after : List ℕ) (to i : ℕ) → Arranging s places start after to i → length places ≤ i → after ≡ arranged s places ++ drop (length s) before
  arranging_end after to i g h =
      let k : from + (length s - from) ≡ length s = omega (arith, head_inside s from q) in
      let past : drop (length s) start ≡ drop (length s) before = subst (λ (x : ℕ). drop x start ≡ drop x before) k (begun_past (length s - from)) in
      arranging_done s places start after to i g h ∙ ap (λ (x : List ℕ). arranged s places ++ x) past
