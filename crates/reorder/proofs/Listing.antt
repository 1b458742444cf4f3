-- `list_items`: what it has stored so far. Assumes nothing.
use Prim.Native.Nat.{ℕ, suc, ◌+◌, ◌-◌, ◌*◌, ◌≤◌, ◌<◌}
use mathlib.Core.Path.{◌≡◌, refl, sym, ◌∙◌, ap, subst}
use mathlib.Core.Bool.{true, false}
use mathlib.Core.List.{List, [], ◌∷◌, ◌++◌, append-nil}
use native.Mathlib.Omega.{arith}
use lib.ListN.{length, take, set, length-set}
use lib.Seq.{take-suc-set, append_snoc}
use borrow.Author.Tests.{lt-leb}
use Rattle.shape.specs.Shape.{an_item, due_in}
use Rattle.shape.specs.declared.Holds.TheVariants.{Items}
use Rattle.record_bytes.specs.Bytes.{word_at}
use Rattle.names.specs.Names.{stands, chain, names_end, item_places}
use Rattle.layout.specs.Layout.{Good, layout_of, max_bytes}
use Rattle.node.specs.Fine.{FineList}
use Rattle.node.proofs.Open.{opened, split_may, fine_stands, few_bytes, items_list, item_chain}
use Rattle.names.proofs.NameLaws.{chain_none, chain_more}
use Rattle.reorder.specs.Order.{max_items, PlacesListed}

-- The records before `at` are listed, those after it are left; each has at least 16 bytes
pub record Listing (s words : List ℕ) (at count : ℕ) : Type 0 where
  pub list : FineList s 63 at (length s) Items
  pub fuel : ℕ
  pub enough : length s - at ≤ fuel
  pub are : item_places s ≡ take count words ++ chain fuel s at (length s)
  pub low : 16 * count ≤ at
  pub few : length s ≤ max_bytes
  pub inside : count ≤ length words

add_one : (n : ℕ) → suc n ≡ n + 1
add_one n = omega arith

pub none_left : (s : List ℕ) (at end : ℕ) → end ≤ at → stands s at end ≡ false
unfolding stands
none_left s at end p = rw (lt-leb (at + 16) end (omega arith))

module _ (s : List ℕ) where
  pub listing_start : (words : List ℕ) (at : ℕ) → layout_of s ≡ Good → at ≡ names_end s → Listing s words at 0
  listing_start words at e q =
      record {
        list = subst (λ (x : ℕ). FineList s 63 x (length s) Items) (sym q) (items_list s e);
        fuel = length s;
        enough = omega arith;
        are = item_chain s e ∙ ap (λ (x : ℕ). chain (length s) s x (length s)) (sym q);
        low = omega arith;
        few = few_bytes s e;
        inside = omega arith;
      }

  module _ (words : List ℕ) (at count : ℕ) (l : Listing s words at count) where
    -- Bytes are left: so a record stands there
    pub record Next : Type 0 where
      pub is : stands s at (length s) ≡ true
      pub long : 16 ≤ word_at s at
      pub stops : at + word_at s at ≤ length s
      pub rest : FineList s 63 (at + word_at s at) (length s) Items

    pub listing_next : at < length s → Next
    unfolding due_in
    listing_next p =
        let m = split_may s 63 at (length s) Items an_item Items refl (λ (z : at ≡ length s). omega arith) l.list in
        let o = opened s 63 at (length s) an_item m.first in
        record { is = fine_stands s 63 at (length s) an_item m.first; long = omega (arith, o.head, o.body); stops = o.room; rest = m.rest }

    pub listing_on : (w : ℕ) (start : List ℕ) → at < length s → length words ≡ length start → max_items ≤ length start → w ≡ word_at s at → Listing s (set words count at) (at + w) (count + 1)
    listing_on w start p same long q =
        let n = listing_next p in
        let low = l.low in
        let few = l.few in
        let big = n.long in
        let enough = l.enough in
        let room : count < length words = omega arith in
        let fuel : 0 < l.fuel = omega arith in
        let taken : take (count + 1) (set words count at) ≡ take count words ++ (at ∷ []) =
        subst (λ (x : ℕ). take x (set words count at) ≡ take count words ++ (at ∷ [])) (add_one count) (take-suc-set words count at room) in
        let more = chain_more s l.fuel at (length s) fuel n.is in
        record {
          list = subst (λ (x : ℕ). FineList s 63 (at + x) (length s) Items) (sym q) n.rest;
          fuel = l.fuel - 1;
          enough = omega arith;
          are = l.are ∙ ap (λ (x : List ℕ). take count words ++ x) more ∙ sym (append_snoc (take count words) at (chain (l.fuel - 1) s (at + word_at s at) (length s)))
              ∙ (λ i. sym taken i ++ chain (l.fuel - 1) s (at + sym q i) (length s));
          low = omega arith;
          few = few;
          inside = omega (arith, length-set words count at);
        }

    pub listing_fits : at < length s → at + 4 ≤ length s
    listing_fits p = let n = listing_next p in omega (arith, n.long, n.stops)

    pub listing_room : (start : List ℕ) → at < length s → length words ≡ length start → max_items ≤ length start → count < length words
    listing_room start p same long = omega (arith, l.low, l.few)

    pub listing_less : (w : ℕ) → at < length s → w ≡ word_at s at → length s - (at + w) < length s - at
    listing_less w p q = let n = listing_next p in omega (arith, n.long)

    pub listing_done : length s ≤ at → PlacesListed s words count
    listing_done p =
        let e = chain_none s l.fuel at (length s) (none_left s at (length s) p) in
        record { inside = l.inside; are = sym (append-nil (take count words)) ∙ sym (ap (λ (x : List ℕ). take count words ++ x) e) ∙ sym l.are }
