-- What an accepted run's output has outside the type slots: the input's bytes. Assumes nothing.
use Prim.Native.Nat.{ℕ, suc, ◌+◌, ◌-◌, ◌≤◌, ◌<◌}
use mathlib.Core.Path.{◌≡◌, refl, sym, ◌∙◌, ap}
use mathlib.Core.Bool.{Bool, true, false}
use mathlib.Core.List.{List, [], ◌∷◌}
use mathlib.Core.Logic.{◌⊎◌, inl, inr}
use native.Mathlib.Omega.{arith}
use lib.Dec.{ltb}
use lib.ListN.{length, get_or, take, drop, length-take, length-drop}
use lib.Seq.{get_or-take, get_or-drop}
use borrow.Author.Tests.{ltb-true, ltb-false}
use Rattle.record_bytes.specs.Bytes.{byte_at, word_at}
use Rattle.names.specs.Names.{names_end, item_places, item_bytes}
use Rattle.layout.specs.Layout.{Good, layout_of}
use Rattle.trees.specs.Record.{item_slot_places}
use Rattle.meaning.specs.Promise.{Counts, Buffers, Accepted, in_slot, item_place, item_at}
use Rattle.meaning.proofs.Size.{Consecutive, items_follow}
use Rattle.demands.specs.Demands.{SlotByte}

-- The record that a byte lies in, of those at these places
pub record Inside (s places : List ℕ) (i : ℕ) : Type 0 where
  pub item : ℕ
  pub among : item < length places
  pub from : get_or places item 0 ≤ i
  pub to : i < get_or places item 0 + word_at s (get_or places item 0)
  pub room : get_or places item 0 + word_at s (get_or places item 0) ≤ length s

inside : (s : List ℕ) (at end : ℕ) (places : List ℕ) → Consecutive s at end places → (i : ℕ) → at ≤ i → i < end → Inside s places i
unfolding Consecutive
inside s at end [] c i l h = absurd (omega (arith, c))
inside s at end (p ∷ ps) c i l h = go (ltb i (p + word_at s p)) refl (inside s (p + word_at s p) end ps c.3 i)
  where
    go : (b : Bool) → ltb i (p + word_at s p) ≡ b → (p + word_at s p ≤ i → i < end → Inside s ps i) → Inside s (p ∷ ps) i
    go true e f = record { item = 0; among = omega arith; from = omega (arith, c.0); to = ltb-true i (p + word_at s p) e; room = c.2 }
    go false e f =
        let r = f (ltb-false i (p + word_at s p) e) h in
        record { item = suc r.item; among = omega (arith, r.among); from = r.from; to = r.to; room = r.room }

-- A byte of a part is that of the whole
part_byte : (l : List ℕ) (p n i : ℕ) → p ≤ i → i < p + n → byte_at l i ≡ byte_at (take n (drop p l)) (i - p)
part_byte l p n i a b =
    let e : i ≡ p + (i - p) = omega arith in
    ap (byte_at l) e ∙ sym (get_or-take n (drop p l) (i - p) 0 (omega arith) ∙ get_or-drop p l (i - p) 0)

module _ (input : List ℕ) (good : layout_of input ≡ Good) (before after : Buffers) (counts : Counts) (a : Accepted input before after counts) where
  abbrev Kept : ℕ → Type 0
  Kept i = byte_at after.output i ≡ byte_at input i

  in_names : (i : ℕ) → i < names_end input → Kept i
  in_names i h =
      sym (get_or-take (names_end input) after.output i 0 h) ∙ ap (λ (l : List ℕ). get_or l i 0) a.names ∙ get_or-take (names_end input) input i 0 h

  in_item : (i : ℕ) → Inside input (item_places input) i → SlotByte input i ⊎ Kept i
  unfolding item_bytes
  in_item i r = go (in_slot (item_slot_places (item_at input r.item)) (i - p)) refl
    where
      p : ℕ
      p = item_place input r.item

      go : (b : Bool) → in_slot (item_slot_places (item_at input r.item)) (i - p) ≡ b → SlotByte input i ⊎ Kept i
      go true e = inl (record { item = r.item; at = i - p; among = r.among; place = omega (arith, r.from); slot = e })
      go false e =
          let long : length (item_at input r.item) ≡ word_at input p =
          omega (arith, length-take (word_at input p) (drop p input), length-drop p input, r.room) in
          inr (part_byte after.output p (length (item_at input r.item)) i r.from (omega (arith, r.to))
          ∙ (a.items r.item r.among).others (i - p) e
          ∙ sym (part_byte input p (word_at input p) i r.from r.to))

  pub others : (i : ℕ) → i < length input → SlotByte input i ⊎ Kept i
  others i h = go (ltb i (names_end input)) refl
    where
      go : (b : Bool) → ltb i (names_end input) ≡ b → SlotByte input i ⊎ Kept i
      go true e = inr (in_names i (ltb-true i (names_end input) e))
      go false e =
          let l = ltb-false i (names_end input) e in
          in_item i (inside input (names_end input) (length input) (item_places input) (items_follow input good) i (omega arith) h)
