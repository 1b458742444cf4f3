-- From the stores of pass 2 to the items' output, each by its own bytes, as the entry promises it. Assumes nothing.
use Prim.Native.Nat.{ℕ, zero, suc, ◌+◌, ◌^◌, ◌≤◌, ◌<◌}
use mathlib.Core.Path.{◌≡◌, refl, sym, ◌∙◌, ap, ap₂, subst}
use mathlib.Core.Bool.{Bool, true, false}
use mathlib.Core.List.{List, [], ◌∷◌, ◌++◌, map, Mem, Memᴰ}
use mathlib.Core.List.Memᴰ
use mathlib.Core.Logic.{⊎_elim, ∥∥₁_elim}
use lib.ListN.{length, get_or, take, drop, length-take, length-drop, get_or-eq_default}
use lib.Seq.{get_or-take, get_or-drop, ext_get_or}
use lib.Dec.{ltb}
use native.Mathlib.Omega.{arith}
use native.Mathlib.Bridge.{le_prop}
use borrow.Author.Tests.{ltb-true, ltb-false}
use Rattle.types.specs.Table.{IsType}
use Rattle.record_bytes.specs.Bytes.{byte_at, word_at}
use Rattle.names.specs.Names.{names_end, item_places, item_bytes}
use Rattle.layout.specs.Layout.{Good, stop_at, layout_of}
use Rattle.trees.specs.Record.{item_tree, item_slot_places}
use Rattle.meaning.specs.Context.{ModuleContext, each, All}
use Rattle.meaning.specs.Convert.{Slot}
use Rattle.meaning.specs.Module.{slot_type, item_slots, item_types}
use Rattle.meaning.specs.Promise.{in_slot, slot_types, ItemFilled, item_place, item_at, output_at, item_count}
use Rattle.walk.specs.Effect.{Store, store_from}
use Rattle.walk.specs.Represents.{Shows, Stored}
use Rattle.walk.proofs.Slots.{All as AllStores, Inside, stored_slots, stored_others}
use Rattle.slot_places.specs.Spaced.{Spaced}
use Rattle.slot_places.specs.Stores.{item_stores, module_stores}
use Rattle.slot_places.proofs.Own.{part, own_length, own_byte, own_word}
use Rattle.slot_places.proofs.Items.{item_fine, item_long}
use Rattle.slot_places.proofs.Spaces.{spaced_ends, slots_at, item_spaced, module_spaced}
use Rattle.slot_places.proofs.Order.{places_of, slots_own}
use Rattle.slot_places.proofs.Stores.{store_places, item_places_lem, spaced_stores, Laid, stores_laid}

-- Of the stores of all items, those of one
all_left : (P : Store → Type 0) (a b : List Store) → AllStores P (a ++ b) → AllStores P a
unfolding AllStores
all_left P [] b h = tt
all_left P (s ∷ a) b h = (h.0, all_left P a b h.1)

all_right : (P : Store → Type 0) (a b : List Store) → AllStores P (a ++ b) → AllStores P b
unfolding AllStores
all_right P [] b h = h
all_right P (s ∷ a) b h = all_right P a b h.1

all_item : (P : Store → Type 0) (f : ℕ → List Store) (ps : List ℕ) → AllStores P (each f ps) → (j : ℕ) → j < length ps → AllStores P (f (get_or ps j 0))
unfolding each
all_item P f [] h j l = absurd (omega arith)
all_item P f (p ∷ ps) h zero l = all_left P (f p) (each f ps) h
all_item P f (p ∷ ps) h (suc j) l = all_item P f ps (all_right P (f p) (each f ps) h) j (omega arith)

wider : (m n : ℕ) → m ≤ n → (l : List Store) → AllStores (Inside m) l → AllStores (Inside n) l
unfolding AllStores
wider m n p [] h = tt
wider m n p (s ∷ l) h = (omega (arith, h.0), wider m n p l h.1)

type_prop : (rows : List ℕ) (count v : ℕ) → IsProp (IsType rows count v)
type_prop rows count v a b = λ i. record { low = le_prop a.low b.low i; high = le_prop a.high b.high i; kind = le_prop a.kind b.kind i }

-- The slots of a part of the output
module _ (rows : List ℕ) (count : ℕ) (out : List ℕ) where
  abbrev Shown : Slot → Type 0
  Shown s = Shows rows count (word_at out (s.at + 16)) s.type

  shown_types : (l : List Slot) → All Shown l → slot_types rows out (places_of l) ≡ map slot_type l
  unfolding All
  shown_types [] h = refl
  shown_types (s ∷ l) h = ap₂ ◌∷◌ h.0.type (shown_types l h.1)

  shown_exist : (l : List Slot) → All Shown l → (q : ℕ) → Memᴰ q (places_of l) → IsType rows count (word_at out q)
  unfolding All
  shown_exist [] h q m = absurd (Memᴰ.not-nil m)
  shown_exist (s ∷ l) h q m =
      ⊎_elim (λ (e : q ≡ s.at + 16). subst (λ (x : ℕ). IsType rows count (word_at out x)) (sym e) h.0.is) (λ (d : Memᴰ q (places_of l)). shown_exist l h.1 q d) (Memᴰ.cases_cons m)

  -- read from the whole
  shown_part : (o : List ℕ) (p len : ℕ) → out ≡ part o p len → p + len ≤ length o → (l : List Slot)
      → AllStores (λ s. Shows rows count (word_at o (s.at + 16)) s.type) (map (store_from p) l) → AllStores (λ s. s.at + 16 + 4 ≤ p + len) (map (store_from p) l) → All Shown l
  unfolding All AllStores
  shown_part o p len e fits [] h b = tt
  shown_part o p len e fits (s ∷ l) h b =
      let w : word_at o (p + s.at + 16) ≡ word_at out (s.at + 16) = own_word o p len fits (p + s.at + 16) (s.at + 16) (omega arith) (omega (arith, b.0)) ∙ ap (λ (x : List ℕ). word_at x (s.at + 16)) (sym e) in
      (subst (λ (v : ℕ). Shows rows count v s.type) w h.0, shown_part o p len e fits l h.1 b.1)

-- What the entry promises of the output
pub record Filled (input : List ℕ) (rows : List ℕ) (count : ℕ) (ctx : ModuleContext) (before after : List ℕ) : Type 0 where
  pub names : take (names_end input) after ≡ take (names_end input) input
  pub items : (j : ℕ) → j < item_count input
      → ItemFilled rows count (item_types ctx (item_tree (item_at input j))) (item_at input j) (output_at input after j)
  pub past : drop (length input) after ≡ drop (length input) before

module _ (input : List ℕ) (good : layout_of input ≡ Good) (ctx : ModuleContext) (rows : List ℕ) (count : ℕ) (before after : List ℕ)
    (long : length input ≤ length before) (same : length after ≡ length before) (copied : (i : ℕ) → i < length input → byte_at before i ≡ byte_at input i)
    (small : count < 2 ^ 32) (stored : Stored rows count (module_stores input ctx) before after) where
  laid : Laid input (module_stores input ctx)
  laid = stores_laid input good ctx

  all_shown : AllStores (λ s. Shows rows count (word_at after (s.at + 16)) s.type) (module_stores input ctx)
  all_shown = stored_slots rows count stored small laid.apart (wider (length input) (length before) long (module_stores input ctx) laid.inside)

  one_item : (j : ℕ) → j < item_count input → ItemFilled rows count (item_types ctx (item_tree (item_at input j))) (item_at input j) (output_at input after j)
  unfolding item_bytes
  one_item j h =
      let p = item_place input j in
      let f = item_fine input good j h in
      let len = item_long input good j h in
      let fits : p + length (item_at input j) ≤ length after = omega (arith, len.1) in
      let slots : List Slot = item_slots ctx (item_tree (item_at input j)) in
      let spaced : Spaced p (stop_at input p) (store_places (item_stores input ctx p)) = subst (Spaced p (stop_at input p)) (sym (item_places_lem input ctx p f)) (item_spaced input 63 p (length input) f) in
      let bounds : AllStores (λ s. s.at + 16 + 4 ≤ p + length (item_at input j)) (item_stores input ctx p) =
      spaced_stores (λ s. s.at + 16 + 4 ≤ p + length (item_at input j)) p (stop_at input p) (item_stores input ctx p) (λ s a b. omega (arith, len.0)) spaced in
      let shown : All (Shown rows count (output_at input after j)) slots =
      shown_part rows count (output_at input after j) after p (length (item_at input j)) refl fits slots
      (all_item (λ s. Shows rows count (word_at after (s.at + 16)) s.type) (item_stores input ctx) (item_places input) all_shown j h) bounds in
      let places = slots_own input p f ctx in
      record {
        long = own_length after p (length (item_at input j)) fits;
        slots = ap (slot_types rows (output_at input after j)) (sym places) ∙ shown_types rows count (output_at input after j) slots shown;
        exist = λ q m. ∥∥₁_elim (subst (Mem q) (sym places) m) (type_prop rows count (word_at (output_at input after j) q)) (shown_exist rows count (output_at input after j) slots shown q);
        others = λ i n. by_place i (ltb i (length (item_at input j))) refl n;
      }
    where
      by_place : (i : ℕ) (b : Bool) → ltb i (length (item_at input j)) ≡ b → in_slot (item_slot_places (item_at input j)) i ≡ false → byte_at (output_at input after j) i ≡ byte_at (item_at input j) i
      by_place i true e n =
          let l = ltb-true i (length (item_at input j)) e in
          let p = item_place input j in
          let len = item_long input good j h in
          let room : p + word_at input p ≤ length input = omega (arith, len.0, len.1) in
          let fits : p + length (item_at input j) ≤ length after = omega (arith, len.1) in
          sym (own_byte after p (length (item_at input j)) fits (p + i) i refl l)
          ∙ stored_others rows count stored (p + i) (laid.others j i h l n)
          ∙ copied (p + i) (omega (arith, len.1))
          ∙ own_byte input p (word_at input p) room (p + i) i refl (omega (arith, len.0))
      by_place i false e n =
          let l = ltb-false i (length (item_at input j)) e in
          let a = length-take (length (item_at input j)) (drop (item_place input j) after) in
          get_or-eq_default (output_at input after j) 0 (omega arith) ∙ sym (get_or-eq_default (item_at input j) 0 l)

  names_kept : take (names_end input) after ≡ take (names_end input) input
  names_kept =
      let n = names_end input in
      let low : n ≤ length input = spaced_ends n (length input) (each (slots_at input) (item_places input)) (module_spaced input good) in
      let a : length (take n after) ≡ n = length-take n after ∙ omega arith in
      let b : length (take n input) ≡ n = length-take n input ∙ omega arith in
      ext_get_or 0 (take n after) (take n input) (a ∙ sym b)
      (λ i l. let h : i < n = omega arith in get_or-take n after i 0 h ∙ stored_others rows count stored i (laid.before i h) ∙ copied i (omega arith) ∙ sym (get_or-take n input i 0 h))

  past_kept : drop (length input) after ≡ drop (length input) before
  past_kept =
      let n = length input in
      let a = length-drop n after in
      let b = length-drop n before in
      ext_get_or 0 (drop n after) (drop n before) (omega arith)
      (λ i l. get_or-drop n after i 0 ∙ stored_others rows count stored (n + i) (laid.past (n + i) (omega arith)) ∙ sym (get_or-drop n before i 0))

  -- Where every store of pass 2 is done, each item's slots hold its types, and no other byte differs from the input
  pub filled : Filled input rows count ctx before after
  filled = record { names = names_kept; items = one_item; past = past_kept }
