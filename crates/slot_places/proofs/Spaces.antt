-- The slots of a module's items follow each other in byte order, each in its own item. Assumes nothing.
use Prim.Native.Nat.{ℕ, zero, suc, ◌+◌, ◌≤◌, ◌<◌}
use mathlib.Core.Path.{◌≡◌, refl, sym, ◌∙◌, ap, subst}
use mathlib.Core.Bool.{Bool, true, false, cond, not, ◌&&◌, ◌||◌}
use mathlib.Core.List.{List, [], ◌∷◌, ◌++◌, map}
use mathlib.Core.Logic.{inl, inr}
use lib.ListN.{length, get_or}
use lib.Dec.{eqb, leb, ltb}
use native.Mathlib.Omega.{arith}
use borrow.Author.Tests.{leb-true, leb-false, ltb-false}
use Rattle.shape.specs.Shape.{pick, no_field, unlisted, shapes, look_up, shape_of, due_in, state_after, an_item}
use Rattle.shape.specs.declared.Shape.{Shape}
use Rattle.shape.specs.declared.Holds.{Holds}
use Rattle.shape.specs.declared.Holds.TheVariants.{Nothing, Items}
use Rattle.shape.proofs.ShapeLaws.{and_both}
use Rattle.record_bytes.specs.Bytes.{word_at}
use Rattle.names.specs.Names.{stands, chain, item_places, item_bytes, names_end}
use Rattle.layout.specs.Layout.{Good, kind_at, class_at, start_at, stop_at, layout_of}
use Rattle.node.specs.Fine.{FineRecord, FineList}
use Rattle.trees.specs.Record.{Records, no_records, record_then, is_slot, has_slot, field_count, holds_free_bytes, record_head_at, bytes_at, records_at, slot_places, item_slot_places}
use Rattle.node.proofs.Open.{opened, split_may, items_list, item_chain}
use Rattle.meaning.specs.Context.{each, All}
use Rattle.meaning.specs.Promise.{in_slot, item_place, item_at, item_count}
use Rattle.slot_places.specs.Spaced.{Spaced, Beside}
use Rattle.slot_places.proofs.Decode.{move_records}
use Rattle.slot_places.proofs.Induction.{Standing, Children, fine_item}
use Rattle.slot_places.proofs.Own.{own_item}
use Rattle.slot_places.proofs.Items.{stands_low, all_map, all_at, item_fine, item_long}

-- Laws of `Spaced`
pub spaced_ends : (a b : ℕ) (l : List ℕ) → Spaced a b l → a ≤ b
unfolding Spaced
spaced_ends a b [] h = omega arith
spaced_ends a b (p ∷ l) h = let q = spaced_ends (p + 4) b l h.1 in omega arith

pub spaced_from : (a b c : ℕ) (l : List ℕ) → a ≤ b → Spaced b c l → Spaced a c l
unfolding Spaced
spaced_from a b c [] p h = omega arith
spaced_from a b c (q ∷ l) p h = (omega arith, h.1)

pub spaced_then : (a b c : ℕ) (l k : List ℕ) → Spaced a b l → Spaced b c k → Spaced a c (l ++ k)
unfolding Spaced
spaced_then a b c [] k h g = spaced_from a b c k (spaced_ends a b [] h) g
spaced_then a b c (q ∷ l) k h g = (h.0, spaced_then (q + 4) b c l k h.1 g)

-- Each lies inside
pub spaced_all : (a b : ℕ) (l : List ℕ) → Spaced a b l → All (λ q. (a ≤ q) × (q + 4 ≤ b)) l
unfolding Spaced All
spaced_all a b [] h = tt
spaced_all a b (q ∷ l) h =
    ((h.0, spaced_ends (q + 4) b l h.1), all_map (λ x. (q + 4 ≤ x) × (x + 4 ≤ b)) (λ x. (a ≤ x) × (x + 4 ≤ b)) l (λ x p. (omega (arith, h.0, p.0), p.1)) (spaced_all (q + 4) b l h.1))

-- A test that every shape of a list passes, and that of no record
unfoldable pub all_shapes : (test : Shape → Bool) → List (ℕ × Shape) → Bool
all_shapes test [] = test (no_field unlisted Nothing)
all_shapes test (r ∷ rs) = test r.1 && all_shapes test rs

every_shape : (test : Shape → Bool) (rows : List (ℕ × Shape)) (k : ℕ) → all_shapes test rows ≡ true → test (look_up rows k) ≡ true
unfolding all_shapes
every_shape test [] k e = e
every_shape test (r ∷ rs) k e =
    let p = and_both (test r.1) (all_shapes test rs) e in
    go (eqb k r.0) p.0 (every_shape test rs k p.1)
  where
    go : (b : Bool) → test r.1 ≡ true → test (look_up rs k) ≡ true → test (pick b r.1 (look_up rs k)) ≡ true
    go true p q = p
    go false p q = q

pub shape_passes : (test : Shape → Bool) → all_shapes test shapes ≡ true → (k : ℕ) → test (shape_of k) ≡ true
unfolding shape_of
shape_passes test e k = every_shape test shapes k e

-- A record whose first field is a slot has a field
slot_fields : (k : ℕ) → has_slot k ≡ true → 1 ≤ field_count k
unfolding all_shapes
slot_fields k e = leb-true 1 (field_count k) (rw e at (shape_passes (λ r. not (is_slot r.first) || leb 1 r.fields) refl k))

-- The slots of the records from a place to another
module _ (s : List ℕ) where
  abbrev Within : (depth at end : ℕ) → Holds → Records → Type 0
  Within d at end st r = Spaced at end (slot_places r)

  within_nil : (d end : ℕ) (st : Holds) → (due_in st).ends ≡ true → Within d end end st no_records
  unfolding Spaced slot_places
  within_nil d end st n = omega arith

  within_cons : (d at end : ℕ) (st : Holds) → Standing (due_in st) (class_at s at) → FineRecord s d at end (class_at s at)
      → (free : Bool) → holds_free_bytes (kind_at s at) ≡ free → (children rest : Records) → Children s Within free d at children
      → Within d (stop_at s at) end (state_after (due_in st) (class_at s at)) rest → Within d at end st (record_then (record_head_at s at) (bytes_at s at) children rest)
  unfolding Spaced slot_places
  within_cons d at end st standing f free e children rest kids tail =
      let o = opened s d at end (class_at s at) f in
      let k = kind_at s at in
      spaced_then at (stop_at s at) end (cond (has_slot k) ((at + 16) ∷ []) [] ++ slot_places children) (slot_places rest)
      (spaced_then at (start_at s at) (stop_at s at) (cond (has_slot k) ((at + 16) ∷ []) []) (slot_places children) (own (has_slot k) refl) (inner free kids o.body)) tail
    where
      own : (b : Bool) → has_slot (kind_at s at) ≡ b → Spaced at (start_at s at) (cond b ((at + 16) ∷ []) [])
      own true q = let h = slot_fields (kind_at s at) q in (omega arith, omega arith)
      own false q = omega arith

      inner : (b : Bool) → Children s Within b d at children → start_at s at ≤ stop_at s at → Spaced (start_at s at) (stop_at s at) (slot_places children)
      inner true q h = rw q h
      inner false q h = q

  -- The slots of an item with no fault follow each other from its first byte to its end
  pub item_spaced : (d at end : ℕ) → FineRecord s d at end an_item → Spaced at (stop_at s at) (slot_places (records_at s d at (stop_at s at)))
  item_spaced d at end f = fine_item s Within within_nil within_cons d at end f

-- The places in the file of the slots of the item at a place, and of all items
abbrev pub slots_at : List ℕ → (place : ℕ) → List ℕ
slots_at input p = slot_places (records_at input 63 p (stop_at input p))

-- They are its own, counted from its first byte
pub moved_places : (p : ℕ) (r : Records) → slot_places (move_records (λ n. p + n) r) ≡ map (λ n. p + n) (slot_places r)
unfolding slot_places move_records
moved_places p no_records = refl
moved_places p (record_then h s children rest) = go (has_slot h.kind) (moved_places p children) (moved_places p rest)
  where
    both : (a b : List ℕ) → map (λ n. p + n) (a ++ b) ≡ map (λ n. p + n) a ++ map (λ n. p + n) b
    both [] b = refl
    both (x ∷ a) b = ap (λ l. (p + x) ∷ l) (both a b)

    slot : (b : Bool) → cond b ((p + h.location.at + 16) ∷ []) [] ≡ map (λ n. p + n) (cond b ((h.location.at + 16) ∷ []) [])
    slot true = let e : p + h.location.at + 16 ≡ p + (h.location.at + 16) = omega arith in ap (λ x. x ∷ []) e
    slot false = refl

    go : (b : Bool) → slot_places (move_records (λ n. p + n) children) ≡ map (λ n. p + n) (slot_places children)
        → slot_places (move_records (λ n. p + n) rest) ≡ map (λ n. p + n) (slot_places rest)
        → cond b ((p + h.location.at + 16) ∷ []) [] ++ slot_places (move_records (λ n. p + n) children) ++ slot_places (move_records (λ n. p + n) rest)
        ≡ map (λ n. p + n) (cond b ((h.location.at + 16) ∷ []) [] ++ slot_places children ++ slot_places rest)
    go b x y =
        let own : List ℕ = cond b ((h.location.at + 16) ∷ []) [] in
        (λ i. slot b i ++ x i ++ y i) ∙ sym (both (own ++ slot_places children) (slot_places rest) ∙ ap (λ l. l ++ map (λ n. p + n) (slot_places rest)) (both own (slot_places children)))

pub own_places : (input : List ℕ) (p : ℕ) → FineRecord input 63 p (length input) an_item → slots_at input p ≡ map (λ n. p + n) (item_slot_places (item_bytes input p))
unfolding item_slot_places item_bytes
own_places input p f =
    let o = opened input 63 p (length input) an_item f in
    ap slot_places (own_item input p (word_at input p) o.room 63 (length input) refl f)
    ∙ moved_places p (records_at (item_bytes input p) 63 0 (length (item_bytes input p)))

-- The items of a chain
abbrev Slots : List ℕ → (depth place : ℕ) → List ℕ
Slots s d p = slot_places (records_at s d p (stop_at s p))

module _ (s : List ℕ) (d : ℕ) where
  chain_spaced : (n at end : ℕ) → FineList s d at end Items → Spaced at end (each (Slots s d) (chain n s at end))
  unfolding chain each Spaced due_in
  chain_spaced zero at end l = l.part.starts
  chain_spaced (suc n) at end l = go (stands s at end) refl (chain_spaced n (stop_at s at) end)
    where
      go : (b : Bool) → stands s at end ≡ b → (FineList s d (stop_at s at) end Items → Spaced (stop_at s at) end (each (Slots s d) (chain n s (stop_at s at) end)))
          → Spaced at end (each (Slots s d) (pick b (at ∷ chain n s (stop_at s at) end) []))
      go false e rest = l.part.starts
      go true e rest =
          let low = stands_low s at end e in
          let m = split_may s d at end Items an_item Items refl (λ (z : at ≡ end). omega arith) l in
          spaced_then at (stop_at s at) end (Slots s d at) (each (Slots s d) (chain n s (stop_at s at) end)) (item_spaced s d at end m.first) (rest m.rest)

-- The slots of a module's items follow each other between its names and its end
pub module_spaced : (input : List ℕ) → layout_of input ≡ Good → Spaced (names_end input) (length input) (each (slots_at input) (item_places input))
module_spaced input e =
    rw (item_chain input e) (chain_spaced input 63 (length input) (names_end input) (length input) (items_list input e))

-- A byte of an item lies in no slot of another item
all_append : (P : ℕ → Type 0) (a b : List ℕ) → All P a → All P b → All P (a ++ b)
unfolding All
all_append P [] b h g = g
all_append P (x ∷ a) b h g = (h.0, all_append P a b h.1 g)

-- The byte at x lies in item j, in none of its slots: then in none of any item
abbrev Clear : List ℕ → (depth j x : ℕ) → (places : List ℕ) → Type 0
Clear s d j x ps = j < length ps → get_or ps j 0 ≤ x → x < stop_at s (get_or ps j 0) → All (Beside x) (Slots s d (get_or ps j 0)) → All (Beside x) (each (Slots s d) ps)

module _ (s : List ℕ) (d : ℕ) where
  chain_low : (n at end : ℕ) → FineList s d at end Items → All (λ p. at ≤ p) (chain n s at end)
  unfolding chain All due_in
  chain_low zero at end l = tt
  chain_low (suc n) at end l = go (stands s at end) refl (chain_low n (stop_at s at) end)
    where
      go : (b : Bool) → stands s at end ≡ b → (FineList s d (stop_at s at) end Items → All (λ p. stop_at s at ≤ p) (chain n s (stop_at s at) end))
          → All (λ p. at ≤ p) (pick b (at ∷ chain n s (stop_at s at) end) [])
      go false e rest = tt
      go true e rest =
          let low = stands_low s at end e in
          let m = split_may s d at end Items an_item Items refl (λ (z : at ≡ end). omega arith) l in
          (omega arith, all_map (λ p. stop_at s at ≤ p) (λ p. at ≤ p) (chain n s (stop_at s at) end) (λ p h. omega arith) (rest m.rest))

  chain_beside : (n at end : ℕ) → FineList s d at end Items → (j x : ℕ) → Clear s d j x (chain n s at end)
  unfolding chain each All due_in
  chain_beside zero at end l j x = λ h a b own. tt
  chain_beside (suc n) at end l j x = go (stands s at end) refl j (λ m i. chain_beside n (stop_at s at) end m i x)
    where
      go : (b : Bool) → stands s at end ≡ b → (j : ℕ) → (FineList s d (stop_at s at) end Items → (i : ℕ) → Clear s d i x (chain n s (stop_at s at) end))
          → Clear s d j x (pick b (at ∷ chain n s (stop_at s at) end) [])
      go false e j rest h a b own = tt
      go true e zero rest h a b own =
          let low = stands_low s at end e in
          let m = split_may s d at end Items an_item Items refl (λ (z : at ≡ end). omega arith) l in
          all_append (Beside x) (Slots s d at) (each (Slots s d) (chain n s (stop_at s at) end)) own
          (all_map (λ q. (stop_at s at ≤ q) × (q + 4 ≤ end)) (Beside x) (each (Slots s d) (chain n s (stop_at s at) end)) (λ q r. inl (omega (arith, r.0)))
          (spaced_all (stop_at s at) end (each (Slots s d) (chain n s (stop_at s at) end)) (chain_spaced s d n (stop_at s at) end m.rest)))
      go true e (suc j) rest h a b own =
          let low = stands_low s at end e in
          let m = split_may s d at end Items an_item Items refl (λ (z : at ≡ end). omega arith) l in
          let k : j < length (chain n s (stop_at s at) end) = omega arith in
          let after = all_at (λ p. stop_at s at ≤ p) (chain n s (stop_at s at) end) (chain_low n (stop_at s at) end m.rest) j k in
          all_append (Beside x) (Slots s d at) (each (Slots s d) (chain n s (stop_at s at) end))
          (all_map (λ q. (at ≤ q) × (q + 4 ≤ stop_at s at)) (Beside x) (Slots s d at) (λ q r. inr (omega (arith, r.1))) (spaced_all at (stop_at s at) (Slots s d at) (item_spaced s d at end m.first)))
          (rest m.rest j k a b own)

-- A byte that lies in no slot of its item lies in none
own_beside : (p i : ℕ) (l : List ℕ) → in_slot l i ≡ false → All (Beside (p + i)) (map (λ n. p + n) l)
unfolding in_slot All
own_beside p i [] e = tt
own_beside p i (q ∷ l) e = go (leb q i) (ltb i (q + 4)) refl refl e (own_beside p i l)
  where
    go : (a b : Bool) → leb q i ≡ a → ltb i (q + 4) ≡ b → a && b || in_slot l i ≡ false → (in_slot l i ≡ false → All (Beside (p + i)) (map (λ n. p + n) l))
        → Beside (p + i) (p + q) × All (Beside (p + i)) (map (λ n. p + n) l)
    go true true x y z rest = absurd (let w : ◌≡◌ {A = ℕ} 0 1 = cc in omega arith)
    go true false x y z rest = let r = ltb-false i (q + 4) y in (inr (omega arith), rest z)
    go false b x y z rest = let r = leb-false q i x in (inl (omega arith), rest z)

-- A byte of an item that lies in no slot of it lies in no slot of the module
pub module_beside : (input : List ℕ) → layout_of input ≡ Good → (j i : ℕ) → j < item_count input → i < length (item_at input j) → in_slot (item_slot_places (item_at input j)) i ≡ false
    → All (Beside (item_place input j + i)) (each (slots_at input) (item_places input))
module_beside input e j i h l n =
    let p = item_place input j in
    let long = item_long input e j h in
    let own : All (Beside (p + i)) (slots_at input p) =
    subst (All (Beside (p + i))) (sym (own_places input p (item_fine input e j h))) (own_beside p i (item_slot_places (item_at input j)) n) in
    subst (Clear input 63 j (p + i)) (sym (item_chain input e))
    (chain_beside input 63 (length input) (names_end input) (length input) (items_list input e) j (p + i)) h (omega arith) (omega (arith, long.0)) own
