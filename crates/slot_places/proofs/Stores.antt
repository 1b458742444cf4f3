-- The stores of pass 2 overlap nowhere and lie in the items. Assumes nothing.
use Prim.Native.Nat.{ℕ, ◌+◌, ◌≤◌, ◌<◌}
use mathlib.Core.Path.{◌≡◌, refl, sym, ◌∙◌, ap, ap₂, subst}
use mathlib.Core.Bool.{false}
use mathlib.Core.List.{List, [], ◌∷◌, ◌++◌, map, map-append}
use mathlib.Core.Logic.{inl, inr}
use lib.ListN.{length}
use native.Mathlib.Omega.{arith}
use Rattle.shape.specs.Shape.{an_item}
use Rattle.names.specs.Names.{names_end, item_places, item_bytes}
use Rattle.layout.specs.Layout.{Good, layout_of}
use Rattle.node.specs.Fine.{FineRecord}
use Rattle.trees.specs.Record.{item_tree, item_slot_places}
use Rattle.meaning.specs.Context.{ModuleContext, each, All}
use Rattle.meaning.specs.Convert.{Slot}
use Rattle.meaning.specs.Module.{item_slots}
use Rattle.meaning.specs.Promise.{in_slot, item_place, item_at, item_count}
use Rattle.walk.specs.Effect.{Store, store, store_from}
use Rattle.walk.proofs.Slots.{All as AllStores, Off, Apart, Outside, Inside}
use Rattle.slot_places.specs.Absolute.{module_item_at, slot_at}
use Rattle.slot_places.specs.Spaced.{Spaced, Beside}
use Rattle.slot_places.specs.Stores.{item_stores, module_stores}
use Rattle.slot_places.proofs.Items.{items_fine, same_at}
use Rattle.slot_places.proofs.Spaces.{spaced_ends, spaced_from, slots_at, module_spaced, module_beside}
use Rattle.slot_places.proofs.Order.{places_of, slots_at_lem}

-- The places of the slots of stores
abbrev pub store_places : List Store → List ℕ
store_places stores = map (λ (s : Store). s.at + 16) stores

-- The stores of an item, by its own bytes and by its place
stored_places : (p : ℕ) (l : List Slot) → store_places (map (store_from p) l) ≡ places_of (map (slot_at p) l)
stored_places p [] = refl
stored_places p (s ∷ l) = ap (λ x. (p + s.at + 16) ∷ x) (stored_places p l)

pub item_places_lem : (input : List ℕ) (ctx : ModuleContext) (p : ℕ) → FineRecord input 63 p (length input) an_item → store_places (item_stores input ctx p) ≡ slots_at input p
item_places_lem input ctx p f =
    stored_places p (item_slots ctx (item_tree (item_bytes input p))) ∙ ap places_of (sym ((same_at input p f).slots ctx)) ∙ slots_at_lem input p f ctx

places_each : (input : List ℕ) (ctx : ModuleContext) (ps : List ℕ) → All (λ p. FineRecord input 63 p (length input) an_item) ps
    → store_places (each (item_stores input ctx) ps) ≡ each (slots_at input) ps
unfolding All each
places_each input ctx [] h = refl
places_each input ctx (p ∷ ps) h =
    map-append (λ (s : Store). s.at + 16) (item_stores input ctx p) (each (item_stores input ctx) ps) ∙ ap₂ ◌++◌ (item_places_lem input ctx p h.0) (places_each input ctx ps h.1)

-- The slots of the item's tree by its place in the file are the same stores
moved_stores : (p : ℕ) (l : List Slot) → map (store_from 0) (map (slot_at p) l) ≡ map (store_from p) l
moved_stores p [] = refl
moved_stores p (s ∷ l) = let e : 0 + (p + s.at) ≡ p + s.at = omega arith in λ i. store (e i) s.type ∷ moved_stores p l i

pub stores_at : (input : List ℕ) (ctx : ModuleContext) (p : ℕ) → FineRecord input 63 p (length input) an_item
    → map (store_from 0) (item_slots ctx (module_item_at input p)) ≡ item_stores input ctx p
stores_at input ctx p f = ap (map (store_from 0)) ((same_at input p f).slots ctx) ∙ moved_stores p (item_slots ctx (item_tree (item_bytes input p)))

pub module_places : (input : List ℕ) → layout_of input ≡ Good → (ctx : ModuleContext) → store_places (module_stores input ctx) ≡ each (slots_at input) (item_places input)
module_places input e ctx = places_each input ctx (item_places input) (items_fine input e)

-- From places to stores
all_stores : (P : ℕ → Type 0) (l : List Store) → All P (store_places l) → AllStores (λ s. P (s.at + 16)) l
unfolding All AllStores
all_stores P [] h = tt
all_stores P (s ∷ l) h = (h.0, all_stores P l h.1)

pub spaced_stores : (P : Store → Type 0) (a b : ℕ) (l : List Store) → ((s : Store) → a ≤ s.at + 16 → s.at + 16 + 4 ≤ b → P s) → Spaced a b (store_places l) → AllStores P l
unfolding Spaced AllStores
spaced_stores P a b [] f h = tt
spaced_stores P a b (s ∷ l) f h = (
  f s h.0 (spaced_ends (s.at + 16 + 4) b (store_places l) h.1),
  spaced_stores P a b l f (spaced_from a (s.at + 16 + 4) b (store_places l) (omega (arith, h.0)) h.1),
)

spaced_apart : (a b : ℕ) (l : List Store) → Spaced a b (store_places l) → Apart l
unfolding Spaced Apart
spaced_apart a b [] h = tt
spaced_apart a b (s ∷ l) h =
    (spaced_stores (Off s) (s.at + 16 + 4) b l (λ u p q. inl (omega arith)) h.1, spaced_apart (s.at + 16 + 4) b l h.1)

-- No two overlap; each lies between the names and the end; a byte of an item that lies in no slot of it lies in none
pub record Laid (input : List ℕ) (stores : List Store) : Type 0 where
  pub apart : Apart stores
  pub inside : AllStores (Inside (length input)) stores
  pub before : (i : ℕ) → i < names_end input → AllStores (Outside i) stores
  pub past : (i : ℕ) → length input ≤ i → AllStores (Outside i) stores
  pub others : (j i : ℕ) → j < item_count input → i < length (item_at input j) → in_slot (item_slot_places (item_at input j)) i ≡ false
      → AllStores (Outside (item_place input j + i)) stores

pub stores_laid : (input : List ℕ) → layout_of input ≡ Good → (ctx : ModuleContext) → Laid input (module_stores input ctx)
stores_laid input e ctx =
    let stores : List Store = module_stores input ctx in
    let places = module_places input e ctx in
    let spaced : Spaced (names_end input) (length input) (store_places stores) = subst (Spaced (names_end input) (length input)) (sym places) (module_spaced input e) in
    record {
      apart = spaced_apart (names_end input) (length input) stores spaced;
      inside = spaced_stores (Inside (length input)) (names_end input) (length input) stores (λ s p q. q) spaced;
      before = λ i h. spaced_stores (Outside i) (names_end input) (length input) stores (λ s p q. inl (omega arith)) spaced;
      past = λ i h. spaced_stores (Outside i) (names_end input) (length input) stores (λ s p q. inr (omega arith)) spaced;
      others = λ j i h l n. all_stores (Beside (item_place input j + i)) stores (subst (All (Beside (item_place input j + i))) (sym places) (module_beside input e j i h l n));
    }
