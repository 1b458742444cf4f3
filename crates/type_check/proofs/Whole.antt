-- Both passes over a module with no fault do what the meaning says of the whole module. Assumes nothing.
use Prim.Native.Nat.{ℕ, ◌+◌, ◌-◌, ◌*◌}
use mathlib.Core.Path.{◌≡◌, refl, sym, ◌∙◌, ap, ap₂, subst}
use mathlib.Core.Bool.{true}
use mathlib.Core.List.{List, [], ◌∷◌, ◌++◌, map, map-append}
use native.Mathlib.Omega.{arith}
use lib.ListN.{length}
use Rattle.shape.specs.Shape.{an_item}
use Rattle.names.specs.Names.{names_end, item_places, built_ins}
use Rattle.layout.specs.Layout.{Good, layout_of}
use Rattle.node.specs.Fine.{FineRecord}
use Rattle.trees.specs.Tree.{Item}
use Rattle.meaning.specs.Context.{TypeMap, ModuleContext, context, blank, each, All}
use Rattle.meaning.specs.Convert.{Slot}
use Rattle.meaning.specs.Module.{slot_type, declarations, declare_all, empty_context, types_in1, item_errors, item_slots, item_types, module_errors, types_met}
use Rattle.meaning.specs.Promise.{trees_of, built_ins_of, context_of, placed_errors_of}
use Rattle.meaning.proofs.Order.{built_ins_kept}
use Rattle.walk.specs.Effect.{store, store_from, Effect, ◌then◌}
use Rattle.walk.specs.Represents.{Lent, Does}
use Rattle.walk.proofs.Laws.{does_then}
use Rattle.convert.specs.Convert.{Resolves, store_slot, visiting}
use Rattle.slot_places.specs.Absolute.{module_item_at, trees_at, items_at}
use Rattle.slot_places.specs.Stores.{item_stores, module_stores}
use Rattle.slot_places.proofs.Items.{same_module, items_fine}
use Rattle.slot_places.proofs.Listed.{module_items}
use Rattle.slot_places.proofs.Stores.{stores_at}
use Rattle.declare.specs.Declare.{declarations_of}
use Rattle.declare.specs.Post.{AllDeclared}
use Rattle.items.specs.Post.{Outside, ItemsChecked}

-- The steps of both passes, a bound on the rows asked for
abbrev pub module_steps : List ℕ → ℕ
module_steps input = 2 * (length input - names_end input)

-- The effect of a module
abbrev pub module_effect : List ℕ → Effect
module_effect input =
    record {
      stores = module_stores input (context_of input);
      errors = placed_errors_of input;
      met = types_met (built_ins_of input) (trees_of input);
      steps = module_steps input;
    }

-- Slots of several items
map_each : {A B C : Type 0} (g : B → C) (f : A → List B) (l : List A) → map g (each f l) ≡ each (λ x. map g (f x)) l
unfolding each
map_each g f [] = refl
map_each g f (x ∷ l) = map-append g (f x) (each f l) ∙ ap (λ k. map g (f x) ++ k) (map_each g f l)

-- Slots by their places in the file, as stores
file_stores : (l : List Slot) → map (store_from 0) l ≡ map store_slot l
file_stores [] = refl
file_stores (s ∷ l) = let e : 0 + s.at ≡ s.at = omega arith in λ i. store (e i) s.type ∷ file_stores l i

stores_of : (input : List ℕ) (m : ModuleContext) (ps : List ℕ) → All (λ p. FineRecord input 63 p (length input) an_item) ps
    → map store_slot (each (item_slots m) (map (module_item_at input) ps)) ≡ each (item_stores input m) ps
unfolding All each
stores_of input m [] h = refl
stores_of input m (p ∷ ps) h =
    map-append store_slot (item_slots m (module_item_at input p)) (each (item_slots m) (map (module_item_at input) ps))
    ∙ ap₂ ◌++◌ (sym (file_stores (item_slots m (module_item_at input p))) ∙ stores_at input m p h.0) (stores_of input m ps h.1)

-- Pass 1, then pass 2 with the context that pass 1 leaves
module _ (input : List ℕ) (good : layout_of input ≡ Good) where
  abbrev from : ℕ
  from = names_end input

  abbrev items : List Item
  items = items_at input 63 from (length input)

  abbrev start : ModuleContext
  start = empty_context (built_ins_of input)

  abbrev effect_of_both : List Item → Effect
  effect_of_both trees =
      declarations_of trees (length input - from) start
      then visiting true (each (item_slots (declare_all start trees)) trees) (each (item_errors (declare_all start trees)) trees) (length input - from)

  trees_effect : effect_of_both (trees_at input) ≡ module_effect input
  unfolding module_errors types_met
  trees_effect =
      let same = same_module input good in
      let ctx = same.context start in
      let stores =
      stores_of input (declare_all start (trees_at input)) (item_places input) (items_fine input good) ∙ ap (λ (m : ModuleContext). module_stores input m) ctx in
      let types : each types_in1 (declarations start (trees_at input)) ++ map slot_type (each (item_slots (declare_all start (trees_at input))) (trees_at input)) ≡ types_met (built_ins_of input) (trees_of input) =
      ap₂ ◌++◌ (same.types1 start)
      (map_each slot_type (item_slots (declare_all start (trees_at input))) (trees_at input) ∙ same.types2 (declare_all start (trees_at input)) ∙ ap (λ (m : ModuleContext). each (item_types m) (trees_of input)) ctx) in
      let steps : length input - from + (length input - from) ≡ module_steps input = omega arith in
      λ i. record { stores = stores i; errors = same.errors i; met = types i; steps = steps i }

  pub module_effect_lem : effect_of_both items ≡ module_effect input
  module_effect_lem = ap effect_of_both (module_items input good) ∙ trees_effect

  -- Whatever was done before pass 1, the whole effect was done after pass 2
  pub both_passes : {A B C : Lent} → Resolves input (built_ins input) A (context start blank) → AllDeclared input (built_ins input) items from (length input) A B
      → ItemsChecked input (built_ins input) items from (length input) B C → Does (module_effect input) A C
  both_passes {A} {B} {C} r d i =
      let m = declare_all start items in
      let kept : m.built_ins ≡ start.built_ins = built_ins_kept start items in
      let outside : Outside input (built_ins input) B m =
      record { scope = d.scope (context start blank) r; built_ins = λ name known. ap (λ (f : TypeMap). f name) kept ∙ r.built_ins name known } in
      subst (λ (e : Effect). Does e A C) module_effect_lem (does_then (d.walked.does (context start blank) r) (i.walked.does m outside))
