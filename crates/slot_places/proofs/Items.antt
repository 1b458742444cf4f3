-- The items of a module by their places mean what their own bytes mean. Assumes nothing.
use Prim.Native.Nat.{ℕ, zero, suc, ◌+◌, ◌≤◌, ◌<◌}
use mathlib.Core.Path.{◌≡◌, refl, sym, ◌∙◌, ap, ap₂, subst}
use mathlib.Core.Bool.{Bool, true, false, ◌&&◌}
use mathlib.Core.List.{List, [], ◌∷◌, ◌++◌, map, map-map}
use lib.ListN.{length, get_or}
use lib.Dec.{leb}
use native.Mathlib.Omega.{arith}
use borrow.Author.Tests.{leb-true}
use Rattle.types.specs.Ty.{fixed_types, parts}
use Rattle.shape.specs.Shape.{pick, due_in, an_item}
use Rattle.shape.specs.declared.Holds.TheVariants.{Items}
use Rattle.shape.proofs.ShapeLaws.{and_both}
use Rattle.record_bytes.specs.Bytes.{word_at}
use Rattle.names.specs.Names.{stands, chain, names_end, item_places, item_bytes, items_of}
use Rattle.layout.specs.Layout.{Good, stop_at, layout_of}
use Rattle.node.specs.Fine.{FineRecord, FineList}
use Rattle.trees.specs.Tree.{Item}
use Rattle.trees.specs.Record.{Records, records_at, to_item, item_tree}
use Rattle.node.proofs.Open.{opened, split_may, items_list, item_chain}
use Rattle.trees.proofs.Decode.{fine_wide}
use Rattle.meaning.specs.TypeError.{move_place}
use Rattle.meaning.specs.Context.{TypeMap, ModuleContext, insert_all, each, All}
use Rattle.meaning.specs.Module.{is_taken, alias_entries, declaration_errors, slot_type, entry_type, declare, declarations, declare_all, empty_context, module_context, errors_in1, types_in1, item_errors, item_slots, item_types, module_errors, types_met, needed_types}
use Rattle.meaning.specs.Promise.{trees_of, built_ins_of, context_of, placed_errors_of, item_place, item_at, item_count}
use Rattle.slot_places.specs.Absolute.{module_item_at, trees_at}
use Rattle.slot_places.proofs.Change.{SameItem, same_types}
use Rattle.slot_places.proofs.Decode.{moved_item}
use Rattle.slot_places.proofs.Own.{own_length, own_item}

-- All of a list
pub all_at : (P : ℕ → Type 0) (l : List ℕ) → All P l → (i : ℕ) → i < length l → P (get_or l i 0)
unfolding All
all_at P [] h i q = absurd (omega arith)
all_at P (x ∷ l) h zero q = h.0
all_at P (x ∷ l) h (suc i) q = all_at P l h.1 i (omega arith)

pub all_map : {A : Type 0} (P Q : A → Type 0) (l : List A) → ((x : A) → P x → Q x) → All P l → All Q l
unfolding All
all_map P Q [] f h = tt
all_map P Q (x ∷ l) f h = (f x h.0, all_map P Q l f h.1)

-- What stands has at least its head
pub stands_low : (s : List ℕ) (at end : ℕ) → stands s at end ≡ true → at + 16 ≤ end
unfolding stands
stands_low s at end e =
    leb-true (at + 16) end (and_both (leb (at + 16) end) (leb 16 (word_at s at)) (and_both (leb (at + 16) end && leb 16 (word_at s at)) (leb (at + word_at s at) end) e).0).0

-- Every record of a chain of items has no fault
chain_fine : (s : List ℕ) (d n at end : ℕ) → FineList s d at end Items → All (λ p. FineRecord s d p (length s) an_item) (chain n s at end)
unfolding chain All due_in
chain_fine s d zero at end l = tt
chain_fine s d (suc n) at end l = go (stands s at end) refl (chain_fine s d n (stop_at s at) end)
  where
    go : (b : Bool) → stands s at end ≡ b → (FineList s d (stop_at s at) end Items → All (λ p. FineRecord s d p (length s) an_item) (chain n s (stop_at s at) end))
        → All (λ p. FineRecord s d p (length s) an_item) (pick b (at ∷ chain n s (stop_at s at) end) [])
    go false e rest = tt
    go true e rest =
        let low = stands_low s at end e in
        let m = split_may s d at end Items an_item Items refl (λ (z : at ≡ end). omega arith) l in
        (fine_wide s d at end an_item m.first, rest m.rest)

pub items_fine : (input : List ℕ) → layout_of input ≡ Good → All (λ p. FineRecord input 63 p (length input) an_item) (item_places input)
items_fine input e =
    rw (item_chain input e) (chain_fine input 63 (length input) (names_end input) (length input) (items_list input e))

-- by number
pub item_fine : (input : List ℕ) → layout_of input ≡ Good → (j : ℕ) → j < item_count input → FineRecord input 63 (item_place input j) (length input) an_item
item_fine input e j h = all_at (λ p. FineRecord input 63 p (length input) an_item) (item_places input) (items_fine input e) j h

-- Its own bytes lie in the file
pub item_long : (input : List ℕ) → layout_of input ≡ Good → (j : ℕ) → j < item_count input
    → (length (item_at input j) ≡ word_at input (item_place input j)) × (item_place input j + length (item_at input j) ≤ length input)
unfolding item_bytes
item_long input e j h =
    let p = item_place input j in
    let o = opened input 63 p (length input) an_item (item_fine input e j h) in
    let n : length (item_at input j) ≡ word_at input p = own_length input p (word_at input p) o.room in
    (n, omega (arith, o.room))

-- One item
pub same_at : (input : List ℕ) (p : ℕ) → FineRecord input 63 p (length input) an_item → SameItem (λ n. p + n) (module_item_at input p) (item_tree (item_bytes input p))
unfolding item_tree item_bytes
same_at input p f =
    let o = opened input 63 p (length input) an_item f in
    let r = own_item input p (word_at input p) o.room 63 (length input) refl f in
    subst (λ (x : Records). SameItem (λ n. p + n) (to_item x) (item_tree (item_bytes input p))) (sym r)
    (moved_item (λ n. p + n) (records_at (item_bytes input p) 63 0 (length (item_bytes input p))))

-- All of them
module _ (f g : ℕ → Item) where
  abbrev Alike : ℕ → Type 0
  Alike p = SameItem (λ n. p + n) (f p) (g p)

  module _ (p : ℕ) (a : Alike p) (ctx : ModuleContext) where
    aliases_same : alias_entries ctx (is_taken ctx.type_aliases (f p)) (f p) ≡ alias_entries ctx (is_taken ctx.type_aliases (g p)) (g p)
    aliases_same = ap (λ b. alias_entries ctx b (f p)) (a.taken ctx.type_aliases) ∙ a.aliases ctx (is_taken ctx.type_aliases (g p))

    declare_same : declare ctx (f p) ≡ declare ctx (g p)
    declare_same = λ i. record { built_ins = ctx.built_ins; type_aliases = insert_all (aliases_same i) ctx.type_aliases; globals = insert_all (a.globals ctx i) ctx.globals }

    errors_same : errors_in1 (record { item = f p; met = ctx }) ≡ errors_in1 (record { item = g p; met = ctx })
    errors_same = ap (λ b. declaration_errors ctx b (f p)) (a.taken ctx.type_aliases) ∙ a.errors1 ctx (is_taken ctx.type_aliases (g p))

    types_same : types_in1 (record { item = f p; met = ctx }) ≡ types_in1 (record { item = g p; met = ctx })
    types_same = λ i. a.types1 ctx i ++ map entry_type (aliases_same i) ++ map entry_type (a.globals ctx i)

    item_types_same : item_types ctx (f p) ≡ item_types ctx (g p)
    item_types_same = ap (map slot_type) (a.slots ctx) ∙ same_types (λ n. p + n) (item_slots ctx (g p))

  context_all : (ps : List ℕ) → All Alike ps → (ctx : ModuleContext) → declare_all ctx (map f ps) ≡ declare_all ctx (map g ps)
  unfolding All declare_all
  context_all [] h ctx = refl
  context_all (p ∷ ps) h ctx = ap (λ c. declare_all c (map f ps)) (declare_same p h.0 ctx) ∙ context_all ps h.1 (declare ctx (g p))

  errors1_all : (ps : List ℕ) → All Alike ps → (ctx : ModuleContext) → each errors_in1 (declarations ctx (map f ps)) ≡ each errors_in1 (declarations ctx (map g ps))
  unfolding All each declarations
  errors1_all [] h ctx = refl
  errors1_all (p ∷ ps) h ctx =
      ap₂ ◌++◌ (errors_same p h.0 ctx) (ap (λ c. each errors_in1 (declarations c (map f ps))) (declare_same p h.0 ctx) ∙ errors1_all ps h.1 (declare ctx (g p)))

  types1_all : (ps : List ℕ) → All Alike ps → (ctx : ModuleContext) → each types_in1 (declarations ctx (map f ps)) ≡ each types_in1 (declarations ctx (map g ps))
  unfolding All each declarations
  types1_all [] h ctx = refl
  types1_all (p ∷ ps) h ctx =
      ap₂ ◌++◌ (types_same p h.0 ctx) (ap (λ c. each types_in1 (declarations c (map f ps))) (declare_same p h.0 ctx) ∙ types1_all ps h.1 (declare ctx (g p)))

  errors2_all : (ps : List ℕ) → All Alike ps → (ctx : ModuleContext) → each (item_errors ctx) (map f ps) ≡ each (λ p. map (move_place (λ n. p + n)) (item_errors ctx (g p))) ps
  unfolding All each
  errors2_all [] h ctx = refl
  errors2_all (p ∷ ps) h ctx = ap₂ ◌++◌ (h.0.errors2 ctx) (errors2_all ps h.1 ctx)

  types2_all : (ps : List ℕ) → All Alike ps → (ctx : ModuleContext) → each (item_types ctx) (map f ps) ≡ each (item_types ctx) (map g ps)
  unfolding All each
  types2_all [] h ctx = refl
  types2_all (p ∷ ps) h ctx = ap₂ ◌++◌ (item_types_same p h.0 ctx) (types2_all ps h.1 ctx)

-- The items by their places, and by their own bytes
pub record SameModule (input : List ℕ) : Type 0 where
  pub items : All (λ p. SameItem (λ n. p + n) (module_item_at input p) (item_tree (item_bytes input p))) (item_places input)
  pub context : (ctx : ModuleContext) → declare_all ctx (trees_at input) ≡ declare_all ctx (trees_of input)
  pub errors1 : (ctx : ModuleContext) → each errors_in1 (declarations ctx (trees_at input)) ≡ each errors_in1 (declarations ctx (trees_of input))
  pub types1 : (ctx : ModuleContext) → each types_in1 (declarations ctx (trees_at input)) ≡ each types_in1 (declarations ctx (trees_of input))
  pub types2 : (ctx : ModuleContext) → each (item_types ctx) (trees_at input) ≡ each (item_types ctx) (trees_of input)
  pub errors : module_errors (built_ins_of input) (trees_at input) ≡ placed_errors_of input
  pub types : (built_ins : TypeMap) → needed_types built_ins (trees_at input) ≡ needed_types built_ins (trees_of input)

-- A module with no fault in its layout means the same by the places of its items and by their own bytes
pub same_module : (input : List ℕ) → layout_of input ≡ Good → SameModule input
unfolding items_of module_errors placed_errors_of types_met needed_types
same_module input e =
    let ps : List ℕ = item_places input in
    let own : ℕ → Item = λ p. item_tree (item_bytes input p) in
    let all : All (λ p. SameItem (λ n. p + n) (module_item_at input p) (item_tree (item_bytes input p))) ps =
    all_map (λ p. FineRecord input 63 p (length input) an_item) (λ p. SameItem (λ n. p + n) (module_item_at input p) (own p)) ps (same_at input) (items_fine input e) in
    let m : map own ps ≡ trees_of input = sym (map-map item_tree (item_bytes input) ps) in
    let context : (ctx : ModuleContext) → declare_all ctx (trees_at input) ≡ declare_all ctx (trees_of input) =
    (λ ctx. context_all (module_item_at input) own ps all ctx ∙ ap (declare_all ctx) m) in
    let errors1 : (ctx : ModuleContext) → each errors_in1 (declarations ctx (trees_at input)) ≡ each errors_in1 (declarations ctx (trees_of input)) =
    (λ ctx. errors1_all (module_item_at input) own ps all ctx ∙ ap (λ l. each errors_in1 (declarations ctx l)) m) in
    let types1 : (ctx : ModuleContext) → each types_in1 (declarations ctx (trees_at input)) ≡ each types_in1 (declarations ctx (trees_of input)) =
    (λ ctx. types1_all (module_item_at input) own ps all ctx ∙ ap (λ l. each types_in1 (declarations ctx l)) m) in
    let types2 : (ctx : ModuleContext) → each (item_types ctx) (trees_at input) ≡ each (item_types ctx) (trees_of input) =
    (λ ctx. types2_all (module_item_at input) own ps all ctx ∙ ap (each (item_types ctx)) m) in
    record {
      items = all;
      context = context;
      errors1 = errors1;
      types1 = types1;
      types2 = types2;
      errors = let start = empty_context (built_ins_of input) in
          ap₂ ◌++◌ (errors1 start) (ap (λ c. each (item_errors c) (trees_at input)) (context start) ∙ errors2_all (module_item_at input) own ps all (context_of input));
      types = λ built_ins. let start = empty_context built_ins in
          ap (λ l. fixed_types ++ each parts l)
          (ap₂ ◌++◌ (types1 start) (ap (λ c. each (item_types c) (trees_at input)) (context start) ∙ types2 (module_context built_ins (trees_of input))));
    }
