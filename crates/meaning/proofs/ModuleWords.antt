-- The errors and the types of a module whose items have the names, operators and literals' places that are asked: both passes. Assumes nothing.
use Prim.Native.Nat.{ℕ}
use mathlib.Core.Path.{◌≡◌}
use mathlib.Core.Bool.{true}
use mathlib.Core.List.{List, [], ◌∷◌}
use Rattle.types.specs.Ty.{parts, fixed_types}
use Rattle.trees.specs.Tree.{Item}
use Rattle.meaning.specs.Context.{TypeMap, each, All, ModuleContext, is_some}
use Rattle.meaning.specs.Expression.{comparison_operator}
use Rattle.meaning.specs.Module.{is_taken, declare, declarations, declare_all, empty_context, module_context, errors_in1, types_in1, item_errors, item_types, module_errors, types_met, needed_types}
use Rattle.meaning.specs.Words.{ErrorOf, NamesIn}
use Rattle.meaning.proofs.Members.{all_join, all_each}
use Rattle.meaning.proofs.TreeWords.{InItem}
use Rattle.meaning.proofs.ErrorWords as errors
use Rattle.meaning.proofs.TypeNames as types
use Rattle.meaning.proofs.TypeNames.{NamesInMap, NamedModule}

module _ (N O L B : ℕ → Type 0) (nine : O comparison_operator) where
  errors_in_1 : (ctx : ModuleContext) → ((name : ℕ) → is_some (ctx.built_ins name) ≡ true → B name) → (items : List Item) → All (InItem N O L) items
      → All (ErrorOf N O L B) (each errors_in1 (declarations ctx items))
  unfolding All each declarations
  errors_in_1 ctx b [] p = tt
  errors_in_1 ctx b (i ∷ is) p =
      all_join (ErrorOf N O L B) (errors_in1 (record { item = i; met = ctx })) (each errors_in1 (declarations (declare ctx i) is))
      (errors.in_pass_1 N O L B ctx b (is_taken ctx.type_aliases i) i p.0.declared).all
      (errors_in_1 (declare ctx i) b is p.1)

  pub module_errors_lem : (built_ins : TypeMap) → ((name : ℕ) → is_some (built_ins name) ≡ true → B name) → (items : List Item) → All (InItem N O L) items
      → All (ErrorOf N O L B) (module_errors built_ins items)
  unfolding module_errors
  module_errors_lem built_ins b items p =
      let ctx = module_context built_ins items in
      all_join (ErrorOf N O L B) (each errors_in1 (declarations (empty_context built_ins) items)) (each (item_errors ctx) items)
      (errors_in_1 (empty_context built_ins) b items p)
      (all_each (ErrorOf N O L B) (InItem N O L) (item_errors ctx) (λ i h. (errors.in_pass_2 N O L B nine ctx i h).all) items p)

module _ (N O L : ℕ → Type 0) where
  types_in_1 : (ctx : ModuleContext) → NamedModule N ctx → (items : List Item) → All (InItem N O L) items → All (NamesIn N) (each types_in1 (declarations ctx items))
  unfolding All each declarations
  types_in_1 ctx m [] p = tt
  types_in_1 ctx m (i ∷ is) p =
      all_join (NamesIn N) (types_in1 (record { item = i; met = ctx })) (each types_in1 (declarations (declare ctx i) is))
      (types.in_pass_1 N ctx m (is_taken ctx.type_aliases i) i p.0.declared)
      (types_in_1 (declare ctx i) (types.declared N ctx m i p.0.declared) is p.1)

  context_named : (ctx : ModuleContext) → NamedModule N ctx → (items : List Item) → All (InItem N O L) items → NamedModule N (declare_all ctx items)
  unfolding All declare_all
  context_named ctx m [] p = m
  context_named ctx m (i ∷ is) p = context_named (declare ctx i) (types.declared N ctx m i p.0.declared) is p.1

  pub module_types : (built_ins : TypeMap) → NamesInMap N built_ins → (items : List Item) → All (InItem N O L) items → All (NamesIn N) (needed_types built_ins items)
  unfolding needed_types types_met
  module_types built_ins b items p =
      let start : ModuleContext = empty_context built_ins in
      let ctx : ModuleContext = module_context built_ins items in
      let empty : NamedModule N start = record { built_ins = b; type_aliases = λ name. tt; globals = λ name. tt } in
      let met : All (NamesIn N) (types_met built_ins items) =
      all_join (NamesIn N) (each types_in1 (declarations start items)) (each (item_types ctx) items) (types_in_1 start empty items p)
      (all_each (NamesIn N) (InItem N O L) (item_types ctx) (types.in_pass_2 N O L ctx (context_named start empty items p)) items p) in
      all_join (NamesIn N) fixed_types (each parts (types_met built_ins items)) (types.fixed_named N)
      (all_each (NamesIn N) (NamesIn N) parts (types.parts_named N) (types_met built_ins items) met)
