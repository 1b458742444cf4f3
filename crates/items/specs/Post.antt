-- What pass 2 promises, of an item and of all.
use Rattle.std.specs.Prelude.{ℕ, ◌-◌, ◌%◌, ◌≤◌, ◌<◌, ◌≡◌, true, List, ◌⊎◌, length, get_or}
use Rattle.std.proofs.Math.Option.{Option, none, some}
use Rattle.types.specs.Ty.{void}
use Rattle.shape.specs.Kinds as kinds
use Rattle.shape.specs.declared.Holds.TheVariants.{Parameters}
use Rattle.record_bytes.specs.Bytes.{word_at, head_end}
use Rattle.layout.specs.Layout.{kind_at, stop_at}
use Rattle.node.specs.Fine.{FineList}
use Rattle.trees.specs.Tree.{Statement, Parameter, Item}
use Rattle.trees.specs.Record.{location_at, parameters_at, body_at, item_tree_at}
use Rattle.node.specs.declared.Node.{Node}
use Rattle.node.specs.declared.Nodes.{Nodes}
use Rattle.names.specs.declared.BuiltIns.{BuiltIns}
use Rattle.meaning.specs.Context.{no_types, ModuleContext, Context, context, blank, each}
use Rattle.meaning.specs.Statement.{context_after}
use Rattle.meaning.specs.Module.{parameter_errors, parameter_slots, argument_map, body_errors, body_slots, item_errors}
use Rattle.meaning.specs.Module.{item_slots}
use Rattle.meaning.specs.Promise.{work_width}
use Rattle.walk.specs.Words.{word_place}
use Rattle.walk.specs.Represents.{Lent, Scope}
use Rattle.walk.specs.Post.{Walked}
use Rattle.convert.specs.Convert.{Resolves, visiting}
use Rattle.statement.specs.Post.{Inside}
use Rattle.statement.specs.declared.Function.{Function}
use Rattle.clear_locals.specs.Cleared.{parameter_names, body_names, is_one_of}
use Rattle.slot_places.specs.Absolute.{items_at}
use Rattle.items.specs.declared.Body.{Body}

-- Outside of functions: the working words hold the context of the module, and no local or argument
abbrev pub Outside : (s : List ℕ) → BuiltIns → Lent → ModuleContext → Type 0
Outside s names C m = Resolves s names C (context m blank)

-- A function's parameters are known, and no local
abbrev pub knowing : ModuleContext → List Parameter → Context
knowing m parameters = context m (record { variables = no_types; arguments = argument_map m parameters; return_type = void })

-- What is left of a function after its parameters: its body or nothing
pub record BodyLeft (s : List ℕ) (depth body end : ℕ) : Type 0 where
  pub fine : FineList s depth body end Parameters
  pub last : body < end → kind_at s body ≡ kinds.parameter → ⊥

-- as nodes
abbrev pub NodesLeft : List ℕ → Nodes → Type 0
NodesLeft s left = BodyLeft s left.depth left.from left.end

-- The parameters from `from` were checked, up to the place `body`, where the body stands or the function ends: the working words know them
pub record ParametersChecked (s : List ℕ) (names : BuiltIns) (depth from end body : ℕ) (C C' : Lent) : Type 0 where
  pub wide : length C'.work ≡ length C.work
  pub low : from ≤ body
  pub left : BodyLeft s depth body end
  pub same : body_at s depth from end ≡ body_at s depth body end
  pub walked : Walked (Outside s names C)
      (λ m. visiting true (each (parameter_slots m) (parameters_at s depth from end)) (each (parameter_errors m) (parameters_at s depth from end)) (body - from)) from body C C'
  pub scope : (m : ModuleContext) → Outside s names C m → Scope C' (knowing m (parameters_at s depth from end))

-- by their nodes
abbrev pub CheckedParameters : List ℕ → BuiltIns → Nodes → (body : ℕ) → (C C' : Lent) → Type 0
CheckedParameters s names list body C C' = ParametersChecked s names list.depth list.from list.end body C C'

-- The context after a body, or after nothing
abbrev pub after_body : Context → Option Statement → Context
after_body ctx none = ctx
after_body ctx (some t) = context_after ctx t

-- The body of the function at `at`, or nothing, was checked: its effect, and the context that the working words hold then
pub record BodyChecked (s : List ℕ) (names : BuiltIns) (tree : Option Statement) (at body stop returned : ℕ) (C C' : Lent) : Type 0 where
  pub wide : length C'.work ≡ length C.work
  pub walked : Walked (Inside s names C returned)
      (λ ctx. visiting true (body_slots ctx tree) (body_errors ctx (location_at s at) (word_at s (head_end at)) tree) (stop - body)) body stop C C'
  pub scope : (ctx : Context) → Inside s names C returned ctx → Scope C' (after_body ctx tree)

-- with what stays the same in the function
abbrev pub CheckedBody : List ℕ → Function → Body → (C C' : Lent) → Type 0
CheckedBody s function body C C' =
    let left = body.left in
    BodyChecked s function.names (body_at s left.depth left.from left.end) body.at left.from left.end
    function.returned C C'

-- The words of locals and arguments are 0, the others as they were
pub record Cleared (work work' : List ℕ) : Type 0 where
  pub wide : length work' ≡ length work
  pub kept : (i : ℕ) → i % work_width < 2 → get_or work' i 0 ≡ get_or work i 0
  pub zeros : (i : ℕ) → 2 ≤ i % work_width → get_or work' i 0 ≡ 0

-- The words of a function's arguments and locals are cleared. Every word is 0 or as it was; those of globals and aliases are as they were
pub record FunctionCleared (arguments locals work work' : List ℕ) : Type 0 where
  pub wide : length work' ≡ length work
  pub either : (i : ℕ) → (get_or work' i 0 ≡ 0) ⊎ (get_or work' i 0 ≡ get_or work i 0)
  pub kept : (name which : ℕ) → which < 2 → get_or work' (word_place name which) 0 ≡ get_or work (word_place name which) 0
  pub no_locals : (name : ℕ) → is_one_of name locals ≡ true → get_or work' (word_place name 2) 0 ≡ 0
  pub no_arguments : (name : ℕ) → is_one_of name arguments ≡ true → get_or work' (word_place name 3) 0 ≡ 0

-- those of the names that its parameters and its body declare
abbrev pub ClearedFunction : List ℕ → Nodes → (body : ℕ) → (work work' : List ℕ) → Type 0
ClearedFunction s parameters body work work' =
    FunctionCleared (parameter_names (parameters_at s parameters.depth parameters.from parameters.end))
    (body_names (body_at s parameters.depth body parameters.end)) work work'

-- An item from `at` to `stop` was checked: its effect, and no local or argument is left in the working words
pub record ItemChecked (s : List ℕ) (names : BuiltIns) (item : Item) (at stop : ℕ) (C C' : Lent) : Type 0 where
  pub wide : length C'.work ≡ length C.work
  pub walked : Walked (Outside s names C) (λ m. visiting true (item_slots m item) (item_errors m item) (stop - at)) at stop C C'
  pub scope : (m : ModuleContext) → Outside s names C m → Scope C' (context m blank)

-- The item at a place, with so many levels left
abbrev pub ItemCheckedAt : (s : List ℕ) → BuiltIns → (depth at : ℕ) → (C C' : Lent) → Type 0
ItemCheckedAt s names depth at C C' = ItemChecked s names (item_tree_at s depth at) at (stop_at s at) C C'

-- by its node
abbrev pub ItemNodeChecked : List ℕ → BuiltIns → Node → (C C' : Lent) → Type 0
ItemNodeChecked s names node C C' = ItemCheckedAt s names node.depth node.at C C'

-- Items, one after another
pub record ItemsChecked (s : List ℕ) (names : BuiltIns) (items : List Item) (from end : ℕ) (C C' : Lent) : Type 0 where
  pub wide : length C'.work ≡ length C.work
  pub walked : Walked (Outside s names C) (λ m. visiting true (each (item_slots m) items) (each (item_errors m) items) (end - from)) from end C C'
  pub scope : (m : ModuleContext) → Outside s names C m → Scope C' (context m blank)

-- The items from one place to another
abbrev pub ItemsCheckedAt : (s : List ℕ) → BuiltIns → (depth from end : ℕ) → (C C' : Lent) → Type 0
ItemsCheckedAt s names depth from end C C' = ItemsChecked s names (items_at s depth from end) from end C C'

-- by their nodes
abbrev pub ItemNodesChecked : List ℕ → BuiltIns → Nodes → (C C' : Lent) → Type 0
ItemNodesChecked s names list C C' = ItemsCheckedAt s names list.depth list.from list.end C C'
