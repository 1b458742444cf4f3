-- A function, once its parts are checked. Assumes nothing.
use Prim.Native.Nat.{ℕ, ◌+◌, ◌-◌, ◌≤◌}
use mathlib.Core.Path.{◌≡◌, refl, sym, ap, ◌∙◌, subst}
use mathlib.Core.Bool.{Bool, true, ◌||◌, or_comm}
use mathlib.Core.List.Permᴰ
use mathlib.Core.List.{List, ◌++◌, map, map-append}
use mathlib.Core.Option.{Option, none, some}
use native.Mathlib.Omega.{arith}
use lib.ListN.{length}
use Rattle.types.specs.Ty.{Ty, member, parts}
use Rattle.types.proofs.Parts.{member_append}
use Rattle.shape.specs.Shape.{a_type, an_item}
use Rattle.shape.specs.declared.Holds.TheVariants.{Parameters}
use Rattle.record_bytes.specs.Bytes.{word_at}
use Rattle.layout.specs.Layout.{max_bytes, kind_at, stop_at}
use Rattle.node.specs.Fine.{FineRecord, FineList}
use Rattle.trees.specs.Tree.{Location, TypeNode, Parameter, Statement, Item, function_definition}
use Rattle.trees.specs.Record.{location_at, type_at, parameters_at, body_at, item_tree_at}
use Rattle.names.specs.declared.BuiltIns.{BuiltIns}
use Rattle.node.proofs.Open.{opened}
use Rattle.trees.proofs.TypeTrees.{TypeRoom}
use Rattle.trees.proofs.ItemTrees.{FunctionAt, item_function}
use Rattle.meaning.specs.TypeError.{TypeError}
use Rattle.meaning.specs.Context.{TypeMap, no_types, ModuleContext, Context, context, blank, each}
use Rattle.meaning.specs.Convert.{Slot, conversion_errors, conversion_slots}
use Rattle.meaning.specs.Module.{slot_type, parameter_errors, parameter_slots, function_context, body_errors, body_slots, item_errors, item_slots}
use Rattle.walk.specs.declared.State.{State}
use Rattle.walk.specs.Effect.{Effect, nothing, ◌then◌, Shown}
use Rattle.walk.specs.Represents.{Lent, lent, Grew, Scope}
use Rattle.walk.specs.Post.{Walked}
use Rattle.walk.proofs.Sets.{each_append}
use Rattle.walk.proofs.Laws.{scope_later, then_nothing}
use Rattle.walk.proofs.Walks.{walked_then, walked_as, walked_at, walked_wider}
use Rattle.convert.specs.Convert.{Resolves, store_slot, visiting}
use Rattle.convert.specs.Post.{Ready, Converted}
use Rattle.convert.proofs.Visits.{visit_then}
use Rattle.statement.specs.Post.{Inside}
use Rattle.clear_locals.specs.Cleared.{parameter_names, body_names}
use Rattle.clear_locals.proofs.Names.{Declares, after_declares, no_argument}
use Rattle.items.specs.Post.{Outside, knowing, ParametersChecked, after_body, BodyChecked, FunctionCleared, ItemChecked, ItemCheckedAt}
use Rattle.items.proofs.Locals.{cleared_walked, cleared_scope}

-- The order of slots is free

abbrev has_part : Ty → List Slot → Bool
has_part t slots = member t (each parts (map slot_type slots))

part_append : (t : Ty) (a b : List Slot) → has_part t (a ++ b) ≡ (has_part t a || has_part t b)
part_append t a b =
    ap (λ (l : List Ty). member t (each parts l)) (map-append slot_type a b)
    ∙ ap (member t) (each_append parts (map slot_type a) (map slot_type b))
    ∙ member_append t (each parts (map slot_type a)) (each parts (map slot_type b))

visit_swapped : (a b c : List Slot) (e : List TypeError) (m n : ℕ) → m ≤ n → Shown (visiting true (a ++ b ++ c) e m) (visiting true (b ++ a ++ c) e n)
visit_swapped a b c e m n few =
    record {
      stores = Permᴰ.map store_slot (Permᴰ.append_right c (Permᴰ.append_comm a b));
      errors = refl;
      met = λ t.
          part_append t (a ++ b) c
          ∙ ap (λ (x : Bool). x || has_part t c) (part_append t a b ∙ or_comm (has_part t a) (has_part t b) ∙ sym (part_append t b a))
          ∙ sym (part_append t (b ++ a) c);
      steps = few;
    }

-- The parameters, the type that is returned, the body, and then the words of locals and arguments are cleared
function_shown : (m : ModuleContext) (l : Location) (name : ℕ) (returned : TypeNode) (ps : List Parameter) (body : Option Statement) (i j k n : ℕ) → i + j + k ≤ n
    → Shown
    (visiting true (each (parameter_slots m) ps) (each (parameter_errors m) ps) i
    then visiting true (conversion_slots m returned) (conversion_errors m returned) j
    then visiting true (body_slots (function_context m returned ps) body) (body_errors (function_context m returned ps) l name body) k
    then nothing)
    (visiting true (item_slots m (function_definition l name returned ps body)) (item_errors m (function_definition l name returned ps body)) n)
unfolding item_slots item_errors
function_shown m l name returned ps body i j k n few =
    let a = each (parameter_slots m) ps in
    let b = conversion_slots m returned in
    let c = body_slots (function_context m returned ps) body in
    let e = each (parameter_errors m) ps in
    let f = conversion_errors m returned in
    let g = body_errors (function_context m returned ps) l name body in
    let whole = visiting true (b ++ a ++ c) (e ++ f ++ g) n in
    subst (λ (x : Effect). Shown x whole)
    (sym (then_nothing (visiting true a e i then visiting true b f j then visiting true c g k)
    ∙ ap (λ (x : Effect). x then visiting true c g k) (visit_then true a b e f i j)
    ∙ visit_then true (a ++ b) c (e ++ f) g (i + j) k))
    (visit_swapped a b c (e ++ f ++ g) (i + j + k) n few)

-- A body, or nothing, leaves the names that it does not declare
body_declares : (tree : Option Statement) (ctx : Context) → Declares (body_names tree) ctx (after_body ctx tree)
unfolding body_names
body_declares none ctx = record { in_module = refl; arguments = refl; variables = λ n h. refl }
body_declares (some t) ctx = after_declares t ctx

-- The bytes of a function or a variable: its type stands first
pub record DeclaredRoom (s : List ℕ) (d at : ℕ) : Type 0 where
  pub deep : 1 ≤ d
  pub type : at + 36 ≤ stop_at s (at + 20)
  pub fits : stop_at s (at + 20) ≤ stop_at s at
  pub ends : stop_at s at ≤ length s
  pub few : length s ≤ max_bytes

pub declared_room : {s : List ℕ} {d at : ℕ} → TypeRoom s d at 1 → FineRecord s (d - 1) (at + 20) (length s) a_type → stop_at s (at + 20) ≤ stop_at s at → DeclaredRoom s d at
declared_room {s} {d} {at} r f fits =
    let o = opened s (d - 1) (at + 20) (length s) a_type f in
    record { deep = r.deep; type = omega (arith, o.head, o.body); fits = fits; ends = r.ends; few = r.few }

-- What is lent after a part of a walk that sets working words
pub ready_after : {s : List ℕ} {A B : Lent} → Ready s A → Grew A B → length B.output ≡ length A.output → length B.work ≡ length A.work → Ready s B
ready_after r g long wide = record { good = g.good; long = omega (arith, r.long); wide = omega (arith, r.wide) }

module _ {s : List ℕ} {d at : ℕ} (fine : FineRecord s d at (length s) an_item) (kind : kind_at s at ≡ 80) where
  pub function : FunctionAt s d at (length s) fine
  function = item_function s d at (length s) fine kind

  pub function_room : DeclaredRoom s d at
  function_room = let p = function in declared_room p.room p.parts.type p.parts.fits

  module _ {start from stop : ℕ} (is-start : start ≡ at + 20) (is-from : from ≡ stop_at s (at + 20)) (is_stop : stop ≡ stop_at s at) where
    pub parameters_fine : FineList s (d - 1) from stop Parameters
    parameters_fine = subst (λ (x : ℕ). FineList s (d - 1) x stop Parameters) (sym is-from) (subst (λ (x : ℕ). FineList s (d - 1) (stop_at s (at + 20)) x Parameters) (sym is_stop) function.parts.rest)

    pub returned_fine : FineRecord s (d - 1) start (length s) a_type
    returned_fine = subst (λ (x : ℕ). FineRecord s (d - 1) x (length s) a_type) (sym is-start) function.parts.type

    pub function_checked : {names : BuiltIns} {body r : ℕ} {A : Lent} {work o e w o₁ e₁ w₁ work₂ o₂ e₂ w₂ work' ix ix₁ ix₂ : List ℕ} {st st₁ st₂ : State}
        → ParametersChecked s names (d - 1) from stop body A (lent work o e w ix st)
        → Converted s names (type_at s (d - 1) start) start (stop_at s start) true (lent work o e w ix st) (lent work o₁ e₁ w₁ ix₁ st₁) r
        → BodyChecked s names (body_at s (d - 1) body stop) at body stop r (lent work o₁ e₁ w₁ ix₁ st₁) (lent work₂ o₂ e₂ w₂ ix₂ st₂)
        → FunctionCleared (parameter_names (parameters_at s (d - 1) from stop)) (body_names (body_at s (d - 1) body stop)) work₂ work' → ItemCheckedAt s names d at A (lent work' o₂ e₂ w₂ ix₂ st₂)
    function_checked {names} {body} {r} {A} {work} {o} {e} {w} {o₁} {e₁} {w₁} {work₂} {o₂} {e₂} {w₂} {work'} {ix} {ix₁} {ix₂} {st} {st₁} {st₂} first second third cleared =
        subst (λ (x : Item). ItemChecked s names x at (stop_at s at) A E) (sym tree)
        (record {
          wide = cleared.wide ∙ third.wide ∙ first.wide;
          walked =
              walked_as
              (walked_then (walked_then (walked_then one two known) three inside) (cleared_walked cleared three.grew.good) (λ m h. h))
              (λ m. function_shown m here name returned ps (body_at s (d - 1) body stop) (body - from) (stop_at s start - start) (stop - body) (stop_at s at - at) (omega (arith, room.type, is_type_lem, below, first.low)));
          scope = λ m h.
              let ctx = function_context m returned ps in
              let after = body_declares (body_at s (d - 1) body stop) ctx in
              subst (λ (x : ModuleContext). Scope E (context x blank)) after.in_module
              (cleared_scope cleared (after_body ctx (body_at s (d - 1) body stop)) (third.scope ctx (inside m h)) (λ n q. after.variables n q)
              (λ n q. ap (λ (x : TypeMap). x n) after.arguments ∙ no_argument m ps no_types n q));
        })
      where
        B : Lent
        B = lent work o e w ix st

        C : Lent
        C = lent work o₁ e₁ w₁ ix₁ st₁

        D : Lent
        D = lent work₂ o₂ e₂ w₂ ix₂ st₂

        E : Lent
        E = lent work' o₂ e₂ w₂ ix₂ st₂

        here : Location
        here = location_at s at

        name : ℕ
        name = word_at s (at + 16)

        returned : TypeNode
        returned = type_at s (d - 1) start

        ps : List Parameter
        ps = parameters_at s (d - 1) from stop

        room : DeclaredRoom s d at
        room = function_room

        below : body ≤ stop
        below = first.left.fine.part.starts

        is_type_lem : stop_at s start ≡ from
        is_type_lem = ap (λ (x : ℕ). stop_at s x) is-start ∙ sym is-from

        tree : item_tree_at s d at ≡ function_definition here name returned ps (body_at s (d - 1) body stop)
        tree =
            function.is
            ∙ (λ i. function_definition here name (type_at s (d - 1) (sym is-start i)) (parameters_at s (d - 1) (sym is-from i) (sym is_stop i)) (body_at s (d - 1) (sym is-from i) (sym is_stop i)))
            ∙ ap (function_definition here name returned ps) first.same

        one : Walked (Outside s names A) (λ m. visiting true (each (parameter_slots m) ps) (each (parameter_errors m) ps) (body - from)) at (stop_at s at) A B
        one = walked_wider (omega (arith, room.type)) (omega (arith, below)) first.walked

        known : (m : ModuleContext) → Outside s names A m → Resolves s names B (knowing m ps)
        known m h = record { scope = first.scope m h; built_ins = h.built_ins }

        two : Walked (λ m. Resolves s names B (knowing m ps)) (λ m. visiting true (conversion_slots m returned) (conversion_errors m returned) (stop_at s start - start)) at (stop_at s at) B C
        two = walked_wider (omega arith) (omega (arith, is_type_lem, room.fits)) (walked_at (λ (m : ModuleContext). knowing m ps) second.walked.walked)

        inside : (m : ModuleContext) → Outside s names A m → Inside s names C r (function_context m returned ps)
        inside m h =
            let scope = scope_later {ctx = knowing m ps} second.walked.walked.grew (first.scope m h) in
            record { resolves = record { scope = record { holds = scope.holds }; built_ins = h.built_ins }; returns = second.walked.typing (knowing m ps) (known m h) }

        three : Walked (λ m. Inside s names C r (function_context m returned ps))
            (λ m. let ctx = function_context m returned ps in visiting true (body_slots ctx (body_at s (d - 1) body stop)) (body_errors ctx here name (body_at s (d - 1) body stop)) (stop - body)) at (stop_at s at) C D
        three = walked_wider (omega (arith, room.type, first.low)) (omega arith) (walked_at (λ (m : ModuleContext). function_context m returned ps) third.walked)
