-- Items: an alias, a variable, what has nothing to check, and all in order. Assumes nothing.
use Prim.Native.Nat.{ℕ, ◌+◌, ◌-◌, ◌≤◌, ◌<◌}
use mathlib.Core.Path.{◌≡◌, refl, sym, ap, ◌∙◌, subst}
use mathlib.Core.Bool.{true, false}
use mathlib.Core.List.{List, [], ◌++◌}
use native.Mathlib.Omega.{arith}
use lib.ListN.{length}
use Rattle.shape.specs.Shape.{due_in, a_type, an_item}
use Rattle.shape.specs.declared.Holds.TheVariants as holds
use Rattle.shape.specs.declared.Holds.TheVariants.{Items}
use Rattle.record_bytes.specs.Bytes.{Read, half_at, word_at}
use Rattle.layout.specs.Layout.{max_bytes, kind_at, stop_at}
use Rattle.node.specs.Fine.{FineRecord, FineList}
use Rattle.trees.specs.Tree.{Item, global_declaration}
use Rattle.trees.specs.Record.{location_at, type_at, item_tree_at}
use Rattle.names.specs.declared.BuiltIns.{BuiltIns}
use Rattle.node.proofs.Open.{opened, split_may}
use Rattle.trees.proofs.Decode.{fine_wide}
use Rattle.trees.proofs.ItemTrees.{AliasAt, item_alias, GlobalAt, item_global, item_other}
use Rattle.meaning.specs.TypeError.{TypeError}
use Rattle.meaning.specs.Context.{ModuleContext, context, blank, each}
use Rattle.meaning.specs.Convert.{Slot, convert_node_type, conversion_errors, conversion_slots}
use Rattle.meaning.specs.Compound.{global_initial_errors, initial_slots}
use Rattle.meaning.specs.Module.{item_errors, item_slots}
use Rattle.walk.specs.declared.State.{State}
use Rattle.walk.specs.Effect.{Effect, ◌then◌, Shown}
use Rattle.walk.specs.Represents.{Lent, lent}
use Rattle.walk.proofs.Laws.{scope_later}
use Rattle.walk.proofs.Walks.{walked_none, walked_then, walked_as, walked_at, walked_wider, Going, going_start, going_on, going_done}
use Rattle.convert.specs.Convert.{visiting}
use Rattle.convert.specs.Post.{Ready, Converted}
use Rattle.convert.proofs.Visits.{visit_then}
use Rattle.convert.proofs.Laws.{resolves_later}
use Rattle.expression.proofs.Visits.{visit_steps}
use Rattle.compound.specs.Post.{Target}
use Rattle.initial_value.specs.Post.{initial_at, InitialCheckedAt}
use Rattle.slot_places.specs.Absolute.{items_at}
use Rattle.slot_places.proofs.Listed.{items_cons, items_none}
use Rattle.items.specs.Post.{Outside, ItemChecked, ItemCheckedAt, ItemsCheckedAt}
use Rattle.items.proofs.Functions.{DeclaredRoom, declared_room}

-- One part after another, in byte order
visits_then : (a b : List Slot) (e f : List TypeError) (i j n : ℕ) → i + j ≤ n → Shown (visiting true a e i then visiting true b f j) (visiting true (a ++ b) (e ++ f) n)
visits_then a b e f i j n few =
    subst (λ (x : Effect). Shown x (visiting true (a ++ b) (e ++ f) n)) (sym (visit_then true a b e f i j)) (visit_steps (a ++ b) (e ++ f) (i + j) n few)

module _ {s : List ℕ} {d at : ℕ} (fine : FineRecord s d at (length s) an_item) where
  pub item_room : at + 16 ≤ length s
  item_room = let o = opened s d at (length s) an_item fine in omega (arith, o.head, o.body, o.room)

  -- 81: an alias
  pub alias : kind_at s at ≡ 81 → AliasAt s d at (length s) fine
  alias k = item_alias s d at (length s) fine k

  pub alias_checked : kind_at s at ≡ 81 → {names : BuiltIns} {work o e w o' e' w' ix ix' : List ℕ} {st st' : State} {r : ℕ}
      → Converted s names (type_at s (d - 1) (at + 24)) (at + 24) (stop_at s (at + 24)) true (lent work o e w ix st) (lent work o' e' w' ix' st') r
      → ItemCheckedAt s names d at (lent work o e w ix st) (lent work o' e' w' ix' st')
  unfolding item_slots item_errors
  alias_checked k {names} {work} {o} {e} {w} {o'} {e'} {w'} {ix} {ix'} {st} {st'} h =
      let A = lent work o e w ix st in
      let C = lent work o' e' w' ix' st' in
      let p = alias k in
      let t = type_at s (d - 1) (at + 24) in
      subst (λ (x : Item). ItemChecked s names x at (stop_at s at) A C) (sym p.is)
      (record {
        wide = refl;
        walked =
            walked_as (walked_wider (omega arith) (omega (arith, p.stops)) (walked_at (λ (m : ModuleContext). context m blank) h.walked.walked))
            (λ m. visit_steps (conversion_slots m t) (conversion_errors m t) (stop_at s (at + 24) - (at + 24)) (stop_at s at - at) (omega (arith, p.stops)));
        scope = λ m g. scope_later h.walked.walked.grew g.scope;
      })

  -- 83: a variable
  module _ (k : kind_at s at ≡ 83) where
    pub variable : GlobalAt s d at (length s) fine
    variable = item_global s d at (length s) fine k

    pub variable_room : DeclaredRoom s d at
    variable_room = let p = variable in declared_room p.room p.parts.type p.parts.fits

    module _ {start value stop : ℕ} (is-start : start ≡ at + 20) (is-value : value ≡ stop_at s (at + 20)) (is_stop : stop ≡ stop_at s at) where
      -- Cited by nothing here now
      pub declared_fine : FineRecord s (d - 1) start (length s) a_type
      declared_fine = subst (λ (x : ℕ). FineRecord s (d - 1) x (length s) a_type) (sym is-start) variable.parts.type

      pub value_fine : FineList s (d - 1) value stop holds.InitialValue
      value_fine =
          subst (λ (x : ℕ). FineList s (d - 1) x stop holds.InitialValue) (sym is-value)
          (subst (λ (x : ℕ). FineList s (d - 1) (stop_at s (at + 20)) x holds.InitialValue) (sym is_stop) variable.parts.rest)

      pub variable_checked : {names : BuiltIns} {r : ℕ} {work o e w o₁ e₁ w₁ o' e' w' ix ix₁ ix' : List ℕ} {st st₁ st' : State}
          → Converted s names (type_at s (d - 1) start) start (stop_at s start) true (lent work o e w ix st) (lent work o₁ e₁ w₁ ix₁ st₁) r
          → InitialCheckedAt s names (d - 1) value stop false r (lent work o₁ e₁ w₁ ix₁ st₁) (lent work o' e' w' ix' st')
          → ItemCheckedAt s names d at (lent work o e w ix st) (lent work o' e' w' ix' st')
      unfolding item_slots item_errors
      variable_checked {names} {r} {work} {o} {e} {w} {o₁} {e₁} {w₁} {o'} {e'} {w'} {ix} {ix₁} {ix'} {st} {st₁} {st'} first second =
          let A = lent work o e w ix st in
          let B = lent work o₁ e₁ w₁ ix₁ st₁ in
          let C = lent work o' e' w' ix' st' in
          let room = variable_room in
          let here = location_at s at in
          let name = word_at s (at + 16) in
          let t = type_at s (d - 1) start in
          let v = initial_at s (d - 1) value stop in
          let is_type_lem : stop_at s start ≡ value = ap (λ (x : ℕ). stop_at s x) is-start ∙ sym is-value in
          let tree : item_tree_at s d at ≡ global_declaration here name t v =
          variable.is ∙ (λ i. global_declaration here name (type_at s (d - 1) (sym is-start i)) (initial_at s (d - 1) (sym is-value i) (sym is_stop i))) in
          let target : ModuleContext → Target = (λ m. record { ctx = context m blank; type = convert_node_type m t }) in
          let one = walked_wider {from = at} {to = stop_at s at} (omega arith) (omega (arith, is_type_lem, room.fits)) (walked_at (λ (m : ModuleContext). context m blank) first.walked.walked) in
          let two = walked_wider {from = at} {to = stop_at s at} (omega (arith, room.type)) (omega arith) (walked_at target second) in
          subst (λ (x : Item). ItemChecked s names x at (stop_at s at) A C) (sym tree)
          (record {
            wide = refl;
            walked =
                walked_as
                (walked_then one two (λ m g. record { resolves = resolves_later first.walked.walked.grew g; typing = first.walked.typing (context m blank) g }))
                (λ m. visits_then (conversion_slots m t) (initial_slots (context m blank) v) (conversion_errors m t) (global_initial_errors (context m blank) (convert_node_type m t) v)
                (stop_at s start - start) (stop - value) (stop_at s at - at) (omega (arith, is_type_lem, room.type, room.fits)));
            scope = λ m g. scope_later second.grew (scope_later first.walked.walked.grew g.scope);
          })

  -- 82 and 84: nothing to check
  pub other_checked : {names : BuiltIns} {C : Lent} → Ready s C → (k : ℕ) → Read (half_at s (at + 4)) 16 k → (k ≡ 80 → ⊥) → (k ≡ 81 → ⊥) → (k ≡ 83 → ⊥)
      → ItemCheckedAt s names d at C C
  unfolding item_slots item_errors
  other_checked {names} {C} ready k read a b c =
      subst (λ (x : Item). ItemChecked s names x at (stop_at s at) C C) (sym (item_other s d at (length s) fine (λ e. a (read.is ∙ e)) (λ e. b (read.is ∙ e)) (λ e. c (read.is ∙ e))))
      (record { wide = refl; walked = walked_as (walked_none ready.good) (λ m. visit_steps [] [] 0 (stop_at s at - at) (omega arith)); scope = λ m g. g.scope })

-- Items in order

module _ (s : List ℕ) (names : BuiltIns) (d end : ℕ) where
  -- What the items from `from` on do
  abbrev visits : (from : ℕ) → ModuleContext → Effect
  visits from m = visiting true (each (item_slots m) (items_at s d from end)) (each (item_errors m) (items_at s d from end)) (end - from)

  -- The items before `at` are checked: whatever does the rest does the whole
  pub record Checking (from at : ℕ) (A C : Lent) : Type 0 where
    pub low : from ≤ at
    pub fine : FineList s d at end Items
    pub ready : Ready s C
    pub wide : length C.work ≡ length A.work
    pub given : (m : ModuleContext) → Outside s names A m → Outside s names C m
    pub going : Going (Outside s names A) (visits from) (visits at) from end A C

  pub checking_start : {from : ℕ} {A : Lent} → FineList s d from end Items → Ready s A → Checking from from A A
  checking_start f ready = record { low = omega arith; fine = f; ready = ready; wide = refl; given = λ m h. h; going = going_start ready.good }

  module _ {from at : ℕ} {A C : Lent} (c : Checking from at A C) where
    pub checking_done : end ≤ at → ItemsCheckedAt s names d from end A C
    unfolding each
    checking_done p =
        let here : at ≡ end = omega (arith, c.fine.part.starts) in
        let tree : items_at s d at end ≡ [] = ap (λ (x : ℕ). items_at s d x end) here ∙ items_none s d end in
        record {
          wide = c.wide;
          walked = going_done c.going (λ m. rw tree (visit_steps [] [] 0 (end - at) (omega arith)));
          scope = λ m h. (c.given m h).scope;
        }

    module _ (more : at < end) where
      first : FineRecord s d at end an_item
      unfolding due_in
      first = (split_may s d at end Items an_item Items refl (λ e. omega arith) c.fine).first

      pub first_fine : FineRecord s d at (length s) an_item
      first_fine = fine_wide s d at end an_item first

      -- The bytes of the item
      pub first_room : (at + 16 ≤ stop_at s at) × (stop_at s at ≤ end) × (end ≤ length s) × (length s ≤ max_bytes)
      first_room = let o = opened s d at end an_item first in (omega (arith, o.head, o.body), o.room, o.ends, o.few)

      pub checking_on : {D : Lent} → ItemCheckedAt s names d at C D → (next : ℕ) → next ≡ stop_at s at → Checking from next A D
      unfolding due_in each
      checking_on {D} h next is =
          let p = split_may s d at end Items an_item Items refl (λ e. omega arith) c.fine in
          let b = first_room in
          let item = item_tree_at s d at in
          let rest = items_at s d (stop_at s at) end in
          subst (λ (x : ℕ). Checking from x A D) (sym is)
          (record {
            low = omega (arith, c.low, b);
            fine = p.rest;
            ready = record { good = h.walked.grew.good; long = omega (arith, c.ready.long, h.walked.frame.long); wide = omega (arith, c.ready.wide, h.wide) };
            wide = h.wide ∙ c.wide;
            given = λ m g. let q = c.given m g in record { scope = h.scope m q; built_ins = q.built_ins };
            going =
                going_on c.going (walked_wider c.low b.1 h.walked) c.given
                (λ m. rw (items_cons s d at end first)
                (visits_then (item_slots m item) (each (item_slots m) rest) (item_errors m item) (each (item_errors m) rest) (stop_at s at - at) (end - stop_at s at) (end - at) (omega (arith, b))));
          })
