-- The value that a variable starts with: none, an expression or a compound. Assumes nothing.
use Prim.Native.Nat.{ℕ, ◌+◌, ◌-◌, ◌≤◌, ◌<◌}
use mathlib.Core.Path.{◌≡◌, refl, sym, ap, ◌∙◌, subst}
use mathlib.Core.Bool.{Bool, true, false}
use mathlib.Core.List.{List, [], ◌++◌}
use native.Mathlib.Omega.{arith}
use lib.ListN.{length}
use Rattle.relations.specs.TypeRows.{OneType, TwoTypes}
use Rattle.shape.specs.Shape.{due_in, may_be_either, an_expression, a_compound}
use Rattle.shape.specs.declared.Holds.TheVariants.{Nothing, InitialValue}
use Rattle.record_bytes.specs.Bytes.{half_at}
use Rattle.layout.specs.Layout.{class_at, kind_at, start_at, stop_at}
use Rattle.node.specs.Fine.{FineRecord, FineList, Opened}
use Rattle.trees.specs.Tree.{Location, Compound, no_value, compounded}
use Rattle.trees.specs.Tree as tree
use Rattle.trees.specs.Record.{location_at, expression_at, compound_at}
use Rattle.names.specs.declared.BuiltIns.{BuiltIns}
use Rattle.node.proofs.Open.{opened, split_either}
use Rattle.trees.proofs.Statements.{initial_none, initial_expression, initial_compound}
use Rattle.meaning.specs.Expression.{expression_type, expression_errors, expression_slots, check_assignable}
use Rattle.meaning.specs.Compound.{compound_errors, compound_slots, initial_errors, global_initial_errors, initial_slots}
use Rattle.walk.specs.declared.State.{State}
use Rattle.walk.specs.Represents.{Lent, lent}
use Rattle.walk.specs.Post.{Walked}
use Rattle.walk.proofs.Laws.{typing_later}
use Rattle.walk.proofs.Walks.{walked_none, walked_as, walked_at, walked_wider}
use Rattle.convert.specs.Convert.{visiting}
use Rattle.convert.specs.Post.{Ready}
use Rattle.expression_rules.specs.Rules.{Operands, CheckAssignable}
use Rattle.expression_rules.proofs.Effects.{assignable_checks}
use Rattle.expression.specs.Post.{CarriedAt}
use Rattle.expression.proofs.Laws.{location_at_lem, type_later, two_types}
use Rattle.expression.proofs.Visits.{visit_steps}
use Rattle.compound.specs.Post.{Target, Aimed, CompoundCheckedAt}
use Rattle.compound.proofs.Compounds.{told_then, whatever_target}
use Rattle.initial_value.specs.Post.{initial_at, value_errors, InitialChecked, InitialCheckedAt}

-- A compound's errors are the same for a local and for a global
compound_errors_lem : (compare : Bool) (x : Target) (c : Compound) → value_errors compare x.ctx x.type (compounded c) ≡ compound_errors x.ctx x.type c
unfolding initial_errors global_initial_errors
compound_errors_lem true x c = refl
compound_errors_lem false x c = refl

no_errors : (compare : Bool) (x : Target) → value_errors compare x.ctx x.type no_value ≡ []
unfolding initial_errors global_initial_errors
no_errors true x = refl
no_errors false x = refl

module _ {s : List ℕ} {depth from end : ℕ} (f : FineList s depth from end InitialValue) where
  -- No value
  pub none_checked : {names : BuiltIns} {C : Lent} (compare : Bool) {target : ℕ} → end ≤ from → Ready s C → InitialCheckedAt s names depth from end compare target C C
  unfolding initial_slots
  none_checked {names} {C} compare {target} p ready =
      let here : from ≡ end = omega (arith, f.part.starts) in
      let is : initial_at s depth from end ≡ no_value = ap (λ (x : ℕ). initial_at s depth x end) here ∙ initial_none s depth end in
      subst (λ (z : tree.InitialValue). InitialChecked s names z compare from end target C C) (sym is)
      (walked_as (walked_none ready.good) (λ x. rw (no_errors compare x) (visit_steps [] [] 0 (end - from) (omega arith))))

  module _ (some : from < end) where
    there : from ≡ end → ⊥
    there e = omega arith

    room : Opened s depth from end (class_at s from) (kind_at s from) (start_at s from) (stop_at s from)
    unfolding due_in
    room = opened s depth from end (class_at s from) (split_either s depth from end InitialValue (may_be_either an_expression Nothing a_compound Nothing) refl refl there f).first

    pub value_room : from + 16 ≤ length s
    value_room = omega (arith, room.head, room.body, room.room, room.ends)

    module _ {kind : ℕ} (ek : kind ≡ half_at s (from + 4)) where
      pub compound_fine : 48 ≤ kind → FineRecord s depth from (length s) a_compound
      compound_fine k = (initial_compound s depth from end f there (omega arith)).value

      pub expression_fine : kind < 48 → FineRecord s depth from (length s) an_expression
      expression_fine k = (initial_expression s depth from end f there (omega arith)).value

      -- A compound
      pub compound_checked : {names : BuiltIns} {C C' : Lent} (compare : Bool) {target : ℕ} → 48 ≤ kind → CompoundCheckedAt s names depth from target C C'
          → InitialCheckedAt s names depth from end compare target C C'
      unfolding initial_slots
      compound_checked {names} {C} {C'} compare {target} k h =
          let p = initial_compound s depth from end f there (omega arith) in
          let c = compound_at s depth from in
          subst (λ (z : tree.InitialValue). InitialChecked s names z compare from end target C C') (sym p.is)
          (walked_as (walked_wider (omega arith) room.room h)
          (λ x. rw (compound_errors_lem compare x c)
          (visit_steps (compound_slots x.ctx c) (compound_errors x.ctx x.type c) (stop_at s from - from) (end - from) (omega (arith, room.room)))))

      module _ {names : BuiltIns} {target r : ℕ} {work o e w o₁ e₁ w₁ ix ix₁ : List ℕ} {st st₁ : State} (k : kind < 48)
          (h : CarriedAt s names depth from (lent work o e w ix st) (lent work o₁ e₁ w₁ ix₁ st₁) r) where
        -- The value of a global
        pub plain_checked : (compare : Bool) → compare ≡ false → InitialCheckedAt s names depth from end compare target (lent work o e w ix st) (lent work o₁ e₁ w₁ ix₁ st₁)
        unfolding initial_slots global_initial_errors
        plain_checked compare q =
            let p = initial_expression s depth from end f there (omega arith) in
            let v = expression_at s depth from in
            subst (λ (b : Bool). InitialCheckedAt s names depth from end b target (lent work o e w ix st) (lent work o₁ e₁ w₁ ix₁ st₁)) (sym q)
            (subst (λ (z : tree.InitialValue). InitialChecked s names z false from end target (lent work o e w ix st) (lent work o₁ e₁ w₁ ix₁ st₁)) (sym p.is)
            (walked_as (walked_wider (omega arith) room.room (whatever_target h.walked.walked))
            (λ x. visit_steps (expression_slots x.ctx v) (expression_errors x.ctx v) (stop_at s from - from) (end - from) (omega (arith, room.room)))))

        pub both_types : OneType w st.rows target → TwoTypes w₁ st₁.rows target r
        both_types t = two_types h.walked.walked.grew.good (type_later h.walked.walked.grew t.type) h.walked.is

        -- The value of a local, compared with its type
        pub compared_checked : {e' : List ℕ} {st' : State} (compare : Bool) → compare ≡ true → CheckAssignable s from target r w₁ e₁ st₁ e' st'
            → InitialCheckedAt s names depth from end compare target (lent work o e w ix st) (lent work o₁ e' w₁ ix₁ st')
        unfolding initial_slots initial_errors
        compared_checked {e'} {st'} compare q leaf =
            let A = lent work o e w ix st in
            let C = lent work o₁ e' w₁ ix₁ st' in
            let p = initial_expression s depth from end f there (omega arith) in
            let v = expression_at s depth from in
            let sides : Target → Operands = (λ x. record { left = x.type; right = expression_type x.ctx v }) in
            let rule = walked_at sides ((assignable_checks target r s from leaf).walked work o₁ ix₁ from end h.walked.walked.grew.good) in
            let here = sym (location_at_lem s depth from p.value) in
            subst (λ (b : Bool). InitialCheckedAt s names depth from end b target A C) (sym q)
            (subst (λ (z : tree.InitialValue). InitialChecked s names z true from end target A C) (sym p.is)
            (subst (λ (l : Location). Walked (Aimed s names A target)
            (λ x. visiting true (expression_slots x.ctx v) (expression_errors x.ctx v ++ check_assignable l x.type (expression_type x.ctx v)) (end - from)) from end A C) here
            (told_then (λ x. expression_slots x.ctx v) (λ x. expression_errors x.ctx v) (λ x. check_assignable (location_at s from) x.type (expression_type x.ctx v))
            (walked_wider {from = from} {to = end} (omega arith) room.room (whatever_target h.walked.walked)) rule
            (λ x g. record { left = typing_later h.walked.walked.grew g.typing; right = h.walked.typing x.ctx g.resolves })
            (omega (arith, room.room)))))
