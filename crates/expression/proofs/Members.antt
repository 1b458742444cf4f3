-- The members of a list, one after the other, each with one expression: the expression itself, or the value of a field. Assumes nothing.
use Prim.Native.Nat.{ℕ, ◌+◌, ◌-◌, ◌≤◌}
use mathlib.Core.Path.{◌≡◌, sym, ◌∙◌, subst}
use mathlib.Core.Bool.{true}
use mathlib.Core.Logic.{inl}
use mathlib.Core.List.{List, [], ◌++◌}
use native.Mathlib.Omega.{arith}
use Rattle.types.specs.Table.{IsType}
use Rattle.types.proofs.Grow.{extends_type}
use Rattle.shape.specs.declared.Holds.{Holds}
use Rattle.record_bytes.specs.Bytes.{word_at}
use Rattle.layout.specs.Layout.{stop_at}
use Rattle.node.specs.Fine.{FineList}
use Rattle.trees.specs.Tree.{Expression}
use Rattle.trees.specs.Record.{expression_at}
use Rattle.names.specs.declared.BuiltIns.{BuiltIns}
use Rattle.meaning.specs.TypeError.{TypeError}
use Rattle.meaning.specs.Context.{Context}
use Rattle.meaning.specs.Convert.{Slot}
use Rattle.meaning.specs.Expression.{expression_type, expression_errors, expression_slots}
use Rattle.walk.specs.declared.State.{State}
use Rattle.walk.specs.Effect.{Effect, ◌then◌, Shown}
use Rattle.walk.specs.Words.{slot_place, slot_end}
use Rattle.walk.specs.Represents.{Lent, lent, Grew, Frame, Typing}
use Rattle.walk.specs.Post.{Walked}
use Rattle.walk.proofs.Laws.{grew_same, grew_then, typing_later, frame_none, frame_then, frame_wider}
use Rattle.walk.proofs.Walks.{Going, going_start, going_on, going_done, walked_wider}
use Rattle.walk.proofs.Slots.{frame_word}
use Rattle.convert.specs.Convert.{Resolves, visiting}
use Rattle.convert.specs.Post.{Ready}
use Rattle.convert.proofs.Visits.{visit_then}
use Rattle.convert.proofs.Heads.{ready_later}
use Rattle.convert.proofs.Laws.{resolves_later}
use Rattle.call_rules.specs.Lists.{FilledAt}
use Rattle.call_rules.proofs.Chains.{filled_more, filled_none}
use Rattle.expression.specs.Post.{CarriedAt}
use Rattle.expression.proofs.Visits.{visit_steps}

-- D comes after C, and differs in the output only from `at` to `end`
pub record Later (at end : ℕ) (C D : Lent) : Type 0 where
  pub grew : Grew C D
  pub frame : Frame at end C.output D.output

-- `value` is where the expression of a member stands. Of the members from a place on: the slots and errors of their expressions, what is known of them, and what their slots show
module _ (s : List ℕ) (names : BuiltIns) (depth end : ℕ) (kind : Holds) (value : ℕ → ℕ) (slots : Context → ℕ → List Slot) (errors : Context → ℕ → List TypeError)
    (Standing : ℕ → Type 0) (Showing : Lent → Context → ℕ → Type 0) where
  -- What the members from `from` on do
  abbrev visits : (from : ℕ) → Context → Effect
  visits from ctx = visiting true (slots ctx from) (errors ctx from) (end - from)

  abbrev Fills : Lent → (from : ℕ) → Type 0
  Fills D from = FilledAt (λ x. slot_place (value x)) D.rows D.state.rows s D.output from end

  -- The members before `at` are checked: whatever does the rest does the whole
  pub record Checking (from : ℕ) (A : Lent) (at : ℕ) (C : Lent) : Type 0 where
    pub low : from ≤ at
    pub fine : FineList s depth at end kind
    pub ready : Ready s C
    pub going : Going (Resolves s names A) (visits from) (visits at) from end A C
    pub filled : (D : Lent) → Later at end C D → Fills D at → Fills D from
    pub stand : Standing at → Standing from
    pub shown : (ctx : Context) → Resolves s names A ctx → (D : Lent) → Later at end C D → Showing D ctx at → Showing D ctx from

  -- All are checked
  pub record Checked (from : ℕ) (A C : Lent) : Type 0 where
    pub walked : Walked (Resolves s names A) (visits from) from end A C
    pub filled : Fills C from
    pub stand : Standing from
    pub shown : (ctx : Context) → Resolves s names A ctx → Showing C ctx from

  -- The member at a place, whose expression has so many levels left
  pub record Member (inner at : ℕ) : Type 0 where
    pub past : at ≤ value at
    pub slot : slot_end (value at) ≤ stop_at s (value at)
    pub inside : stop_at s (value at) ≤ stop_at s at
    pub fits : stop_at s at ≤ end
    pub rest : FineList s depth (stop_at s at) end kind
    pub stores : (ctx : Context) → slots ctx at ≡ expression_slots ctx (expression_at s inner (value at)) ++ slots ctx (stop_at s at)
    pub tells : (ctx : Context) → errors ctx at ≡ expression_errors ctx (expression_at s inner (value at)) ++ errors ctx (stop_at s at)
    pub stands : Standing (stop_at s at) → Standing at
    pub shows : (ctx : Context) (D : Lent) → Typing D (word_at D.output (slot_place (value at))) (expression_type ctx (expression_at s inner (value at))) → Showing D ctx (stop_at s at) → Showing D ctx at

  pub checking_start : {from : ℕ} {A : Lent} → FineList s depth from end kind → Ready s A → Checking from A from A
  checking_start f ready =
      record { low = omega arith; fine = f; ready = ready; going = going_start ready.good; filled = λ D l h. h; stand = λ h. h; shown = λ ctx g D l h. h }

  module _ {from at : ℕ} {work o e w o₁ e₁ w₁ ix ix₁ : List ℕ} {st st₁ : State} (c : Checking from (lent work o e w ix st) at (lent work o₁ e₁ w₁ ix₁ st₁)) where
    pub checking_done : end ≤ at → ((ctx : Context) → slots ctx at ≡ []) → ((ctx : Context) → errors ctx at ≡ []) → Standing at → ((ctx : Context) (D : Lent) → Showing D ctx at)
        → Checked from (lent work o e w ix st) (lent work o₁ e₁ w₁ ix₁ st₁)
    checking_done p no-slots no_errors stands shows =
        let C = lent work o₁ e₁ w₁ ix₁ st₁ in
        let here : at ≡ end = omega (arith, c.fine.part.starts) in
        let same : Later at end C C = record { grew = grew_same o₁ e₁ st₁.errors c.ready.good; frame = frame_none } in
        record {
          walked = going_done c.going (λ ctx. rw (no-slots ctx, no_errors ctx) (visit_steps [] [] 0 (end - at) (omega arith)));
          filled = c.filled C same
              (filled_none (λ x. slot_place (value x)) w₁ st₁.rows s o₁ at end here c.fine.part.ends c.fine.part.few (omega (arith, c.fine.part.ends, c.ready.long)));
          stand = c.stand stands;
          shown = λ ctx g. c.shown ctx g C same (shows ctx C);
        }

    pub checking_on : {inner : ℕ} {o₂ e₂ w₂ ix₂ : List ℕ} {st₂ : State} {r : ℕ} → Member inner at → CarriedAt s names inner (value at) (lent work o₁ e₁ w₁ ix₁ st₁) (lent work o₂ e₂ w₂ ix₂ st₂) r
        → (next : ℕ) → next ≡ stop_at s at → Checking from (lent work o e w ix st) next (lent work o₂ e₂ w₂ ix₂ st₂)
    checking_on {inner} {o₂} {e₂} {w₂} {ix₂} {st₂} {r} p h next is = subst (λ (x : ℕ). Checking from (lent work o e w ix st) x (lent work o₂ e₂ w₂ ix₂ st₂)) (sym is) on
      where
        A : Lent
        A = lent work o e w ix st

        B : Lent
        B = lent work o₁ e₁ w₁ ix₁ st₁

        C : Lent
        C = lent work o₂ e₂ w₂ ix₂ st₂

        first : Expression
        first = expression_at s inner (value at)

        below : stop_at s (value at) ≤ end
        below = omega (arith, p.inside, p.fits)

        slot : slot_end (value at) ≤ stop_at s at
        slot = omega (arith, p.slot, p.inside)

        earlier : (D : Lent) → Later (stop_at s at) end C D → Later at end B D
        earlier D l =
            record {
              grew = grew_then h.walked.walked.grew l.grew;
              frame = frame_then (frame_wider p.past below h.walked.walked.frame) (frame_wider (omega (arith, slot, p.past)) (omega arith) l.frame);
            }

        held : (D : Lent) → Later (stop_at s at) end C D → word_at D.output (slot_place (value at)) ≡ r
        held D l = frame_word (value at) l.frame (inl slot) ∙ h.slot

        effects : (ctx : Context)
            → Shown (visiting true (expression_slots ctx first) (expression_errors ctx first) (stop_at s (value at) - value at) then visits (stop_at s at) ctx) (visits at ctx)
        effects ctx =
            let k = stop_at s (value at) - value at in
            let later = end - stop_at s at in
            subst (λ (x : Effect). Shown x (visits at ctx))
            (sym (visit_then true (expression_slots ctx first) (slots ctx (stop_at s at)) (expression_errors ctx first) (errors ctx (stop_at s at)) k later))
            (rw (p.stores ctx, p.tells ctx)
            (visit_steps (expression_slots ctx first ++ slots ctx (stop_at s at)) (expression_errors ctx first ++ errors ctx (stop_at s at)) (k + later) (end - at)
            (omega (arith, p.past, p.inside, p.fits, p.slot))))

        on : Checking from A (stop_at s at) C
        on =
            record {
              low = omega (arith, c.low, slot, p.past);
              fine = p.rest;
              ready = ready_later c.ready h.walked.walked.grew h.walked.walked.frame.long;
              going = going_on c.going (walked_wider (omega (arith, c.low, p.past)) below h.walked.walked) (λ ctx g. resolves_later c.going.grew g) effects;
              filled = λ D l f. c.filled D (earlier D l) (filled_more (λ x. slot_place (value x)) D.rows D.state.rows s D.output at end
                  (subst (IsType D.rows D.state.rows) (sym (held D l)) (extends_type w₂ D.rows st₂.rows D.state.rows l.grew.extends r h.walked.is))
                  (omega (arith, slot, p.past)) slot p.fits f);
              stand = λ f. c.stand (p.stands f);
              shown = λ ctx g D l f. c.shown ctx g D (earlier D l) (p.shows ctx D
                  (subst (λ (v : ℕ). Typing D v (expression_type ctx first)) (sym (held D l)) (typing_later l.grew (h.walked.typing ctx (resolves_later c.going.grew g)))) f);
            }
