-- The body of a function: a statement, all of whose paths must diverge unless void itself is returned. Assumes nothing.
use Prim.Native.Nat.{ℕ, ◌+◌, ◌-◌, ◌≤◌, ◌<◌}
use mathlib.Core.Path.{◌≡◌, refl, sym, ap, ◌∙◌, subst}
use mathlib.Core.Bool.{Bool, false, ◌||◌}
use mathlib.Core.List.{List, []}
use mathlib.Core.Option.{Option, none, some}
use native.Mathlib.Omega.{arith}
use lib.Dec.{eqb}
use lib.ListN.{length}
use Rattle.types.specs.Ty.{Ty, void, same}
use Rattle.shape.specs.Shape.{a_statement}
use Rattle.record_bytes.specs.Bytes.{Read, word_at}
use Rattle.layout.specs.Layout.{stop_at}
use Rattle.node.specs.Fine.{FineRecord}
use Rattle.trees.specs.Tree.{Statement}
use Rattle.trees.specs.Record.{location_at, statement_at, body_at}
use Rattle.names.specs.declared.BuiltIns.{BuiltIns}
use Rattle.trees.proofs.ItemTrees.{BodyAt, parameters_none, body_at_lem}
use Rattle.meaning.specs.TypeError.{TypeError, unless, paths_without_return}
use Rattle.meaning.specs.Context.{Context}
use Rattle.meaning.specs.Statement.{statement_errors, statement_slots}
use Rattle.meaning.specs.Divergence.{do_all_paths_diverge}
use Rattle.fallible.specs.Operands.{is_type_operand, operand_sort}
use Rattle.walk.specs.declared.State.{State}
use Rattle.walk.specs.Effect.{reporting}
use Rattle.walk.specs.Represents.{Lent, lent, Good, SpellsOperand, Typing}
use Rattle.walk.specs.Post.{Walked}
use Rattle.walk.proofs.Laws.{scope_later, typing_later}
use Rattle.walk.proofs.Walks.{walked_none, walked_as, typing_void}
use Rattle.convert.specs.Post.{Ready, error_for}
use Rattle.expression_rules.specs.Rules.{ReportedUnless}
use Rattle.expression_rules.proofs.Laws.{walked_unless, spells_at}
use Rattle.relations.proofs.CastLaws.{same_rows}
use Rattle.expression.proofs.Visits.{visit_steps}
use Rattle.compound.proofs.Compounds.{told_then}
use Rattle.statement.specs.Post.{Inside, StatementCheckedAt}
use Rattle.items.specs.Post.{BodyLeft, BodyChecked}

-- Row 2 is the only row of void
is_void : {C : Lent} {r : ℕ} {t : Ty} → Good C → Typing C r t → C.state.full ≡ false → eqb r 2 ≡ same t void
is_void {C} {r} {t} g ty p =
    let row = ty.shows p in
    let two = (typing_void g).shows p in
    same_rows C.rows C.state.rows r 2 (record { table = g.table; first = row.is; second = two.is }) ∙ (λ i. same (row.type i) (two.type i))

module _ {s : List ℕ} {d body stop : ℕ} (left : BodyLeft s d body stop) where
  -- No body
  pub no_body : stop ≤ body → body_at s d body stop ≡ none
  no_body p =
      let here : body ≡ stop = omega (arith, left.fine.part.starts) in
      ap (λ (x : ℕ). body_at s d x stop) here ∙ (parameters_none s d stop).1

  pub body_none : {names : BuiltIns} {at returned : ℕ} {C : Lent} → Ready s C → stop ≤ body → BodyChecked s names (body_at s d body stop) at body stop returned C C
  body_none {names} {at} {returned} {C} ready p =
      subst (λ (t : Option Statement). BodyChecked s names t at body stop returned C C) (sym (no_body p))
      (record {
        wide = refl;
        walked = walked_as (walked_none ready.good) (λ ctx. visit_steps [] [] 0 (stop - body) (omega arith));
        scope = λ ctx h. h.resolves.scope;
      })

  module _ (more : body < stop) where
    pub there : BodyAt s d body stop
    there = body_at_lem s d body stop more left.fine (left.last more)

    pub body_fine : FineRecord s d body (length s) a_statement
    body_fine = there.fine

    pub body_checked : {names : BuiltIns} {at returned : ℕ} {C : Lent} {work o e w ix : List ℕ} {st : State} → StatementCheckedAt s names d body returned C (lent work o e w ix st)
        → {holds : Bool} → holds ≡ (eqb returned 2 || do_all_paths_diverge (statement_at s d body)) → {name : ℕ} → Read (word_at s (at + 16)) 32 name
        → {e' : List ℕ} {st' : State} → ReportedUnless holds (error_for s at 6 name 0 0) e st e' st'
        → BodyChecked s names (body_at s d body stop) at body stop returned C (lent work o e' w ix st')
    unfolding SpellsOperand is_type_operand operand_sort
    body_checked {names} {at} {returned} {C} {work} {o} {e} {w} {ix} {st} h {holds} test {name} read {e'} {st'} report =
        subst (λ (x : Option Statement). BodyChecked s names x at body stop returned C (lent work o e' w ix st')) (sym there.body)
        (subst (λ (x : ℕ). BodyChecked s names (some t) at body x returned C (lent work o e' w ix st')) there.stops
        (record {
          wide = h.wide;
          walked = told_then (λ ctx. statement_slots ctx t) (λ ctx. statement_errors ctx t) (λ ctx. unless (test_of ctx) error) h.walked own (λ ctx g. g) (omega arith);
          scope = λ ctx g. scope_later own.grew (h.scope ctx g);
        }))
      where
        B : Lent
        B = lent work o e w ix st

        t : Statement
        t = statement_at s d body

        test_of : Context → Bool
        test_of ctx = same ctx.in_function.return_type void || do_all_paths_diverge t

        error : TypeError
        error = paths_without_return (location_at s at) (word_at s (at + 16))

        own : Walked (Inside s names C returned) (λ ctx. reporting (unless (test_of ctx) error)) body (stop_at s body) B (lent work o e' w ix st')
        own =
            walked_unless h.walked.grew.good test_of (λ ctx. error) report
            (λ ctx g p. test ∙ ap (λ (b : Bool). b || do_all_paths_diverge t) (is_void h.walked.grew.good (typing_later h.walked.grew g.returns) p))
            (λ ctx g p. spells_at s at 6 (refl, read.is) (refl, refl) (refl, refl))
