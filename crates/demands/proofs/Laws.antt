-- Every run that meets the entry's promise meets the three demands. Assumes nothing.
use Prim.Native.Nat.{ℕ, ◌*◌}
use mathlib.Core.Path.{◌≡◌, refl, ◌∙◌, ap}
use mathlib.Core.Bool.{Bool, true, false, ◌||◌}
use mathlib.Core.List.{List}
use mathlib.Core.Option.{Option, none, some}
use native.Mathlib.Omega.{arith}
use lib.Dec.{ltb}
use lib.ListN.{length}
use borrow.Author.Tests.{le-ltb, ltb-false}
use Rattle.types.specs.Table.{row_width, unfolded}
use Rattle.types.proofs.Laws.{injective}
use Rattle.fallible.specs.Outcome.{refused, accepted, or_next, first_refusing, outcome_after}
use Rattle.fallible.specs.Errors.{error_width}
use Rattle.layout.specs.Layout.{layout_of, layout_refusal}
use Rattle.names.specs.Names.{names_of, Repeated, repeated_name, name_refusal}
use Rattle.std.proofs.Common.{Some, None}
use Rattle.layout.proofs.LayoutLaws.{only_good}
use Rattle.meaning.specs.Promise.{work_width, Counts, counts_of, Lengths, lengths_of, refuse_if, tests, answer_of}
use Rattle.meaning.specs.JoiningOrder.{Run, Meets}
use Rattle.meaning.proofs.Passed.{no_if}
use Rattle.meaning.proofs.Whole.{joining_order}
use Rattle.demands.proofs.Others.{others}
use Rattle.demands.specs.Demands.{Fits, TurnedBack, Demand1, Demand2, Demand3, DemandsOfOne, Demands}

-- No test refuses exactly if the module fits
never : {A : Type 0} {r : ℕ × ℕ} → ◌≡◌ {A = Option (ℕ × ℕ)} (some r) none → A
never e = absurd (let z : ◌≡◌ {A = ℕ} 0 1 = cc in omega arith)

no_name : (r : Repeated) → name_refusal r ≡ none → r ≡ None
unfolding name_refusal
no_name None e = refl
no_name (Some p) e = never e

first_none : (a b : Option (ℕ × ℕ)) → or_next a b ≡ none → a ≡ none
first_none none b e = refl
first_none (some r) b e = never e

later_none : (a b : Option (ℕ × ℕ)) → or_next a b ≡ none → b ≡ none
later_none none b e = e
later_none (some r) b e = never e

left_false : (a b : Bool) → (a || b) ≡ false → a ≡ false
left_false true b e = e
left_false false b e = refl

right_false : (a b : Bool) → (a || b) ≡ false → b ≡ false
right_false true b e = absurd (let z : ◌≡◌ {A = ℕ} 0 1 = cc in omega arith)
right_false false b e = e

module _ (input : List ℕ) (lent : Lengths) where
  fits_none : Fits input lent → first_refusing (tests input lent) ≡ none
  unfolding layout_refusal name_refusal
  fits_none f =
      let a : layout_refusal (layout_of input) ≡ none = ap layout_refusal f.layout in
      let b : name_refusal (repeated_name input) ≡ none = ap name_refusal f.names in
      let c = le-ltb lent.output (length input) f.output in
      let d = le-ltb lent.work (work_width * length (names_of input)) f.work in
      let e = le-ltb lent.rows (row_width * (counts_of input).rows) f.rows in
      let g = le-ltb lent.errors (error_width * (counts_of input).errors) f.errors in
      λ i. or_next (a i) (or_next (b i) (or_next (refuse_if (c i || d i) 5) (or_next (refuse_if (e i) 6) (or_next (refuse_if (g i) 7) none))))

  none_fits : first_refusing (tests input lent) ≡ none → Fits input lent
  none_fits e =
      let a = layout_refusal (layout_of input) in
      let b = name_refusal (repeated_name input) in
      let short : Bool = ltb lent.output (length input) in
      let narrow : Bool = ltb lent.work (work_width * length (names_of input)) in
      let rows : Bool = ltb lent.rows (row_width * (counts_of input).rows) in
      let errors : Bool = ltb lent.errors (error_width * (counts_of input).errors) in
      let t7 : Option (ℕ × ℕ) = or_next (refuse_if errors 7) none in
      let t6 : Option (ℕ × ℕ) = or_next (refuse_if rows 6) t7 in
      let t5 : Option (ℕ × ℕ) = or_next (refuse_if (short || narrow) 5) t6 in
      let t4 : Option (ℕ × ℕ) = or_next b t5 in
      let e4 : t4 ≡ none = later_none a t4 e in
      let e5 : t5 ≡ none = later_none b t5 e4 in
      let e6 : t6 ≡ none = later_none (refuse_if (short || narrow) 5) t6 e5 in
      let e7 : t7 ≡ none = later_none (refuse_if rows 6) t7 e6 in
      let loans : (short || narrow) ≡ false = no_if (short || narrow) 5 (first_none (refuse_if (short || narrow) 5) t6 e5) in
      record {
        layout = only_good (layout_of input) (first_none a t4 e);
        names = no_name (repeated_name input) (first_none b t5 e4);
        output = ltb-false lent.output (length input) (left_false short narrow loans);
        work = ltb-false lent.work (work_width * length (names_of input)) (right_false short narrow loans);
        rows = ltb-false lent.rows (row_width * (counts_of input).rows) (no_if rows 6 (first_none (refuse_if rows 6) t7 e6));
        errors = ltb-false lent.errors (error_width * (counts_of input).errors) (no_if errors 7 (first_none (refuse_if errors 7) none e7));
      }

module _ (c : Run) (meets : Meets c) where
  answer_by : c.answer ≡ outcome_after (first_refusing (tests c.input (lengths_of c.before))) (accepted (counts_of c.input))
  unfolding answer_of
  answer_by = meets.answers

  pub demand_1 : Demand1 c
  demand_1 =
      record {
        whole = λ fits.
            let e : c.answer ≡ accepted (counts_of c.input) =
            answer_by ∙ ap (λ x. outcome_after x (accepted (counts_of c.input))) (fits_none c.input (lengths_of c.before) fits) in
            let back = meets.filled (counts_of c.input) e in
            record {
              answer = e;
              back = back;
              others = others c.input fits.layout c.before c.after (counts_of c.input) back;
              equal = λ m n a b. (injective c.after.rows (counts_of c.input).rows back.table m n a b, ap (unfolded c.after.rows));
            };
        otherwise = λ not. turned (first_refusing (tests c.input (lengths_of c.before))) refl not;
      }
    where
      turned : (first : Option (ℕ × ℕ)) → first_refusing (tests c.input (lengths_of c.before)) ≡ first → (Fits c.input (lengths_of c.before) → ⊥) → TurnedBack c
      turned none e not = absurd (not (none_fits c.input (lengths_of c.before) e))
      turned (some r) e not =
          let a : c.answer ≡ refused r.0 r.1 = answer_by ∙ ap (λ x. outcome_after x (accepted (counts_of c.input))) e in
          record {
            number = r.0;
            place = r.1;
            answer = a;
            table = e;
            left = meets.untouched r.0 r.1 a;
            zeroed = meets.emptied r.0 r.1 a;
          }

  pub demand_2 : (counts : Counts) → c.answer ≡ accepted counts → Demand2 c counts
  demand_2 counts e = let a = meets.filled counts e in record { errors = a.errors; types = λ i l. (a.items i l).slots }

-- One statement over two runs
pub demand_3 : (c d : Run) → Meets c → Meets d → Demand3 c d
demand_3 c d mc md two = joining_order c d mc md two.lengths two.order two.first two.second

demands_of_one : (c : Run) → Meets c → DemandsOfOne c
demands_of_one c mc = record { first = demand_1 c mc; second = demand_2 c mc }

pub demands : (c d : Run) → Meets c → Meets d → Demands c d
demands c d mc md = record { one = demands_of_one c mc; other = demands_of_one d md; third = demand_3 c d mc md }
