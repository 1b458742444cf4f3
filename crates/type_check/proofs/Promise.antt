-- The entry: tests 1 to 5, and the check on the working words of the names. Assumes nothing.
use Prim.Native.Nat.{ℕ, ◌*◌, ◌≤◌}
use mathlib.Core.Path.{◌≡◌, refl, sym, ◌∙◌, ap, subst}
use mathlib.Core.Bool.{Bool, true, false, ◌||◌}
use mathlib.Core.List.{List, [], ◌∷◌, ◌++◌}
use mathlib.Core.Option.{Option, none, some}
use Rattle.std.specs.Prelude.{Result, Ok, Err}
use native.Mathlib.Omega.{arith}
use lib.Dec.{ltb}
use lib.ListN.{length, take, drop, replicate}
use lib.Seq.{length-take-le, length_front}
use Rattle.types.specs.Table.{row_width}
use Rattle.fallible.specs.Errors.{error_width}
use Rattle.fallible.specs.Outcome.{Outcome, refused, accepted, or_next, first_refusing, outcome_after}
use Rattle.names.specs.Names.{names_of, name_count, Repeated, repeated_name, name_refusal, name_test}
use Rattle.layout.specs.Layout.{Layout, layout_of, layout_refusal, layout_tests}
use Rattle.layout.specs.declared.LayoutError.TheVariants.{TooLong, Fault, TooDeep}
use Rattle.std.proofs.Common.{Some, None, Ok, Err}
use Rattle.meaning.specs.Promise.{work_width, Counts, counts_of, Buffers, Lengths, lengths_of, refuse_if, answer_of, cleared, Accepted, Checked}
use Rattle.refusal.specs.declared.Refusal.{Refusal}
use Rattle.refusal.specs.Refusal.{number_of, place_of, refusal_of}
use Rattle.module_tests.specs.Refusal.{module_refusal}
use Rattle.type_check.specs.Post.{buffers, loan_refusal, early_refusal, late_outcome, Passed, Ends}
use Rattle.meaning.proofs.Cleared.{cleared_all}
use Rattle.type_check.proofs.Refusals.{names_counted, all_passed}
use Rattle.type_check.proofs.Outcomes.{refused_number, refused_never}

-- The first of some refusals decides
next_both : (a b c : Option (ℕ × ℕ)) → or_next a (or_next b c) ≡ or_next (or_next a b) c
next_both none b c = refl
next_both (some r) b c = refl

after_both : (a b : Option (ℕ × ℕ)) (o : Outcome Counts) → outcome_after (or_next a b) o ≡ outcome_after a (outcome_after b o)
after_both none b o = refl
after_both (some r) b o = refl

-- The answer goes by tests 1 to 5, then by 6 and 7
answer_by : (input : List ℕ) (lent : Lengths) → answer_of input lent ≡ outcome_after (early_refusal input lent.output lent.work) (late_outcome input lent)
unfolding answer_of
answer_by input lent =
    let a = layout_tests input in
    let b = name_test input in
    let c = loan_refusal input lent.output lent.work in
    let late = first_refusing (refuse_if (ltb lent.rows (row_width * (counts_of input).rows)) 6 ∷ refuse_if (ltb lent.errors (error_width * (counts_of input).errors)) 7 ∷ []) in
    let all = accepted (counts_of input) in
    ap (λ x. outcome_after x all) (next_both a b (or_next c late) ∙ next_both (or_next a b) c late) ∙ after_both (or_next (or_next a b) c) late all

-- Tests 1 to 5 refuse with 1 to 5
abbrev pub Low : Option (ℕ × ℕ) → Type 0
Low none = Unit {0}
Low (some r) = r.0 ≤ 5

low_next : (a b : Option (ℕ × ℕ)) → Low a → Low b → Low (or_next a b)
low_next none b p q = q
low_next (some r) b p q = p

low_if : (b : Bool) → Low (refuse_if b 5)
low_if true = omega arith
low_if false = tt

low_layout : (l : Layout) → Low (layout_refusal l)
unfolding layout_refusal
low_layout (Ok u) = tt
low_layout (Err TooLong) = omega arith
low_layout (Err (Fault p)) = omega arith
low_layout (Err (TooDeep p)) = omega arith

low_name : (r : Repeated) → Low (name_refusal r)
unfolding name_refusal
low_name None = tt
low_name (Some p) = omega arith

pub low_module : (input : List ℕ) → Low (module_refusal input)
low_module input = low_next (layout_tests input) (name_test input) (low_layout (layout_of input)) (low_name (repeated_name input))

low_early : (input : List ℕ) (o w : ℕ) → Low (early_refusal input o w)
low_early input o w = low_next (module_refusal input) (loan_refusal input o w) (low_module input) (low_if (ltb o (length input) || ltb w (work_width * length (names_of input))))

module _ (input output rows errors work : List ℕ) {A : Type 0} {r : Result A Refusal} (told : refusal_of r ≡ early_refusal input (length output) (length work)) where
  -- Turned back: all is left as it was
  pub turned_back_lem : {cause : Refusal} → r ≡ Err cause → Checked input (buffers output rows errors work) (buffers output rows errors work) (refused (number_of cause) (place_of cause))
  turned_back_lem {cause} e =
      let early : some (number_of cause, place_of cause) ≡ early_refusal input (length output) (length work) = ap refusal_of (sym e) ∙ told in
      let small : number_of cause ≤ 5 = subst Low (sym early) (low_early input (length output) (length work)) in
      record {
        answers = ap (λ x. outcome_after x (late_outcome input (lengths_of (buffers output rows errors work)))) early ∙ sym (answer_by input (lengths_of (buffers output rows errors work)));
        lengths = refl;
        untouched = λ m q f l. refl;
        emptied = λ m q f l. absurd (let k = refused_number f in omega arith);
        filled = λ counts f. absurd (refused_never f);
      }

  module _ {a : A} (never : r ≡ Ok a) where
    early_none : none ≡ early_refusal input (length output) (length work)
    early_none = ap refusal_of (sym never) ∙ told

    pub passed : Passed input (length output) (length work)
    passed = all_passed input (length output) (length work) early_none

    module _ {names : ℕ} (count : names ≡ name_count input) where
      pub words_fit : work_width * names ≤ length work
      words_fit = let w = passed.wide in omega arith

      -- What the check asks for, with the working words of the names alone
      pub run_asked : Passed input (length output) (length (take (work_width * names) work)) × (length (take (work_width * names) work) ≡ work_width * name_count input)
      run_asked =
          let l : length (take (work_width * names) work) ≡ work_width * names = length-take-le (work_width * names) work words_fit in
          let p = passed in
          (record { layout = p.layout; names = p.names; long = p.long; wide = omega arith }, omega arith)

      module _ {output' rows' errors' part : List ℕ} {answer : Outcome Counts}
          (ends : Ends input (buffers output rows errors (take (work_width * names) work)) (buffers output' rows' errors' part) answer) where
        -- The rest of the working words is as it was
        whole_work : part ≡ cleared (work_width * length (names_of input)) (take (work_width * names) work) → part ++ drop (work_width * names) work ≡ cleared (work_width * length (names_of input)) work
        whole_work e =
            let m : work_width * names ≡ work_width * length (names_of input) = ap (λ (k : ℕ). work_width * k) (count ∙ sym (names_counted input)) in
            let l : length (take (work_width * names) work) ≡ work_width * names = length-take-le (work_width * names) work words_fit in
            let z : part ≡ replicate (work_width * names) 0 =
            e ∙ ap (λ (k : ℕ). cleared k (take (work_width * names) work)) (sym m ∙ sym l) ∙ cleared_all (take (work_width * names) work) ∙ ap (λ (k : ℕ). replicate k 0) l in
            ap (λ (x : List ℕ). x ++ drop (work_width * names) work) z ∙ ap (λ (k : ℕ). cleared k work) m

        whole_length : length (part ++ drop (work_width * names) work) ≡ length work
        whole_length =
            let a : length part ≡ length (take (work_width * names) work) = ap (λ (l : Lengths). l.work) ends.lengths in
            length_front work part (work_width * names) a

        pub checked : Checked input (buffers output rows errors work) (buffers output' rows' errors' (part ++ drop (work_width * names) work)) answer
        checked =
            let o = ap (λ (l : Lengths). l.output) ends.lengths in
            let w = ap (λ (l : Lengths). l.rows) ends.lengths in
            let e = ap (λ (l : Lengths). l.errors) ends.lengths in
            record {
              answers =
                  ends.answers ∙ ap (λ x. outcome_after x (late_outcome input (lengths_of (buffers output rows errors work)))) early_none
                  ∙ sym (answer_by input (lengths_of (buffers output rows errors work)));
              lengths = λ i. record { output = o i; rows = w i; errors = e i; work = whole_length i };
              untouched = λ n p f l. absurd (let k = ends.late n p f in omega arith);
              emptied = λ n p f l.
                  let b = ends.emptied n p f in
                  let x = whole_work (ap (λ (y : Buffers). y.work) b) in
                  λ i. buffers (b i).output (b i).rows (b i).errors (x i);
              filled = λ counts f. whole_accepted (ends.filled counts f);
            }
          where
            whole_accepted : {counts : Counts} → Accepted input (buffers output rows errors (take (work_width * names) work)) (buffers output' rows' errors' part) counts
                → Accepted input (buffers output rows errors work) (buffers output' rows' errors' (part ++ drop (work_width * names) work)) counts
            whole_accepted a =
                record {
                  table = a.table;
                  types = a.types;
                  errors = a.errors;
                  operands = a.operands;
                  names = a.names;
                  items = a.items;
                  past_output = a.past_output;
                  past_rows = a.past_rows;
                  past_errors = a.past_errors;
                  work = whole_work a.work;
                }
