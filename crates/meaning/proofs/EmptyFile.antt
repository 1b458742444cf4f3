-- Paper 12: runs over a file of no bytes and over one of 1 to 15 bytes; and that demand 3 must ask for both or neither.
use Prim.Native.Nat.{ℕ, ◌+◌, ◌*◌, ◌≤◌, ◌<◌}
use mathlib.Core.Path.{◌≡◌, refl, sym, ◌∙◌, ap, subst}
use mathlib.Core.Bool.{Bool, true, false, ◌||◌}
use mathlib.Core.List.{List, [], ◌∷◌, ◌++◌, Nodup, Nodup-nil}
use mathlib.Core.Option.{none}
use native.Mathlib.Omega.{arith}
use lib.Dec.{ltb}
use lib.ListN.{length, take, drop, take-append-drop}
use lib.Seq.{ext_get_or, get_or-take, length-take-le}
use borrow.Author.Tests.{lt-ltb, le-ltb}
use Rattle.types.specs.Ty.{same, member, distinct_count, parts}
use Rattle.types.specs.Table.{row_width, fixed_length, fixed_words}
use Rattle.fallible.specs.Outcome.{Outcome, refused, accepted, or_next, first_refusing, outcome_after}
use Rattle.fallible.specs.Errors.{error_width}
use Rattle.shape.specs.Shape.{shape_of, due_in, is_done, may_stand, state_after, allowed}
use Rattle.record_bytes.specs.Bytes.{half_at, word_at}
use Rattle.layout.specs.Layout.{layout_of, layout_refusal, list_at, record_at, head_at, is_bad}
use Rattle.layout.specs.Layout.{Layout, Good}
use Rattle.names.specs.Names.{stands, chain, names_end, name_places, names_of, name_count, repeat_in, repeated_name, name_refusal, item_places, items_of}
use Rattle.trees.specs.Example.{head}
use Rattle.layout.proofs.LayoutLaws.{layout_short}
use Rattle.meaning.specs.Context.{each}
use Rattle.meaning.specs.Module.{declarations, declare_all, module_errors, types_met, needed_types}
use Rattle.meaning.specs.Promise.{work_width, trees_of, errors_of, types_of, Counts, counts_of, Buffers, Lengths, lengths_of, refuse_if, tests, answer_of, cleared}
use Rattle.meaning.specs.Promise.{Accepted, Checked}
use Rattle.meaning.specs.JoiningOrder.{Supposed, global_name, alias_name}
use Rattle.meaning.specs.EmptyFile.{seven_rows, with_fixed_rows, with_zeros, EmptyFile, ShortFile}
use Rattle.meaning.proofs.Cleared.{cleared_all}

-- A file of no bytes has no names and no items, and so no types but the fixed ones and no errors
no_names : names_of [] ≡ []
unfolding chain name_places names_of
no_names = refl

no_items : items_of [] ≡ []
unfolding chain item_places items_of
no_items = refl

seven_rows_lem : counts_of [] ≡ seven_rows
unfolding same member distinct_count parts each declarations declare_all module_errors types_met needed_types errors_of types_of chain item_places items_of
seven_rows_lem = refl

-- Test 6 alone can refuse it
empty_tests : (lent : Lengths) → tests [] lent ≡ none ∷ none ∷ none ∷ refuse_if (ltb lent.rows fixed_length) 6 ∷ none ∷ []
unfolding layout_of layout_refusal chain name_places repeat_in repeated_name name_refusal
empty_tests lent =
    let output : ltb lent.output 0 ≡ false = le-ltb lent.output 0 (omega arith) in
    let work : ltb lent.work (work_width * length (names_of [])) ≡ false = ap (λ (n : List (List ℕ)). ltb lent.work (work_width * length n)) no_names ∙ le-ltb lent.work 0 (omega arith) in
    let rows : ltb lent.rows (row_width * (counts_of []).rows) ≡ ltb lent.rows fixed_length = ap (λ (c : Counts). ltb lent.rows (row_width * c.rows)) seven_rows_lem in
    let errors : ltb lent.errors (error_width * (counts_of []).errors) ≡ false =
    ap (λ (c : Counts). ltb lent.errors (error_width * c.errors)) seven_rows_lem ∙ le-ltb lent.errors 0 (omega arith) in
    λ i. none ∷ none ∷ refuse_if (output i || work i) 5 ∷ refuse_if (rows i) 6 ∷ refuse_if (errors i) 7 ∷ []

empty_answer : (lent : Lengths) (b : Bool) → ltb lent.rows fixed_length ≡ b → answer_of [] lent ≡ outcome_after (or_next (refuse_if b 6) none) (accepted seven_rows)
unfolding answer_of
empty_answer lent b e =
    λ i. outcome_after (first_refusing ((empty_tests lent ∙ ap (λ (c : Bool). none ∷ none ∷ none ∷ refuse_if c 6 ∷ none ∷ []) e) i)) (accepted (seven_rows_lem i))

module _ (before after : Buffers) (answer : Outcome Counts) (run : Checked [] before after answer) where
  module _ (room : fixed_length ≤ length before.rows) where
    is_accepted : answer ≡ accepted seven_rows
    is_accepted = run.answers ∙ empty_answer (lengths_of before) false (le-ltb (length before.rows) fixed_length room)

    all : Accepted [] before after seven_rows
    all = run.filled seven_rows is_accepted

    first_rows : take fixed_length after.rows ≡ fixed_words
    first_rows =
        let long = length-take-le fixed_length after.rows all.table.room in
        ext_get_or 0 (take fixed_length after.rows) fixed_words long (λ i h. get_or-take fixed_length after.rows i 0 (omega (arith, long)) ∙ all.table.fixed i (omega (arith, long)))

    rows : after.rows ≡ fixed_words ++ drop fixed_length before.rows
    rows = sym (take-append-drop fixed_length after.rows) ∙ (λ i. first_rows i ++ all.past_rows i)

    work : after.work ≡ before.work
    work = all.work ∙ ap (λ (names : List (List ℕ)). cleared (work_width * length names) before.work) no_names

    accepts : (answer ≡ accepted seven_rows) × (after ≡ with_fixed_rows before)
    accepts = (is_accepted, λ i. record { output = all.past_output i; rows = rows i; errors = all.past_errors i; work = work i })

  refuses : length before.rows < fixed_length → (answer ≡ refused 6 0) × (after ≡ with_zeros before)
  refuses few =
      let e = run.answers ∙ empty_answer (lengths_of before) true (lt-ltb (length before.rows) fixed_length few) in (
        e,
        run.emptied 6 0 e (omega arith) ∙ (λ i. record {
          output = before.output;
          rows = cleared_all before.rows i;
          errors = cleared_all before.errors i;
          work = cleared (work_width * length (no_names i)) before.work;
        }),
      )

pub empty_file : EmptyFile
empty_file = record { names = no_names; items = no_items; enough = accepts; few = refuses }

-- The first test decides
pub short_file : ShortFile
unfolding answer_of layout_refusal
short_file input before after answer run some few =
    let e : answer ≡ refused 2 0 =
    run.answers
    ∙ ap (λ (l : Layout). outcome_after (or_next (layout_refusal l) (first_refusing (drop 1 (tests input (lengths_of before))))) (accepted (counts_of input))) (layout_short input some few) in
    (e, run.untouched 2 0 e (omega arith))

-- A module record without names and items
bare_module : List ℕ
bare_module = head 32 1 0 0 ++ head 16 2 0 0

-- An output of 10 bytes, and seven rows
ten_bytes : Lengths
ten_bytes = record { output = 10; rows = fixed_length; errors = 0; work = 0 }

nothing_supposed : (m : List ℕ) → layout_of m ≡ Good → trees_of m ≡ [] → Supposed m
unfolding each
nothing_supposed m l e =
    record {
      layout = l;
      globals = subst (λ ts. Nodup (each global_name ts)) (sym e) Nodup-nil;
      aliases = subst (λ ts. Nodup (each alias_name ts)) (sym e) Nodup-nil;
      precedes = λ i j name p q named m. absurd (omega (arith, p, ap length e));
    }

-- It and the file of no bytes have the same names and items, and meet what demand 3 supposes; an output of 10 bytes is enough for the file of
-- no bytes alone. So demand 3 must ask that both or neither are that file.
both_or_neither : (names_of bare_module ≡ names_of []) × (items_of bare_module ≡ items_of []) × Supposed bare_module × Supposed []
    × (answer_of bare_module ten_bytes ≡ refused 5 0) × (answer_of [] ten_bytes ≡ accepted seven_rows)
unfolding bare_module ten_bytes half_at word_at shape_of due_in is_done may_stand state_after allowed stands chain names_end name_places names_of name_count repeat_in repeated_name name_refusal
    item_places items_of is_bad head_at list_at record_at layout_of layout_refusal answer_of
both_or_neither =
    (refl, refl, nothing_supposed bare_module refl refl, nothing_supposed [] refl refl, refl, empty_answer ten_bytes false refl)
