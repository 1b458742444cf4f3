-- From both passes to the promise: the counts, the rows, the errors and the output. Assumes nothing.
use Prim.Native.Nat.{ℕ, ◌+◌, ◌*◌, ◌≤◌, ◌<◌}
use mathlib.Core.Path.{◌≡◌, refl, sym, ◌∙◌, ap, subst}
use mathlib.Core.Bool.{true, false}
use mathlib.Core.List.{List, ◌++◌}
use native.Mathlib.Omega.{arith}
use lib.Dec.{ltb}
use lib.ListN.{length, get_or, drop, replicate, length-drop, get_or-append}
use lib.Seq.{get_or-drop, ext_get_or}
use borrow.Author.Tests.{ltb-false, lt-ltb}
use Rattle.types.specs.Ty.{same, member, distinct_count}
use Rattle.types.specs.Table.{row_width, fixed_length, Table}
use Rattle.types.specs.Post.{FixedStored}
use Rattle.fallible.specs.Errors.{error_width, error_list, room}
use Rattle.shape.specs.declared.Holds.TheVariants.{Items}
use Rattle.names.specs.Names.{name_count, names_end, built_ins}
use Rattle.layout.specs.Layout.{max_bytes}
use Rattle.trees.specs.Tree.{Item}
use Rattle.node.specs.Fine.{FineList}
use Rattle.names.specs.declared.BuiltIns.{BuiltIns}
use Rattle.node.proofs.Open.{few_bytes, items_list}
use Rattle.meaning.specs.Context.{each}
use Rattle.meaning.specs.Module.{needed_types}
use Rattle.meaning.proofs.Counted.{placed_count}
use Rattle.meaning.specs.Promise.{work_width, context_of, placed_errors_of, types_of, counts_of}
use Rattle.walk.specs.Effect.{Effect, nothing, ◌then◌, needed}
use Rattle.walk.specs.declared.State.{State}
use Rattle.row_index.specs.Index.{Indexed}
use Rattle.walk.specs.Represents.{Lent, lent, Told, Represents}
use Rattle.walk.proofs.Ends.{begin, begin_good, end_rows, end_full, end_crowded, end_errors, end_listed, end_operands, end_past}
use Rattle.walk.proofs.Laws.{needed_within}
use Rattle.walk.proofs.Sets.{both, count_within}
use Rattle.slot_places.specs.Absolute.{items_at}
use Rattle.slot_places.proofs.Filled.{Filled, filled}
use Rattle.convert.specs.Post.{Ready}
use Rattle.declare.specs.Post.{AllDeclared}
use Rattle.items.specs.Post.{ItemsChecked}
use Rattle.type_check.specs.Post.{buffers, Passed, Results, BothPasses}
use Rattle.type_check.proofs.Begin.{zeros, empty_words}
use Rattle.type_check.proofs.Whole.{module_effect, both_passes}

-- Lists that are the same from a place on
past_same : (n : ℕ) (a b : List ℕ) → length a ≡ length b → ((i : ℕ) → n ≤ i → get_or a i 0 ≡ get_or b i 0) → drop n a ≡ drop n b
past_same n a b l f =
    let p = length-drop n a in
    let q = length-drop n b in
    ext_get_or 0 (drop n a) (drop n b) (omega arith) (λ i h. get_or-drop n a i 0 ∙ f (n + i) (omega arith) ∙ sym (get_or-drop n b i 0))

nothing_then : (e : Effect) → nothing then e ≡ e
nothing_then e = let n : 0 + e.steps ≡ e.steps = omega arith in λ i. record { stores = e.stores; errors = e.errors; met = e.met; steps = n i }

module _ {input output rows rows₇ index errors work output' rows' index' errors' work' : List ℕ} {B : Lent} {r : State} {from : ℕ} {names : BuiltIns}
    (at : from ≡ names_end input) (numbers : names ≡ built_ins input) (passed : Passed input (length output) (length work)) (copied : output ≡ input ++ drop (length input) output)
    (empty : work ≡ replicate (work_width * name_count input) 0) (fixed : FixedStored rows rows₇)
    (sameErrors : length errors' ≡ length errors)
    (declared : AllDeclared input names (items_at input 63 from (length input)) from (length input)
    (lent work output errors rows₇ index (record { errors = 0; rows = 7; full = false })) B)
    (checked : ItemsChecked input names (items_at input 63 from (length input)) from (length input) B (lent work' output' errors' rows' index' r)) where
  few : length input ≤ max_bytes
  few = few_bytes input passed.layout

  zero_words : (i : ℕ) → get_or work i 0 ≡ 0
  zero_words i = ap (λ (l : List ℕ). get_or l i 0) empty ∙ zeros (work_width * name_count input) i

  -- The state stands for the whole effect
  stands : Represents output errors (lent work' output' errors' rows' index' r) (module_effect input)
  stands =
      let start = empty_words input work output errors rows₇ (record { errors = 0; rows = 7; full = false }) zero_words passed.names in
      let place : (A : Lent) → AllDeclared input (names) (items_at input 63 from (length input)) from (length input) A B → AllDeclared input (built_ins input) (items_at input 63 (names_end input) (length input)) (names_end input) (length input) A B =
      (λ A d. subst (λ (k : ℕ). AllDeclared input (built_ins input) (items_at input 63 k (length input)) k (length input) A B) at (subst (λ (n : BuiltIns). AllDeclared input n (items_at input 63 from (length input)) from (length input) A B) numbers d)) in
      let c = subst (λ (k : ℕ). ItemsChecked input (built_ins input) (items_at input 63 k (length input)) k (length input) B (lent work' output' errors' rows' index' r)) at
      (subst (λ (n : BuiltIns). ItemsChecked input n (items_at input 63 from (length input)) from (length input) B (lent work' output' errors' rows' index' r)) numbers checked) in
      subst (Represents output errors (lent work' output' errors' rows' index' r)) (nothing_then (module_effect input))
      ((both_passes input passed.layout start (place _ declared) c).does output errors nothing (begin fixed work output errors))

  table : Table rows' r.rows
  table = checked.walked.grew.good.table

  same_rows : length rows' ≡ length rows
  same_rows = checked.walked.grew.extends.long ∙ declared.walked.grew.extends.long ∙ fixed.long

  same_output : length output' ≡ length output
  same_output = checked.walked.frame.long ∙ declared.walked.frame.long

  same_work : length work' ≡ length work
  same_work = checked.wide ∙ declared.wide

  rows_full : ltb (length rows) (row_width * (counts_of input).rows) ≡ r.full
  unfolding needed types_of needed_types
  rows_full =
      ap (λ (n : ℕ). ltb n (row_width * (counts_of input).rows)) (sym same_rows) ∙ end_full (module_effect input) table stands (omega (arith, few))

  module _ (fits : r.full ≡ false) where
    told : Told rows' r.rows (placed_errors_of input) (error_list errors 0) (error_list errors' r.errors)
    told = (stands.fits fits).told

    crowded : ltb (length errors) (error_width * (counts_of input).errors) ≡ ltb (room errors) r.errors
    crowded = ap (λ (n : ℕ). ltb (length errors) (error_width * n)) (sym (placed_count input)) ∙ end_crowded told

    module _ (listed : ltb (room errors) r.errors ≡ false) where
      errors_fit : length (placed_errors_of input) ≤ room errors
      errors_fit =
          let l = ltb-false (length errors) (error_width * (counts_of input).errors) (crowded ∙ listed) in
          omega (arith, placed_count input)

      counts : record { rows = r.rows; errors = r.errors } ≡ counts_of input
      unfolding needed types_of needed_types
      counts =
          let a = end_rows (module_effect input) table stands fits in
          let b = end_errors told errors_fit ∙ placed_count input in
          λ i. record { rows = a i; errors = b i }

      slots : Filled input rows' r.rows (context_of input) output output'
      slots =
          filled input passed.layout (context_of input) rows' r.rows output output' passed.long same_output
          (λ i l. ap (λ (x : List ℕ). get_or x i 0) copied ∙ get_or-append input (drop (length input) output) 0 i l) table.small (stands.fits fits).stored

      past_rows_lem : drop (row_width * r.rows) rows' ≡ drop (row_width * r.rows) rows
      past_rows_lem =
          past_same (row_width * r.rows) rows' rows same_rows
          (λ i l.
          let d = declared.walked.grew in
          let c = checked.walked.grew in
          c.extends.past i l ∙ d.extends.past i (omega (arith, c.extends.more)) ∙ fixed.past i (omega (arith, c.extends.more, d.extends.more)))

      results : Results input (buffers output rows errors work) (buffers output' rows' errors' work') (record { rows = r.rows; errors = r.errors })
      unfolding needed types_of needed_types
      results =
          record {
            results = λ w w' e.
                record {
                  table = table;
                  types = (stands.fits fits).types;
                  errors = end_listed told errors_fit;
                  operands = end_operands told errors_fit;
                  names = slots.names;
                  items = slots.items;
                  past_output = slots.past;
                  past_rows = past_rows_lem;
                  past_errors = past_same (error_width * r.errors) errors' errors sameErrors (end_past told errors_fit);
                  work = e;
                };
          }

  past : drop (length input) output' ≡ drop (length input) output
  past =
      past_same (length input) output' output same_output
      (λ i l. checked.walked.frame.past i l ∙ ap (λ (x : List ℕ). get_or x i 0) declared.kept)

  pub passes_end : BothPasses input (buffers output rows errors work) (buffers output' rows' errors' work') r
  passes_end =
      record {
        lengths = λ i. record { output = same_output i; rows = same_rows i; errors = sameErrors i; work = same_work i };
        past = past;
        full = rows_full;
        crowded = crowded;
        done = λ fits listed. (counts fits listed, subst (Results input (buffers output rows errors work) (buffers output' rows' errors' work')) (counts fits listed) (results fits listed));
      }

-- What the calls of both passes ask for
pub list_of_items : {input : List ℕ} {outputs works from : ℕ} → Passed input outputs works → from ≡ names_end input → FineList input 63 from (length input) Items
list_of_items {input} passed e = subst (λ (k : ℕ). FineList input 63 k (length input) Items) (sym e) (items_list input passed.layout)

pub first_ready : {input output rows rows₇ index errors work : List ℕ} → Passed input (length output) (length work) → work ≡ replicate (work_width * name_count input) 0 → FixedStored rows rows₇ → Indexed rows₇ 7 index → Ready input (lent work output errors rows₇ index (record { errors = 0; rows = 7; full = false }))
first_ready {input} {output} {rows} {rows₇} {index} {errors} {work} passed e fixed indexed =
    record {
      good = begin_good fixed work output errors indexed (λ i. ap (λ (l : List ℕ). get_or l i 0) e ∙ zeros (work_width * name_count input) i);
      long = passed.long;
      wide = passed.wide;
    }

pub second_ready : {input output rows₇ index errors work : List ℕ} {items : List Item} {from : ℕ} {names : BuiltIns} {B : Lent} {st : State} → Passed input (length output) (length work)
    → AllDeclared input names items from (length input) (lent work output errors rows₇ index st) B → Ready input B
second_ready passed d =
    record {
      good = d.walked.grew.good;
      long = let l = d.walked.frame.long in let p = passed.long in omega arith;
      wide = let l = d.wide in let p = passed.wide in omega arith;
    }

-- Every table has the fixed seven rows
seven : (input : List ℕ) → 7 ≤ (counts_of input).rows
unfolding needed types_of needed_types distinct_count member same each
seven input =
    subst (λ (e : Effect). 7 ≤ distinct_count (needed e)) (nothing_then (module_effect input))
    (count_within (needed nothing) (needed (nothing then module_effect input)) (needed_within nothing (module_effect input)))

pub no_room : (input output rows errors work : List ℕ) → length rows < fixed_length → BothPasses input (buffers output rows errors work) (buffers output rows errors work) (record { errors = 0; rows = 0; full = true })
no_room input output rows errors work l =
    record {
      lengths = refl;
      past = refl;
      full = lt-ltb (length rows) (row_width * (counts_of input).rows) (let s = seven input in omega arith);
      crowded = λ p. both refl p;
      done = λ p q. both refl p;
    }

-- The rows are as many words as before
pub rows_kept : {input rows : List ℕ} {items : List Item} {from end : ℕ} {names : BuiltIns} {A B C : Lent} → FixedStored rows A.rows → AllDeclared input names items from end A B → ItemsChecked input names items from end B C
    → length C.rows ≡ length rows
rows_kept fixed declared checked = checked.walked.grew.extends.long ∙ declared.walked.grew.extends.long ∙ fixed.long
