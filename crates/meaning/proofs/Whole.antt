-- Demand 3 over two whole runs, from the trees of the items.
use Prim.Native.Nat.{ℕ, ◌+◌, ◌*◌}
use mathlib.Core.Path.{◌≡◌, refl, sym, ◌∙◌, ap, subst, subst₂}
use mathlib.Core.Bool.{◌||◌}
use mathlib.Core.List.Permᴰ
use mathlib.Core.List.{List, [], ◌∷◌, Permᴰ}
use native.Mathlib.Omega.{arith}
use lib.Dec.{ltb}
use lib.ListN.{length}
use Rattle.types.specs.Ty.{Ty}
use Rattle.types.specs.Table.{row_width}
use Rattle.types.proofs.Sizes.{same_size}
use Rattle.fallible.specs.Outcome.{Outcome, refused, accepted, first_refusing, outcome_after}
use Rattle.fallible.specs.Errors.{error_width}
use Rattle.trees.specs.Record.{item_tree}
use Rattle.layout.specs.Layout.{layout_refusal}
use Rattle.names.specs.Names.{same_bytes, items_of, name_refusal}
use Rattle.meaning.specs.Context.{TypeMap}
use Rattle.meaning.specs.Module.{module_context, module_errors, needed_types, item_types}
use Rattle.meaning.specs.Promise.{work_width, built_in_types, trees_of, built_ins_of, context_of, errors_of, types_of, Counts, counts_of, Lengths, lengths_of, refuse_if, answer_of, ItemFilled, Accepted}
use Rattle.meaning.specs.JoiningOrder.{AnotherOrder, Supposed, Alike, AcceptedAlike, SameOutcome, JoiningOrder, times_in, same_error}
use Rattle.meaning.proofs.Permutation.{permutation, invariant, length_permuted, times_permuted}
use Rattle.meaning.proofs.Equality.{bytes_equal, distinct_permuted}
use Rattle.meaning.proofs.Places.{precede}
use Rattle.meaning.proofs.Size.{total_length, start_length, size, same_repeated}
use Rattle.meaning.proofs.Counted.{counted}
use Rattle.meaning.proofs.Order.{SupposedItems, same_context, errors_permuted, types_permuted}

total_permuted : {l r : List (List ℕ)} → Permᴰ l r → total_length l ≡ total_length r
unfolding total_length
total_permuted = invariant total_length (λ a l r p e. ap (λ n. length a + n) e) (λ a b l. swap (length a) (length b) (total_length l))
  where
    swap : (x y z : ℕ) → x + (y + z) ≡ y + (x + z)
    swap x y z = omega arith

-- Where two items of the same bytes get slots of the same types, their outputs are alike
filled_alike : {rows rows' bytes bytes' output output' : List ℕ} {count count' : ℕ} {types types' : List Ty} → bytes ≡ bytes' → types ≡ types'
    → ItemFilled rows count types bytes output → ItemFilled rows' count' types' bytes' output' → Alike bytes output rows output' rows'
filled_alike {rows' = rows'} {output' = output'} {count' = count'} e t f g =
    let h = subst₂ (λ b u. ItemFilled rows' count' u b output') (sym e) (sym t) g in
    record { long = f.long ∙ sym h.long; others = λ i o. f.others i o ∙ sym (h.others i o); slots = f.slots ∙ sym h.slots }

supposed_items : (m : List ℕ) → Supposed m → SupposedItems (trees_of m)
supposed_items m s = record { distinct = record { globals = s.globals; aliases = s.aliases }; precede = precede (trees_of m) s.precedes }

-- The meaning of two orders
module _ (m k : List ℕ) (other : AnotherOrder m k) (sm : Supposed m) (sk : Supposed k) where
  items_permuted : Permᴰ (items_of m) (items_of k)
  items_permuted = permutation same_bytes bytes_equal (items_of m) (items_of k) other.items

  trees_permuted : Permᴰ (trees_of m) (trees_of k)
  trees_permuted = Permᴰ.map item_tree items_permuted

  same_built_ins : built_ins_of m ≡ built_ins_of k
  same_built_ins = ap built_in_types other.names

  contexts : context_of m ≡ context_of k
  contexts =
      same_context (built_ins_of m) (trees_of m) (trees_of k) trees_permuted (supposed_items m sm) (supposed_items k sk)
      ∙ ap (λ (b : TypeMap). module_context b (trees_of k)) same_built_ins

  errors : Permᴰ (errors_of m) (errors_of k)
  unfolding errors_of
  errors =
      subst (λ (b : TypeMap). Permᴰ (errors_of m) (module_errors b (trees_of k))) same_built_ins
      (errors_permuted (built_ins_of m) (trees_of m) (trees_of k) trees_permuted (supposed_items m sm) (supposed_items k sk))

  types : Permᴰ (types_of m) (types_of k)
  unfolding types_of
  types =
      subst (λ (b : TypeMap). Permᴰ (types_of m) (needed_types b (trees_of k))) same_built_ins
      (types_permuted (built_ins_of m) (trees_of m) (trees_of k) trees_permuted (supposed_items m sm) (supposed_items k sk))

  lengths : length m ≡ length k
  lengths =
      size m sm.layout ∙ (λ i. start_length (other.empty i) (other.names i) + total_permuted items_permuted i) ∙ sym (size k sk.layout)

  counts : counts_of m ≡ counts_of k
  counts = λ i. record { rows = distinct_permuted types i; errors = length_permuted errors i }

  -- Every test has the same answer
  answers : (lent : Lengths) → answer_of m lent ≡ answer_of k lent
  unfolding answer_of
  answers lent =
      λ i. outcome_after
      (first_refusing
      (layout_refusal ((sm.layout ∙ sym sk.layout) i)
      ∷ name_refusal (same_repeated m k sm.layout sk.layout other.names i)
      ∷ refuse_if (ltb lent.output (lengths i) || ltb lent.work (work_width * length (other.names i))) 5
      ∷ refuse_if (ltb lent.rows (row_width * (counts i).rows)) 6
      ∷ refuse_if (ltb lent.errors (error_width * (counts i).errors)) 7
      ∷ []))
      (accepted (counts i))

-- Demand 3
pub joining_order : JoiningOrder
joining_order c d meets-c meets-d lent other sc sd = outcome c.answer d.answer refl refl same_answer
  where
    same_answer : c.answer ≡ d.answer
    same_answer =
        meets-c.answers ∙ answers c.input d.input other sc sd (lengths_of c.before) ∙ ap (answer_of d.input) lent ∙ sym meets-d.answers

    -- Both accepted
    alike : (x y : Counts) → x ≡ y → Accepted c.input c.before c.after x → Accepted d.input d.before d.after y → AcceptedAlike c d x y
    alike x y e p q =
        let ctx = contexts c.input d.input other sc sd in
        let permuted = errors c.input d.input other sc sd in
        record {
          rows = ap (λ (z : Counts). z.rows) e;
          sizes = same_size c.after.rows d.after.rows x.rows y.rows p.table q.table;
          error_counts = ap (λ (z : Counts). z.errors) e;
          items = λ i j hi hj b. filled_alike b (λ t. item_types (ctx t) (item_tree (b t))) (p.items i hi) (q.items j hj);
          errors = λ z. ap (times_in same_error z) (counted c.input c.before c.after x p) ∙ times_permuted same_error z permuted ∙ sym (ap (times_in same_error z) (counted d.input d.before d.after y q));
        }

    outcome : (a b : Outcome Counts) → c.answer ≡ a → d.answer ≡ b → c.answer ≡ d.answer → SameOutcome c d a b
    outcome (refused n p) (refused m q) ca da e = (cc, cc)
    outcome (refused n p) (accepted y) ca da e = let z : ◌≡◌ {A = ℕ} 0 1 = cc in omega arith
    outcome (accepted x) (refused m q) ca da e = let z : ◌≡◌ {A = ℕ} 0 1 = cc in omega arith
    outcome (accepted x) (accepted y) ca da e = alike x y (cc) (meets-c.filled x ca) (meets-d.filled y da)
