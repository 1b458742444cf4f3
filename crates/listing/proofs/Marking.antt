-- The literals among some records, marked in one walk. Nothing is asked of the module's layout.
use Prim.Native.Nat.{ℕ, zero, suc, ◌+◌, ◌-◌, ◌*◌, ◌≤◌, ◌<◌}
use native.Mathlib.Omega.{arith}
use mathlib.Core.Path.{◌≡◌, refl, sym, ap, ◌∙◌, subst}
use mathlib.Core.Bool.{Bool, true, false, cond, not}
use mathlib.Core.List.{List, [], ◌∷◌, ◌++◌}
use borrow.Author.Tests.{eq-eqb, ne_eqb}
use lib.Dec.{eqb}
use lib.ListN.{length, set, length-set}
use Rattle.shape.specs.Kinds as kinds
use Rattle.shape.specs.Shape.{shape_of, due_in, Shaped}
use Rattle.shape.specs.declared.Shape.{Shape}
use Rattle.shape.specs.declared.Due.{Due}
use Rattle.record_bytes.specs.Bytes.{word_at, half_at, head_size, field_size, Read}
use Rattle.names.specs.Names.{stands, Next}
use Rattle.layout.specs.Layout.{kind_at, start_at, stop_at}
use Rattle.trees.specs.Record.{Records, no_records, records_at, records_with, record_with, go_on, field_count, holds_free_bytes}
use Rattle.trees.proofs.Decode.{enough, records_end}
use Rattle.listing.specs.Literals.{literals_in, mark_all, marked_here, bytes_before, children_start}

-- The place of a record, if it is a literal
abbrev pub here_in : (s : List ℕ) → (at : ℕ) → List ℕ
here_in s at = cond (eqb (kind_at s at) kinds.integer) (at ∷ []) []

-- The children of a record
abbrev pub inner_of : (levels : ℕ → ℕ → Records) → (s : List ℕ) → (at : ℕ) → Records
inner_of levels s at = go_on (not (holds_free_bytes (kind_at s at))) (λ _. levels (start_at s at) (stop_at s at)) no_records

mark_append : (a b m : List ℕ) → mark_all (a ++ b) m ≡ mark_all b (mark_all a m)
unfolding mark_all
mark_append [] b m = refl
mark_append (x ∷ a) b m = mark_append a b (set m x 1)

pub mark_length : (a m : List ℕ) → length (mark_all a m) ≡ length m
unfolding mark_all
mark_length [] m = refl
mark_length (x ∷ a) m = mark_length a (set m x 1) ∙ length-set m x 1

-- No record stands
records_none : (s : List ℕ) (d at end : ℕ) → stands s at end ≡ false → records_at s d at end ≡ no_records
unfolding records_at records_with
records_none s zero at end e = refl
records_none s (suc d) at end e = rw e

-- A record stands: it, and those after it
records_more : (s : List ℕ) (d at end : ℕ) → at < end → end ≤ length s → stands s at end ≡ true → head_size ≤ word_at s at
    → records_at s (suc d) at end ≡ record_with (records_at s d) s at (records_at s (suc d) (stop_at s at) end)
unfolding records_at records_with
records_more s d at end p q e w =
    rw e (ap (record_with (records_at s d) s at) (enough (length s) (suc (length s)) (records_at s d) s (stop_at s at) end (omega arith) (omega arith)))

here_marks : (s : List ℕ) (at : ℕ) (marks : List ℕ) → mark_all (here_in s at) marks ≡ marked_here s at marks
unfolding mark_all
here_marks s at marks = go (eqb (kind_at s at) kinds.integer)
  where
    go : (b : Bool) → mark_all (cond b (at ∷ []) []) marks ≡ cond b (set marks at 1) marks
    go true = refl
    go false = refl

pub here_long : (s : List ℕ) (at : ℕ) (marks : List ℕ) → length (marked_here s at marks) ≡ length marks
here_long s at marks = go (eqb (kind_at s at) kinds.integer)
  where
    go : (b : Bool) → length (cond b (set marks at 1) marks) ≡ length marks
    go true = length-set marks at 1
    go false = refl

-- The children, or none
inner_literals : (s : List ℕ) (d at : ℕ) → literals_in (inner_of (records_at s d) s at) ≡ literals_in (records_at s d (children_start s at (stop_at s at)) (stop_at s at))
inner_literals s d at = go (holds_free_bytes (kind_at s at))
  where
    go : (b : Bool) → literals_in (go_on (not b) (λ _. records_at s d (start_at s at) (stop_at s at)) no_records) ≡ literals_in (records_at s d (cond b (stop_at s at) (start_at s at)) (stop_at s at))
    go true = ap literals_in (sym (records_end s d (stop_at s at)))
    go false = refl

-- Once the literals from `at` on are marked, all are
pub record Marking (s : List ℕ) (depth from end : ℕ) (before marks : List ℕ) (at : ℕ) : Type 0 where
  pub long : length marks ≡ length before
  pub whole : mark_all (literals_in (records_at s depth at end)) marks ≡ mark_all (literals_in (records_at s depth from end)) before

pub marking_none : (s : List ℕ) (depth from end : ℕ) (marks : List ℕ) → depth < 1 → marks ≡ mark_all (literals_in (records_at s depth from end)) marks
unfolding records_at literals_in mark_all
marking_none s depth from end marks p = let e : 0 ≡ depth = omega arith in ap (λ (d : ℕ). mark_all (literals_in (records_at s d from end)) marks) e

pub marking_start : (s : List ℕ) (depth from end : ℕ) (marks : List ℕ) → Marking s depth from end marks marks from
marking_start s depth from end marks = record { long = refl; whole = refl }

module _ (s : List ℕ) (depth from end : ℕ) (before marks : List ℕ) (at : ℕ) (low : 1 ≤ depth) (inside : end ≤ length s)
    (marking : Marking s depth from end before marks at) where
  pub marking_done : stands s at end ≡ false → marks ≡ mark_all (literals_in (records_at s depth from end)) before
  unfolding literals_in mark_all
  marking_done e = sym (ap (λ (r : Records). mark_all (literals_in r) marks) (records_none s depth at end e)) ∙ marking.whole

  module _ (next : ℕ) (f : Next s at end next) where
    stop : next ≡ stop_at s at
    stop = f.is

    one_more : records_at s depth at end ≡ record_with (records_at s (depth - 1)) s at (records_at s depth (stop_at s at) end)
    one_more =
        let z : suc (depth - 1) ≡ depth = omega arith in
        subst (λ (k : ℕ). records_at s k at end ≡ record_with (records_at s (depth - 1)) s at (records_at s k (stop_at s at) end)) z
        (records_more s (depth - 1) at end (omega (arith, f.head, f.inside)) inside f.whole (omega (arith, f.head, stop)))

    -- What a turn marks, with its children from `inner` to x
    abbrev turn : (inner x : ℕ) → (marks₁ : List ℕ) → List ℕ
    turn inner x marks₁ = mark_all (literals_in (records_at s (depth - 1) inner x)) marks₁

    unrolled : mark_all (literals_in (records_at s depth at end)) marks
        ≡ mark_all (literals_in (records_at s depth (stop_at s at) end)) (turn (children_start s at (stop_at s at)) (stop_at s at) (marked_here s at marks))
    unfolding literals_in
    unrolled =
        let inner = literals_in (inner_of (records_at s (depth - 1)) s at) in
        let rest = literals_in (records_at s depth (stop_at s at) end) in
        ap (λ (x : Records). mark_all (literals_in x) marks) one_more
        ∙ mark_append (here_in s at ++ inner) rest marks
        ∙ ap (mark_all rest) (mark_append (here_in s at) inner marks ∙ (λ i. mark_all (inner_literals s (depth - 1) at i) (here_marks s at marks i)))

    -- A turn of the walk, in the words of its calls
    pub marking_more : (marks₁ : List ℕ) → marks₁ ≡ marked_here s at marks → (inner : ℕ) → inner ≡ children_start s at next
        → (marks₂ : List ℕ) → marks₂ ≡ turn inner next marks₁ → Marking s depth from end before marks₂ next
    marking_more marks₁ e₁ inner ei marks₂ e₂ =
        let e = e₂ ∙ (λ i. turn (ei i) next (e₁ i)) in
        record {
          long = ap length e ∙ mark_length (literals_in (records_at s (depth - 1) (children_start s at next) next)) (marked_here s at marks) ∙ here_long s at marks ∙ marking.long;
          whole = ap (mark_all (literals_in (records_at s depth next end))) e
              ∙ ap (λ (x : ℕ). mark_all (literals_in (records_at s depth x end)) (turn (children_start s at x) x (marked_here s at marks))) stop
              ∙ sym unrolled
              ∙ marking.whole;
        }

-- Whether a record is a literal
module _ (s : List ℕ) (at kind : ℕ) (marks : List ℕ) (r : Read (half_at s (at + 4)) 16 kind) where
  pub here_yes : kind ≡ kinds.integer → set marks at 1 ≡ marked_here s at marks
  here_yes e = sym (rw (eq-eqb (kind_at s at) kinds.integer (sym r.is ∙ e)) refl)

  pub here_not : (kind ≡ kinds.integer → ⊥) → marks ≡ marked_here s at marks
  here_not e = sym (rw (ne_eqb (kind_at s at) kinds.integer (λ h. e (r.is ∙ h))) refl)

-- Where its children start. Cited by nothing here now
module _ (s : List ℕ) (at stop kind : ℕ) (r : Read (half_at s (at + 4)) 16 kind) (shape : Shape) (shaped : Shaped kind shape) (due : Due) (due-is : due ≡ due_in shape.holds) where
  free_is : due.free ≡ holds_free_bytes (kind_at s at)
  free_is = ap (λ (x : Due). x.free) due-is ∙ ap (λ (x : Shape). (due_in x.holds).free) shaped.is ∙ ap (λ (n : ℕ). (due_in (shape_of n).holds).free) r.is

  pub children_none : due.free ≡ true → stop ≡ children_start s at stop
  children_none e = ap (λ (b : Bool). cond b stop (start_at s at)) (sym e ∙ free_is)

  pub children_some : due.free ≡ false → (n : ℕ) → (n ≡ (shape_of kind).fields) × (n ≤ 2) → at + 16 + 4 * n ≡ children_start s at stop
  children_some e n n-is =
      ap (λ (x : ℕ). at + 16 + 4 * x) (n-is.0 ∙ ap (λ (x : ℕ). (shape_of x).fields) r.is)
      ∙ ap (λ (b : Bool). cond b stop (start_at s at)) (sym e ∙ free_is)

-- The same by the bytes before the children
module _ (s : List ℕ) (at stop kind before : ℕ) (r : Read (half_at s (at + 4)) 16 kind) (is : before ≡ bytes_before kind) where
  before_here : before ≡ bytes_before (kind_at s at)
  before_here = is ∙ ap bytes_before r.is

  pub none_before : before ≡ 0 → stop ≡ children_start s at stop
  none_before z = go (holds_free_bytes (kind_at s at)) before_here
    where
      go : (free : Bool) → before ≡ cond free 0 (head_size + field_size * field_count (kind_at s at)) → stop ≡ cond free stop (start_at s at)
      go true e = refl
      go false e = absurd (omega arith)

  pub some_before : (before ≡ 0 → ⊥) → at + before ≡ children_start s at stop
  some_before n = go (holds_free_bytes (kind_at s at)) before_here
    where
      go : (free : Bool) → before ≡ cond free 0 (head_size + field_size * field_count (kind_at s at)) → at + before ≡ cond free stop (start_at s at)
      go true e = absurd (n e)
      go false e = omega arith
