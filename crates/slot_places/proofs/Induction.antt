-- Induction over the records of a list with no fault in its layout. Assumes nothing.
use Prim.Native.Nat.{ℕ, zero, suc, ◌-◌, ◌≤◌, ◌<◌}
use mathlib.Core.Path.{◌≡◌, refl, sym, ap, subst}
use mathlib.Core.Bool.{Bool, true, false, not}
use mathlib.Core.List.{List}
use lib.Dec.{eqb}
use native.Mathlib.Omega.{arith}
use borrow.Author.Tests.{eqb-true}
use Rattle.shape.specs.Shape.{pick, shape_of, due_in, is_done, may_stand, state_after, unlisted, an_item}
use Rattle.shape.specs.declared.Due.{Due}
use Rattle.shape.specs.declared.Holds.{Holds}
use Rattle.shape.specs.declared.Holds.TheVariants.{Nothing, FreeBytes, OneModule, NamesThenItems, Items, Names, OneType, Fields, OneExpression, TwoExpressions, CallParts, Expressions, ExpressionThenType, CompoundFields, Statements, Declaration, InitialValue, ExpressionThenCompound, OneCompound, OptionalExpression, OneStatement, ExpressionThenStatement, IfParts, ThenPart, OptionalStatement, FunctionParts, Parameters}
use Rattle.shape.proofs.ShapeLaws.{and_both}
use Rattle.names.specs.Names.{name_count}
use Rattle.layout.specs.Layout.{kind_at, class_at, start_at, stop_at, answer_if, and_then, list_at, record_at}
use Rattle.node.specs.Fine.{FineRecord, FineList}
use Rattle.trees.specs.Record.{Records, no_records, record_then, go_on, record_head_at, bytes_at, holds_free_bytes, records_at}
use Rattle.layout.specs.Layout.{Layout, Good}
use Rattle.layout.specs.declared.LayoutError.TheVariants.{Fault}
use Rattle.std.proofs.Common.{Err}
use Rattle.node.proofs.Open.{bad_good, opened, split}
use Rattle.trees.proofs.Decode.{fine_own, records_cons, records_end}

-- A state takes records, not bytes
abbrev pub TakesRecords : Holds → Type 0
TakesRecords st = (due_in st).free ≡ false

-- Bytes never follow a record
after_record : (st : Holds) → TakesRecords (due_in st).next × TakesRecords (due_in st).after
unfolding due_in
after_record Nothing = (refl, refl)
after_record FreeBytes = (refl, refl)
after_record OneModule = (refl, refl)
after_record NamesThenItems = (refl, refl)
after_record Items = (refl, refl)
after_record Names = (refl, refl)
after_record OneType = (refl, refl)
after_record Fields = (refl, refl)
after_record OneExpression = (refl, refl)
after_record TwoExpressions = (refl, refl)
after_record CallParts = (refl, refl)
after_record Expressions = (refl, refl)
after_record ExpressionThenType = (refl, refl)
after_record CompoundFields = (refl, refl)
after_record Statements = (refl, refl)
after_record Declaration = (refl, refl)
after_record InitialValue = (refl, refl)
after_record ExpressionThenCompound = (refl, refl)
after_record OneCompound = (refl, refl)
after_record OptionalExpression = (refl, refl)
after_record OneStatement = (refl, refl)
after_record ExpressionThenStatement = (refl, refl)
after_record IfParts = (refl, refl)
after_record ThenPart = (refl, refl)
after_record OptionalStatement = (refl, refl)
after_record FunctionParts = (refl, refl)
after_record Parameters = (refl, refl)

takes_after : (st : Holds) (c : ℕ) → TakesRecords (state_after (due_in st) c)
unfolding state_after
takes_after st c = go (eqb c (due_in st).class)
  where
    go : (b : Bool) → TakesRecords (pick b (due_in st).next (due_in st).after)
    go true = (after_record st).0
    go false = (after_record st).1

-- Such a list is complete only at its end
done_at : (due : Due) (at end : ℕ) → due.free ≡ false → is_done due at end ≡ true → at ≡ end
unfolding is_done
done_at due at end f e = eqb-true at end (and_both due.ends (eqb at end) (rw f at e)).1

-- and where it is not complete, a record is due
listed : (s : List ℕ) (d at end : ℕ) (st : Holds) → is_done (due_in st) at end ≡ false → FineList s d at end st → eqb (due_in st).class unlisted ≡ false
unfolding list_at
listed s d at end st e l = fuelled l.fuel l.ok
  where
    go : (b : Bool) (rest : Layout) → answer_if b (Err (Fault at)) (λ _. rest) ≡ Good → b ≡ false
    go true rest q = bad_good q
    go false rest q = refl

    fuelled : (m : ℕ) → list_at (record_at (name_count s) s d) s m at end st ≡ Good → eqb (due_in st).class unlisted ≡ false
    fuelled zero q = bad_good q
    fuelled (suc m) q =
        go (eqb (due_in st).class unlisted)
        (and_then (record_at (name_count s) s d at end (due_in st)) (λ _. list_at (record_at (name_count s) s d) s m (stop_at s at) end (state_after (due_in st) (class_at s at))))
        (simp e at q)

ends_there : (due : Due) (at end : ℕ) → due.free ≡ false → is_done due at end ≡ true → due.ends ≡ true
unfolding is_done
ends_there due at end f e = (and_both due.ends (eqb at end) (rw f at e)).0

-- A record of a class stands where a record is due
pub record Standing (due : Due) (class : ℕ) : Type 0 where
  pub listed : eqb due.class unlisted ≡ false
  pub stands : may_stand due class ≡ true

module _ (s : List ℕ) (P : (depth at end : ℕ) → Holds → Records → Type 0) where
  -- The children of a record, of which there are none where bytes follow its fields
  abbrev pub Children : (free : Bool) → (depth at : ℕ) → Records → Type 0
  Children true d at r = r ≡ no_records
  Children false d at r = P (d - 1) (start_at s at) (stop_at s at) (shape_of (kind_at s at)).holds r

  module _ (nil : (d end : ℕ) (st : Holds) → (due_in st).ends ≡ true → P d end end st no_records)
      (cons : (d at end : ℕ) (st : Holds) → Standing (due_in st) (class_at s at) → FineRecord s d at end (class_at s at)
      → (free : Bool) → holds_free_bytes (kind_at s at) ≡ free → (children rest : Records) → Children free d at children
      → P d (stop_at s at) end (state_after (due_in st) (class_at s at)) rest → P d at end st (record_then (record_head_at s at) (bytes_at s at) children rest)) where
    step : (d : ℕ) → (1 ≤ d → (a b : ℕ) (st : Holds) → TakesRecords st → FineList s (d - 1) a b st → P (d - 1) a b st (records_at s (d - 1) a b))
        → (n at end : ℕ) (st : Holds) → end - at < n → TakesRecords st → FineList s d at end st → P d at end st (records_at s d at end)
    step d below zero at end st p f l = absurd (omega arith)
    step d below (suc n) at end st p f l = go (is_done (due_in st) at end) refl (λ a q g m. step d below n a end (state_after (due_in st) (class_at s at)) q g m)
      where
        inner : FineRecord s d at end (class_at s at) → (free : Bool) → holds_free_bytes (kind_at s at) ≡ free
            → Children free d at (go_on (not free) (λ _. records_at s (d - 1) (start_at s at) (stop_at s at)) no_records)
        inner r true e = refl
        inner r false e =
            let o = opened s d at end (class_at s at) r in
            below o.deep (start_at s at) (stop_at s at) (shape_of (kind_at s at)).holds e o.children

        go : (b : Bool) → is_done (due_in st) at end ≡ b
            → ((a : ℕ) → end - a < n → TakesRecords (state_after (due_in st) (class_at s at)) → FineList s d a end (state_after (due_in st) (class_at s at))
            → P d a end (state_after (due_in st) (class_at s at)) (records_at s d a end))
            → P d at end st (records_at s d at end)
        go true e rest =
            let q = done_at (due_in st) at end f e in
            let z = ends_there (due_in st) at end f e in
            rw (q, records_end s d end) (nil d end st z)
        go false e rest =
            let m = split s d at end st (due_in st) refl e l in
            let o = opened s d at end (class_at s at) m.first in
            let free = holds_free_bytes (kind_at s at) in
            let h : end - stop_at s at < n = omega (arith, o.body, o.head, o.room) in
            subst (P d at end st) (sym (records_cons s d at end (class_at s at) m.first))
            (cons d at end st (record { listed = listed s d at end st e l; stands = m.stands }) m.first free refl
            (go_on (not free) (λ _. records_at s (d - 1) (start_at s at) (stop_at s at)) no_records)
            (records_at s d (stop_at s at) end) (inner m.first free refl) (rest (stop_at s at) h (takes_after st (class_at s at)) m.rest))

    -- What holds at the end of a list, and of a record before a list if it holds of its children and of that list, holds of every list
    pub fine_induction : (d at end : ℕ) (st : Holds) → TakesRecords st → FineList s d at end st → P d at end st (records_at s d at end)
    fine_induction zero at end st f l = step zero (λ z a b t g m. absurd (omega arith)) (suc (end - at)) at end st (omega arith) f l
    fine_induction (suc d) at end st f l =
        let q : d ≡ suc d - 1 = omega arith in
        step (suc d) (λ z a b t g m. subst (λ (x : ℕ). P x a b t (records_at s x a b)) q (fine_induction d a b t g (subst (λ (x : ℕ). FineList s x a b t) (sym q) m)))
        (suc (end - at)) at end st (omega arith) f l

    -- and of every item by itself
    pub fine_item : (d at end : ℕ) → FineRecord s d at end an_item → P d at (stop_at s at) Items (records_at s d at (stop_at s at))
    unfolding due_in may_stand state_after
    fine_item d at end f =
        let own = fine_own s d at end an_item f in
        let free = holds_free_bytes (kind_at s at) in
        let class : class_at s at ≡ an_item = (opened s d at end an_item f).belongs in
        let after : state_after (due_in Items) (class_at s at) ≡ Items = ap (state_after (due_in Items)) class in
        subst (P d at (stop_at s at) Items) (sym (records_cons s d at (stop_at s at) an_item own))
        (cons d at (stop_at s at) Items (record { listed = refl; stands = ap (may_stand (due_in Items)) class }) (subst (FineRecord s d at (stop_at s at)) (sym class) own) free refl
        (go_on (not free) (λ _. records_at s (d - 1) (start_at s at) (stop_at s at)) no_records)
        (records_at s d (stop_at s at) (stop_at s at)) (inner free refl)
        (subst (λ (x : Holds). P d (stop_at s at) (stop_at s at) x (records_at s d (stop_at s at) (stop_at s at))) (sym after) (rw (records_end s d (stop_at s at)) (nil d (stop_at s at) Items refl))))
      where
        inner : (free : Bool) → holds_free_bytes (kind_at s at) ≡ free → Children free d at (go_on (not free) (λ _. records_at s (d - 1) (start_at s at) (stop_at s at)) no_records)
        inner true e = refl
        inner false e = fine_induction (d - 1) (start_at s at) (stop_at s at) (shape_of (kind_at s at)).holds e (opened s d at end an_item f).children
