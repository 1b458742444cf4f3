-- Statements by their places: which tree the record of a statement is, by its kind, where its parts stand, and that they have no fault either.
-- Assumes nothing.
use Prim.Native.Nat.{ℕ, suc, ◌+◌, ◌-◌, ◌*◌, ◌≤◌, ◌<◌}
use mathlib.Core.Path.{◌≡◌, refl, sym, ◌∙◌, ap, subst}
use mathlib.Core.Bool.{Bool, true, false, cond, not, ◌||◌, or-false}
use mathlib.Core.List.{List}
use mathlib.Core.Option.{none, some}
use lib.ListN.{length}
use lib.Dec.{eqb, ltb}
use native.Mathlib.Omega.{arith}
use borrow.Author.Tests.{ltb-true, eqb-true, eqb-false, eq-eqb, ne_eqb, not-false}
use borrow.Author.Count.{below_none, below_more}
use Rattle.shape.specs.Shape.{shape_of, due_in, is_done, may_stand, state_after, must_be, may_be, may_be_either, allowed, a_type, an_expression, a_compound, a_statement}
use Rattle.shape.specs.declared.Holds.{Holds}
use Rattle.shape.specs.declared.Holds.TheVariants.{Nothing, OneExpression, TwoExpressions, Statements, Declaration, InitialValue, ExpressionThenCompound, OneCompound, OptionalExpression, OneStatement, ExpressionThenStatement, IfParts, ThenPart, OptionalStatement}
use Rattle.shape.proofs.ShapeLaws.{type_kind_lem, expression_kind, compound_kind, statement_kind_lem as statement-range}
use Rattle.record_bytes.specs.Bytes.{word_at}
use Rattle.names.specs.Names.{name_count}
use Rattle.layout.specs.Layout.{Good, kind_at, shape_at, class_at, stop_at, is_bad, list_at, record_at, Part}
use Rattle.node.specs.Fine.{FineRecord, FineList}
use Rattle.trees.specs.Tree.{block, expression, variable_declaration, assignment, compound_assignment, return, loop, while, break, «if», if_else, inline_assembly, no_statements, statement_then, no_value, assigned, compounded}
use Rattle.trees.specs.Tree.{Location, Expression, Statement}
use Rattle.trees.specs.Record.{Records, no_records, location_at, record_head_of, holds_free_bytes, go_on, record_with, records_at, next}
use Rattle.trees.specs.Record.{to_type, to_expressions, to_expression, to_compound, to_initial_value, to_optional, statement_list, first_statement, later_statements, none_left, if_of, statement_of, to_statements}
use Rattle.trees.specs.Record.{type_at, expression_at, compound_at, statement_at, statements_at}
use Rattle.layout.proofs.LayoutLaws.{known, head_good, record_step}
use Rattle.node.proofs.Open.{headed, opened, opened_kind, Split, split_must, split_may, split_either, ended}
use Rattle.trees.proofs.Decode.{fine_in, fine_own, fine_wide, records_cons, records_end}

-- The first record of a list, and the records after it
module _ (s : List ℕ) (d at end c : ℕ) (f : FineRecord s d at end c) where
  -- what the first record alone decides is the same in its own bytes
  first_of_lem : {A : Type 0} (g : Records → A) → ((r t : Records) → g (record_with (records_at s (d - 1)) s at r) ≡ g (record_with (records_at s (d - 1)) s at t))
      → g (records_at s d at end) ≡ g (records_at s d at (stop_at s at))
  first_of_lem g h =
      ap g (records_cons s d at end c f) ∙ h (records_at s d (stop_at s at) end) (records_at s d (stop_at s at) (stop_at s at))
      ∙ sym (ap g (records_cons s d at (stop_at s at) c (fine_own s d at end c f)))

  pub first_expression_lem : to_expression (records_at s d at end) ≡ expression_at s d at
  unfolding to_expressions
  first_expression_lem = first_of_lem to_expression (λ r t. refl)

  pub first_compound : to_compound (records_at s d at end) ≡ compound_at s d at
  first_compound = first_of_lem to_compound (λ r t. refl)

  pub first_statement_lem : first_statement (to_statements (records_at s d at end)) ≡ statement_at s d at
  unfolding to_statements
  first_statement_lem = first_of_lem (λ r. first_statement (to_statements r)) (λ r t. refl)

  pub next_records : next (records_at s d at end) ≡ records_at s d (stop_at s at) end
  next_records = ap next (records_cons s d at end c f)

  pub later_statements_lem : later_statements (to_statements (records_at s d at end)) ≡ to_statements (records_at s d (stop_at s at) end)
  unfolding to_statements
  later_statements_lem = ap (λ (r : Records). later_statements (to_statements r)) (records_cons s d at end c f)

  pub statements_cons : statements_at s d at end ≡ statement_then (statement_at s d at) (statements_at s d (stop_at s at) end)
  unfolding to_statements statement_list
  statements_cons =
      let r = records_cons s d at end c f in
      ap (λ (t : Records). statement_list (to_statements t)) r
      ∙ ap (λ (t : Statement). statement_then t (statements_at s d (stop_at s at) end)) (sym (ap (λ (t : Records). first_statement (to_statements t)) r) ∙ first_statement_lem)

pub statements_end : (s : List ℕ) (d end : ℕ) → statements_at s d end end ≡ no_statements
unfolding to_statements statement_list
statements_end s d end = ap (λ (r : Records). statement_list (to_statements r)) (records_end s d end)

-- only a record 21 is read together with what follows it, and that is no type
pub first_type_lem : (s : List ℕ) (d at end : ℕ) → FineRecord s d at end a_type → to_type (records_at s d at end) ≡ type_at s d at
unfolding to_type
first_type_lem s d at end f =
    let k = type_kind_lem (kind_at s at) (opened s d at end a_type f).belongs in
    let n = ne_eqb (kind_at s at) 21 (omega (arith, k.1)) in
    first_of_lem s d at end a_type f to_type (λ r t. rw n)

-- A list with no fault: no statement, or one before such a list
pub no_statements_lem : (s : List ℕ) (d end : ℕ) → Part s end end → FineList s d end end Statements
unfolding list_at due_in is_done
no_statements_lem s d end p = record { part = p; fuel = 1; ok = rw (eq-eqb end end refl) refl }

may_be_good : (s : List ℕ) (d at end c : ℕ) (state : Holds) → FineRecord s d at end c → record_at (name_count s) s d at end (may_be c state) ≡ Good
unfolding may_stand
may_be_good s d at end c state f =
    let n = name_count s in
    let due = may_be c state in
    let h = headed n s d at end (must_be c Nothing) f.ok in
    let k = known n s at end (must_be c Nothing) h.head h.is in
    let l = k.long in
    let r = k.room in
    let g = head_good n s at end due (word_at s at) refl (omega arith) (kind_at s at) (shape_at s at) refl refl r l true (sym k.class) refl
    (is_bad n s 1 (shape_at s at).fields (shape_at s at).first (at + 16)) refl k.first
    (is_bad n s 2 (shape_at s at).fields (shape_at s at).second (at + 20)) refl (state_after due (class_at s at)) k.second refl in
    record_step n s d at end due h.deep ∙ rw (← g, ← k.starts, ← k.stops, ← k.inner) h.inner

pub more_statements : (s : List ℕ) (d at end : ℕ) → FineRecord s d at end a_statement → FineList s d (stop_at s at) end Statements → FineList s d at end Statements
unfolding list_at due_in is_done state_after
more_statements s d at end f rest =
    let o = opened s d at end a_statement f in
    let l = o.body in
    let r = o.room in
    let n : eqb at end ≡ false = ne_eqb at end (omega arith) in
    record { part = f.part; fuel = suc rest.fuel; ok = simp (n, may_be_good s d at end a_statement Statements f, o.belongs) rest.ok }

-- The children of a record by its kind, which start at `start`
abbrev children_of : List ℕ → (depth at kind start : ℕ) → Records
children_of s d at k start = go_on (not (holds_free_bytes k)) (λ _. records_at s (d - 1) start (stop_at s at)) no_records

module _ (s : List ℕ) (d at end : ℕ) (f : FineRecord s d at end a_statement) where
  module _ (k start : ℕ) (e : kind_at s at ≡ k) (q : at + 16 + 4 * (shape_of k).fields ≡ start) where
    statement_of_lem : statement_at s d at ≡ statement_of (record_head_of k s at) (children_of s d at k start) (to_statements (children_of s d at k start))
    unfolding to_statements
    statement_of_lem =
        ap (λ (r : Records). first_statement (to_statements r)) (records_cons s d at (stop_at s at) a_statement (fine_own s d at end a_statement f))
        ∙ ap (λ (j : ℕ). statement_of (record_head_of j s at) (children_of s d at j (at + 16 + 4 * (shape_of j).fields)) (to_statements (children_of s d at j (at + 16 + 4 * (shape_of j).fields)))) e
        ∙ ap (λ (p : ℕ). statement_of (record_head_of k s at) (children_of s d at k p) (to_statements (children_of s d at k p))) q

    children_of_lem : FineList s (d - 1) start (stop_at s at) (shape_of k).holds
    children_of_lem = subst (λ (p : ℕ). FineList s (d - 1) p (stop_at s at) (shape_of k).holds) q (opened_kind s d at end a_statement k f e).children

-- Where the second and the third child start, in a record without fields
abbrev pub second_at : List ℕ → (at : ℕ) → ℕ
second_at s at = stop_at s (at + 16)

abbrev pub third_at : List ℕ → (at : ℕ) → ℕ
third_at s at = stop_at s (second_at s at)

-- What each kind is: its tree, by the places of its parts, and its parts, which have no fault in the whole file

-- 64: trailing 0 or 1; Ss
pub record BlockAt (s : List ℕ) (d at : ℕ) : Type 0 where
  pub is : statement_at s d at ≡ block (location_at s at) (statements_at s (d - 1) (at + 20) (stop_at s at))
  pub members : FineList s (d - 1) (at + 20) (stop_at s at) Statements

-- 65: E
pub record ExpressionAt (s : List ℕ) (d at : ℕ) : Type 0 where
  pub is : statement_at s d at ≡ expression (location_at s at) (expression_at s (d - 1) (at + 16))
  pub value : FineRecord s (d - 1) (at + 16) (length s) an_expression
  pub ends : stop_at s (at + 16) ≡ stop_at s at

-- 66: name; T, then nothing, E or C
pub record VariableAt (s : List ℕ) (d at : ℕ) : Type 0 where
  pub is : statement_at s d at ≡ variable_declaration (location_at s at) (word_at s (at + 16)) (type_at s (d - 1) (at + 20))
      (to_initial_value (records_at s (d - 1) (stop_at s (at + 20)) (stop_at s at)))
  pub named : word_at s (at + 16) < name_count s
  pub type : FineRecord s (d - 1) (at + 20) (length s) a_type
  pub value : FineList s (d - 1) (stop_at s (at + 20)) (stop_at s at) InitialValue

-- 67: E, E
pub record AssignmentAt (s : List ℕ) (d at : ℕ) : Type 0 where
  pub is : statement_at s d at ≡ assignment (location_at s at) (expression_at s (d - 1) (at + 16)) (expression_at s (d - 1) (second_at s at))
  pub target : FineRecord s (d - 1) (at + 16) (length s) an_expression
  pub value : FineRecord s (d - 1) (second_at s at) (length s) an_expression
  pub ends : third_at s at ≡ stop_at s at

-- 68: E, C
pub record CompoundAssignmentAt (s : List ℕ) (d at : ℕ) : Type 0 where
  pub is : statement_at s d at ≡ compound_assignment (location_at s at) (expression_at s (d - 1) (at + 16)) (compound_at s (d - 1) (second_at s at))
  pub target : FineRecord s (d - 1) (at + 16) (length s) an_expression
  pub value : FineRecord s (d - 1) (second_at s at) (length s) a_compound
  pub ends : third_at s at ≡ stop_at s at

-- 69: nothing or E
pub record ReturnAt (s : List ℕ) (d at : ℕ) : Type 0 where
  pub is : statement_at s d at ≡ return (location_at s at) (to_optional (records_at s (d - 1) (at + 16) (stop_at s at)))
  pub value : FineList s (d - 1) (at + 16) (stop_at s at) OptionalExpression

-- 70: S
pub record LoopAt (s : List ℕ) (d at : ℕ) : Type 0 where
  pub is : statement_at s d at ≡ loop (location_at s at) (statement_at s (d - 1) (at + 16))
  pub body : FineRecord s (d - 1) (at + 16) (length s) a_statement
  pub ends : stop_at s (at + 16) ≡ stop_at s at

-- 71: E, S
pub record WhileAt (s : List ℕ) (d at : ℕ) : Type 0 where
  pub is : statement_at s d at ≡ while (location_at s at) (expression_at s (d - 1) (at + 16)) (statement_at s (d - 1) (second_at s at))
  pub condition : FineRecord s (d - 1) (at + 16) (length s) an_expression
  pub body : FineRecord s (d - 1) (second_at s at) (length s) a_statement
  pub ends : third_at s at ≡ stop_at s at

-- 73: E, S, perhaps S
pub record IfAt (s : List ℕ) (d at : ℕ) : Type 0 where
  pub condition : FineRecord s (d - 1) (at + 16) (length s) an_expression
  pub body : FineRecord s (d - 1) (second_at s at) (length s) a_statement
  pub rest : FineList s (d - 1) (third_at s at) (stop_at s at) OptionalStatement
  pub is : statement_at s d at ≡ if_of (location_at s at) (expression_at s (d - 1) (at + 16)) (to_statements (records_at s (d - 1) (second_at s at) (stop_at s at)))

pub record IfElseAt (s : List ℕ) (d at : ℕ) : Type 0 where
  pub is : statement_at s d at ≡ if_else (location_at s at) (expression_at s (d - 1) (at + 16)) (statement_at s (d - 1) (second_at s at))
      (statement_at s (d - 1) (third_at s at))
  pub false_body : FineRecord s (d - 1) (third_at s at) (length s) a_statement
  pub ends : stop_at s (third_at s at) ≡ stop_at s at

module _ (s : List ℕ) (d at end : ℕ) (f : FineRecord s d at end a_statement) where
  wide : (p e c : ℕ) → FineRecord s (d - 1) p e c → FineRecord s (d - 1) p (length s) c
  wide p e c g = fine_wide s (d - 1) p e c g

  pub statement_block : kind_at s at ≡ 64 → BlockAt s d at
  unfolding shape_of due_in
  statement_block e =
      let q : at + 16 + 4 ≡ at + 20 = omega arith in
      record { is = statement_of_lem s d at end f 64 (at + 20) e q; members = children_of_lem s d at end f 64 (at + 20) e q }

  pub statement_expression : kind_at s at ≡ 65 → ExpressionAt s d at
  unfolding shape_of due_in
  statement_expression e =
      let q : at + 16 + 0 ≡ at + 16 = omega arith in
      let c = split_must s (d - 1) (at + 16) (stop_at s at) OneExpression an_expression Nothing refl (children_of_lem s d at end f 65 (at + 16) e q) in
      record {
        is = statement_of_lem s d at end f 65 (at + 16) e q ∙ ap (expression (location_at s at)) (first_expression_lem s (d - 1) (at + 16) (stop_at s at) an_expression c.first);
        value = wide _ _ _ c.first;
        ends = ended s (d - 1) (stop_at s (at + 16)) (stop_at s at) Nothing refl c.rest;
      }

  pub statement_variable : kind_at s at ≡ 66 → VariableAt s d at
  unfolding shape_of due_in is_bad allowed
  statement_variable e =
      let q : at + 16 + 4 ≡ at + 20 = omega arith in
      let l = location_at s at in
      let c = split_must s (d - 1) (at + 20) (stop_at s at) Declaration a_type InitialValue refl (children_of_lem s d at end f 66 (at + 20) e q) in
      let o = opened_kind s d at end a_statement 66 f e in
      let t = first_type_lem s (d - 1) (at + 20) (stop_at s at) c.first in
      let n = next_records s (d - 1) (at + 20) (stop_at s at) a_type c.first in
      record {
        is = statement_of_lem s d at end f 66 (at + 20) e q ∙ λ i. variable_declaration l (word_at s (at + 16)) (t i) (to_initial_value (n i));
        named = ltb-true (word_at s (at + 16)) (name_count s) (not-false (ltb (word_at s (at + 16)) (name_count s)) o.first);
        type = wide _ _ _ c.first;
        value = c.rest;
      }

  pub statement_assignment : kind_at s at ≡ 67 → AssignmentAt s d at
  unfolding shape_of due_in
  statement_assignment e =
      let q : at + 16 + 0 ≡ at + 16 = omega arith in
      let b = second_at s at in
      let c = split_must s (d - 1) (at + 16) (stop_at s at) TwoExpressions an_expression OneExpression refl (children_of_lem s d at end f 67 (at + 16) e q) in
      let v = split_must s (d - 1) b (stop_at s at) OneExpression an_expression Nothing refl c.rest in
      let x = first_expression_lem s (d - 1) (at + 16) (stop_at s at) an_expression c.first in
      let y = ap to_expression (next_records s (d - 1) (at + 16) (stop_at s at) an_expression c.first) ∙ first_expression_lem s (d - 1) b (stop_at s at) an_expression v.first in
      record {
        is = statement_of_lem s d at end f 67 (at + 16) e q ∙ λ i. assignment (location_at s at) (x i) (y i);
        target = wide _ _ _ c.first;
        value = wide _ _ _ v.first;
        ends = ended s (d - 1) (stop_at s b) (stop_at s at) Nothing refl v.rest;
      }

  pub statement_compound_assignment : kind_at s at ≡ 68 → CompoundAssignmentAt s d at
  unfolding shape_of due_in
  statement_compound_assignment e =
      let q : at + 16 + 0 ≡ at + 16 = omega arith in
      let b = second_at s at in
      let c = split_must s (d - 1) (at + 16) (stop_at s at) ExpressionThenCompound an_expression OneCompound refl (children_of_lem s d at end f 68 (at + 16) e q) in
      let v = split_must s (d - 1) b (stop_at s at) OneCompound a_compound Nothing refl c.rest in
      let x = first_expression_lem s (d - 1) (at + 16) (stop_at s at) an_expression c.first in
      let y = ap to_compound (next_records s (d - 1) (at + 16) (stop_at s at) an_expression c.first) ∙ first_compound s (d - 1) b (stop_at s at) a_compound v.first in
      record {
        is = statement_of_lem s d at end f 68 (at + 16) e q ∙ λ i. compound_assignment (location_at s at) (x i) (y i);
        target = wide _ _ _ c.first;
        value = wide _ _ _ v.first;
        ends = ended s (d - 1) (stop_at s b) (stop_at s at) Nothing refl v.rest;
      }

  pub statement_return : kind_at s at ≡ 69 → ReturnAt s d at
  unfolding shape_of due_in
  statement_return e =
      let q : at + 16 + 0 ≡ at + 16 = omega arith in
      record { is = statement_of_lem s d at end f 69 (at + 16) e q; value = children_of_lem s d at end f 69 (at + 16) e q }

  pub statement_loop : kind_at s at ≡ 70 → LoopAt s d at
  unfolding shape_of due_in
  statement_loop e =
      let q : at + 16 + 0 ≡ at + 16 = omega arith in
      let c = split_must s (d - 1) (at + 16) (stop_at s at) OneStatement a_statement Nothing refl (children_of_lem s d at end f 70 (at + 16) e q) in
      record {
        is = statement_of_lem s d at end f 70 (at + 16) e q ∙ ap (loop (location_at s at)) (first_statement_lem s (d - 1) (at + 16) (stop_at s at) a_statement c.first);
        body = wide _ _ _ c.first;
        ends = ended s (d - 1) (stop_at s (at + 16)) (stop_at s at) Nothing refl c.rest;
      }

  pub statement_while : kind_at s at ≡ 71 → WhileAt s d at
  unfolding shape_of due_in
  statement_while e =
      let q : at + 16 + 0 ≡ at + 16 = omega arith in
      let b = second_at s at in
      let c = split_must s (d - 1) (at + 16) (stop_at s at) ExpressionThenStatement an_expression OneStatement refl (children_of_lem s d at end f 71 (at + 16) e q) in
      let v = split_must s (d - 1) b (stop_at s at) OneStatement a_statement Nothing refl c.rest in
      let x = first_expression_lem s (d - 1) (at + 16) (stop_at s at) an_expression c.first in
      let y = ap first_statement (later_statements_lem s (d - 1) (at + 16) (stop_at s at) an_expression c.first) ∙ first_statement_lem s (d - 1) b (stop_at s at) a_statement v.first in
      record {
        is = statement_of_lem s d at end f 71 (at + 16) e q ∙ λ i. while (location_at s at) (x i) (y i);
        condition = wide _ _ _ c.first;
        body = wide _ _ _ v.first;
        ends = ended s (d - 1) (stop_at s b) (stop_at s at) Nothing refl v.rest;
      }

  pub statement_break : kind_at s at ≡ 72 → statement_at s d at ≡ break (location_at s at)
  unfolding shape_of due_in
  statement_break e = let q : at + 16 + 0 ≡ at + 16 = omega arith in statement_of_lem s d at end f 72 (at + 16) e q

  pub statement_assembly : kind_at s at ≡ 74 → statement_at s d at ≡ inline_assembly (location_at s at)
  unfolding shape_of due_in
  statement_assembly e = let q : at + 16 + 0 ≡ at + 16 = omega arith in statement_of_lem s d at end f 74 (at + 16) e q

  pub statement_if : kind_at s at ≡ 73 → IfAt s d at
  unfolding shape_of due_in
  statement_if e =
      let q : at + 16 + 0 ≡ at + 16 = omega arith in
      let b = second_at s at in
      let c = split_must s (d - 1) (at + 16) (stop_at s at) IfParts an_expression ThenPart refl (children_of_lem s d at end f 73 (at + 16) e q) in
      let v = split_must s (d - 1) b (stop_at s at) ThenPart a_statement OptionalStatement refl c.rest in
      let x = first_expression_lem s (d - 1) (at + 16) (stop_at s at) an_expression c.first in
      let y = later_statements_lem s (d - 1) (at + 16) (stop_at s at) an_expression c.first in
      record {
        condition = wide _ _ _ c.first;
        body = wide _ _ _ v.first;
        rest = v.rest;
        is = statement_of_lem s d at end f 73 (at + 16) e q ∙ λ i. if_of (location_at s at) (x i) (y i);
      }

-- The sides of an if: the first, and what is left after it
abbrev sides_of : Location → Expression → Statement → List Statement → Statement
sides_of l c t rest = cond (none_left rest) («if» l c t) (if_else l c t (first_statement rest))

module _ (s : List ℕ) (d at : ℕ) (f : IfAt s d at) where
  true_fine : FineRecord s (d - 1) (second_at s at) (stop_at s at) a_statement
  true_fine = fine_in s (d - 1) (second_at s at) (length s) (stop_at s at) a_statement f.body f.rest.part.starts f.rest.part.ends

  sides : statement_at s d at ≡ sides_of (location_at s at) (expression_at s (d - 1) (at + 16)) (statement_at s (d - 1) (second_at s at))
      (to_statements (records_at s (d - 1) (third_at s at) (stop_at s at)))
  sides =
      let x = first_statement_lem s (d - 1) (second_at s at) (stop_at s at) a_statement true_fine in
      let y = later_statements_lem s (d - 1) (second_at s at) (stop_at s at) a_statement true_fine in
      f.is ∙ λ i. sides_of (location_at s at) (expression_at s (d - 1) (at + 16)) (x i) (y i)

  pub if_only : third_at s at ≡ stop_at s at
      → statement_at s d at ≡ «if» (location_at s at) (expression_at s (d - 1) (at + 16)) (statement_at s (d - 1) (second_at s at))
  unfolding to_statements
  if_only p =
      let side = sides_of (location_at s at) (expression_at s (d - 1) (at + 16)) (statement_at s (d - 1) (second_at s at)) in
      sides ∙ ap (λ (x : ℕ). side (to_statements (records_at s (d - 1) x (stop_at s at)))) p ∙ ap (λ (r : Records). side (to_statements r)) (records_end s (d - 1) (stop_at s at))

  pub if_else_lem : (third_at s at ≡ stop_at s at → ⊥) → IfElseAt s d at
  unfolding due_in to_statements
  if_else_lem p =
      let b = third_at s at in
      let l = location_at s at in
      let x = expression_at s (d - 1) (at + 16) in
      let t = statement_at s (d - 1) (second_at s at) in
      let c = split_may s (d - 1) b (stop_at s at) OptionalStatement a_statement Nothing refl p f.rest in
      let r = records_cons s (d - 1) b (stop_at s at) a_statement c.first in
      record {
        is = sides ∙ ap (λ (u : Records). sides_of l x t (to_statements u)) r
            ∙ ap (λ (u : Statement). if_else l x t u) (sym (ap (λ (u : Records). first_statement (to_statements u)) r) ∙ first_statement_lem s (d - 1) b (stop_at s at) a_statement c.first);
        false_body = fine_wide s (d - 1) b (stop_at s at) a_statement c.first;
        ends = ended s (d - 1) (stop_at s b) (stop_at s at) Nothing refl c.rest;
      }

-- What a return has, from `at` to `end`
pub optional_none : (s : List ℕ) (d end : ℕ) → to_optional (records_at s d end end) ≡ none
optional_none s d end = ap to_optional (records_end s d end)

pub record OptionalAt (s : List ℕ) (d at end : ℕ) : Type 0 where
  pub is : to_optional (records_at s d at end) ≡ some (expression_at s d at)
  pub value : FineRecord s d at (length s) an_expression
  pub ends : stop_at s at ≡ end

pub optional_some : (s : List ℕ) (d at end : ℕ) → FineList s d at end OptionalExpression → (at ≡ end → ⊥) → OptionalAt s d at end
unfolding due_in
optional_some s d at end f p =
    let c = split_may s d at end OptionalExpression an_expression Nothing refl p f in
    let r = records_cons s d at end an_expression c.first in
    record {
      is = ap to_optional r ∙ ap (λ (x : Expression). some x) (sym (ap to_expression r) ∙ first_expression_lem s d at end an_expression c.first);
      value = fine_wide s d at end an_expression c.first;
      ends = ended s d (stop_at s at) end Nothing refl c.rest;
    }

-- What a variable starts with, from `at` to `end`
pub initial_none : (s : List ℕ) (d end : ℕ) → to_initial_value (records_at s d end end) ≡ no_value
initial_none s d end = ap to_initial_value (records_end s d end)

pub record PlainValueAt (s : List ℕ) (d at end : ℕ) : Type 0 where
  pub is : to_initial_value (records_at s d at end) ≡ assigned (expression_at s d at)
  pub value : FineRecord s d at (length s) an_expression

pub record CompoundValueAt (s : List ℕ) (d at end : ℕ) : Type 0 where
  pub is : to_initial_value (records_at s d at end) ≡ compounded (compound_at s d at)
  pub value : FineRecord s d at (length s) a_compound

either_class : (c : ℕ) → eqb c an_expression || eqb c a_compound ≡ true → (c ≡ an_expression → ⊥) → c ≡ a_compound
either_class c e n = eqb-true c a_compound (rw (ne_eqb c an_expression n) at e)

module _ (s : List ℕ) (d at end : ℕ) (f : FineList s d at end InitialValue) (p : at ≡ end → ⊥) where
  value_split : Split s d at end (may_be_either an_expression Nothing a_compound Nothing)
  unfolding due_in
  value_split = split_either s d at end InitialValue (may_be_either an_expression Nothing a_compound Nothing) refl refl p f

  -- a record below 48 is an expression, from 48 on a compound
  pub initial_expression : kind_at s at < 48 → PlainValueAt s d at end
  unfolding may_stand
  initial_expression q =
      let n : class_at s at ≡ a_compound → ⊥ = λ h. let k = (compound_kind (kind_at s at) h).0 in omega arith in
      let e : class_at s at ≡ an_expression = eqb-true (class_at s at) an_expression (simp (ne_eqb (class_at s at) a_compound n, or-false) at value_split.stands) in
      let g : FineRecord s d at end an_expression = subst (λ (c : ℕ). FineRecord s d at end c) e value_split.first in
      let r = records_cons s d at end an_expression g in
      record {
        is = ap to_initial_value r ∙ rw (ne_eqb (kind_at s at) 48 (omega arith), ne_eqb (kind_at s at) 49 (omega arith)) (ap assigned (sym (ap to_expression r) ∙ first_expression_lem s d at end an_expression g));
        value = fine_wide s d at end an_expression g;
      }

  pub initial_compound : 48 ≤ kind_at s at → CompoundValueAt s d at end
  unfolding may_stand
  initial_compound q =
      let n : class_at s at ≡ an_expression → ⊥ = λ h. let k = (expression_kind (kind_at s at) h).1 in omega arith in
      let e : class_at s at ≡ a_compound = either_class (class_at s at) value_split.stands n in
      let g : FineRecord s d at end a_compound = subst (λ (c : ℕ). FineRecord s d at end c) e value_split.first in
      let r = records_cons s d at end a_compound g in
      record {
        is = ap to_initial_value r ∙ rw (compound_test (kind_at s at) (compound_kind (kind_at s at) e)) (ap compounded (sym (ap to_compound r) ∙ first_compound s d at end a_compound g));
        value = fine_wide s d at end a_compound g;
      }
    where
      compound_test : (k : ℕ) → (48 ≤ k) × (k ≤ 49) → eqb k 48 || eqb k 49 ≡ true
      compound_test k h = go (eqb k 48) refl
        where
          go : (b : Bool) → eqb k 48 ≡ b → b || eqb k 49 ≡ true
          go true x = refl
          go false x = let y = eqb-false k 48 x in eq-eqb k 49 (omega (arith, y, h.0, h.1))

-- The kind of a tree is the kind of its record
unfoldable pub statement_kind : Statement → ℕ
statement_kind (block l members) = 64
statement_kind (expression l e) = 65
statement_kind (variable_declaration l name t value) = 66
statement_kind (assignment l target value) = 67
statement_kind (compound_assignment l target value) = 68
statement_kind (return l value) = 69
statement_kind (loop l body) = 70
statement_kind (while l condition body) = 71
statement_kind (break l) = 72
statement_kind («if» l condition body) = 73
statement_kind (if_else l condition trueBody false_body) = 73
statement_kind (inline_assembly l) = 74
statement_kind no_statements = 0
statement_kind (statement_then s rest) = 0

if_kind : (l : Location) (c : Expression) (b : Bool) (t u : Statement) → statement_kind (cond b («if» l c t) (if_else l c t u)) ≡ 73
unfolding statement_kind
if_kind l c true t u = refl
if_kind l c false t u = refl

pub kind_of_lem : (s : List ℕ) (d at end : ℕ) → FineRecord s d at end a_statement → statement_kind (statement_at s d at) ≡ kind_at s at
unfolding statement_kind shape_of due_in
kind_of_lem s d at end f =
    let r = statement-range (kind_at s at) (opened s d at end a_statement f).belongs in
    let e : kind_at s at ≡ 64 + (kind_at s at - 64) = omega (arith, r.0) in
    by_kind (kind_at s at - 64) (omega (arith, r.1)) e ∙ sym e
  where
    P : ℕ → Type 0
    P n = kind_at s at ≡ 64 + n → statement_kind (statement_at s d at) ≡ 64 + n

    plain : (k start : ℕ) (e : kind_at s at ≡ k) (q : at + 16 + 4 * (shape_of k).fields ≡ start)
        → statement_kind (statement_at s d at) ≡ statement_kind (statement_of (record_head_of k s at) (children_of s d at k start) (to_statements (children_of s d at k start)))
    plain k start e q = ap statement_kind (statement_of_lem s d at end f k start e q)

    by_kind : (n : ℕ) → n < 11 → P n
    by_kind = below_more P 10 (below_more P 9 (below_more P 8 (below_more P 7 (below_more P 6 (below_more P 5 (below_more P 4 (below_more P 3
        (below_more P 2 (below_more P 1 (below_more P 0 (below_none P)
        (λ e. plain 64 (at + 20) e (omega arith)))
        (λ e. plain 65 (at + 16) e (omega arith)))
        (λ e. plain 66 (at + 20) e (omega arith)))
        (λ e. plain 67 (at + 16) e (omega arith)))
        (λ e. plain 68 (at + 16) e (omega arith)))
        (λ e. plain 69 (at + 16) e (omega arith)))
        (λ e. plain 70 (at + 16) e (omega arith)))
        (λ e. plain 71 (at + 16) e (omega arith)))
        (λ e. plain 72 (at + 16) e (omega arith)))
        (λ e. ap statement_kind (statement_if s d at end f e).is ∙ if_kind (location_at s at) (expression_at s (d - 1) (at + 16))
        (none_left (later_statements (to_statements (records_at s (d - 1) (second_at s at) (stop_at s at)))))
        (first_statement (to_statements (records_at s (d - 1) (second_at s at) (stop_at s at))))
        (first_statement (later_statements (to_statements (records_at s (d - 1) (second_at s at) (stop_at s at)))))))
        (λ e. plain 74 (at + 16) e (omega arith))
