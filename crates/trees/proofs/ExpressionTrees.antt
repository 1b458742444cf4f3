-- Expression records by their places: the tree of an E record of each kind, and of a list of them, with what a walk over them needs. Assumes nothing.
use Prim.Native.Nat.{ℕ, ◌+◌, ◌-◌, ◌*◌, ◌≤◌, ◌<◌}
use mathlib.Core.Path.{◌≡◌, refl, sym, ◌∙◌, ap, ap₂, subst}
use mathlib.Core.Bool.{Bool, true, false, not, ◌&&◌, ◌||◌}
use mathlib.Core.List.{List, [], ◌∷◌}
use lib.ListN.{length}
use lib.Dec.{leb, eqb}
use native.Mathlib.Omega.{arith}
use borrow.Author.Tests.{leb-true, ltb-true, eq-eqb, not-false}
use Rattle.shape.specs.Shape.{pick, unlisted, no_field, shapes, look_up, shape_of, due_in, allowed, a_type, an_expression}
use Rattle.shape.specs.declared.Shape.{Shape}
use Rattle.shape.specs.declared.Holds.{Holds}
use Rattle.shape.specs.declared.Holds.TheVariants.{Nothing, OneType, OneExpression, TwoExpressions, CallParts, Expressions, ExpressionThenType}
use Rattle.shape.proofs.ShapeLaws.{and_both, expression_kind}
use Rattle.record_bytes.specs.Bytes.{word_at}
use Rattle.names.specs.Names.{name_count}
use Rattle.layout.specs.Layout.{kind_at, start_at, stop_at, is_bad}
use Rattle.node.specs.Fine.{FineRecord, FineList}
use Rattle.trees.specs.Tree.{Location, Expression, identifier, integer, boolean, string_literal, call, index, cast, pointer_take, pointer_dereference, field_access, bitwise_not, boolean_not, boolean_and, arithmetic_bin_op, comparison_bin_op, sizeof, no_expressions, expression_then}
use Rattle.trees.specs.Record.{Records, next, record_head_of, bytes_at, location_at, records_at, to_type, type_at, expression_of, to_expressions, expression_at, expressions_at, expression_list, first_expression, later_expressions, second_expression}
use Rattle.node.proofs.Open.{opened, opened_kind, split_must, split_may, ended}
use Rattle.trees.proofs.Decode.{fine_wide, records_end}
use Rattle.trees.proofs.TypeTrees.{inside_of, node_of, own_node, TypeRoom, room, one_type}

-- What holds of every line of the list of records holds of a kind's shape
all_rows : (Shape → Bool) → List (ℕ × Shape) → Bool
all_rows p [] = true
all_rows p (r ∷ rs) = p r.1 && all_rows p rs

of_any_kind : (p : Shape → Bool) (k : ℕ) (rows : List (ℕ × Shape)) → all_rows p rows ≡ true → p (no_field unlisted Nothing) ≡ true → p (look_up rows k) ≡ true
unfolding all_rows
of_any_kind p k [] a b = b
of_any_kind p k (r ∷ rs) a b = go (eqb k r.0) (and_both (p r.1) (all_rows p rs) a) (of_any_kind p k rs)
  where
    go : (t : Bool) → (p r.1 ≡ true) × (all_rows p rs ≡ true) → (all_rows p rs ≡ true → p (no_field unlisted Nothing) ≡ true → p (look_up rs k) ≡ true) → p (pick t r.1 (look_up rs k)) ≡ true
    go true q rest = q.0
    go false q rest = rest q.1 b

-- every E record has a slot
slotted : (k : ℕ) → (shape_of k).class ≡ an_expression → 1 ≤ (shape_of k).fields
unfolding shape_of all_rows
slotted k e = leb-true 1 (shape_of k).fields (rw (eq-eqb (shape_of k).class an_expression e) at (of_any_kind (λ (r : Shape). not (eqb r.class an_expression) || leb 1 r.fields) k shapes refl refl))

-- An E record of a known kind, by what is in it
pub expression_of_lem : (s : List ℕ) (d at end k : ℕ) → FineRecord s d at end an_expression → kind_at s at ≡ k
    → expression_at s d at ≡ expression_of (record_head_of k s at) (bytes_at s at) (to_expressions (inside_of k s d at)) (to_type (inside_of k s d at)) (to_type (next (inside_of k s d at)))
unfolding to_expressions
expression_of_lem s d at end k f e = ap (λ (r : Records). first_expression (to_expressions r)) (own_node s d at end an_expression k f e)

-- The first of a list of E records, and the rest
pub expressions_cons : (s : List ℕ) (d a b : ℕ) → FineRecord s d a b an_expression
    → to_expressions (records_at s d a b) ≡ expression_at s d a ∷ to_expressions (records_at s d (stop_at s a) b)
unfolding to_expressions
expressions_cons s d a b f =
    let k = kind_at s a in
    ap to_expressions (node_of s d a b an_expression k f refl)
    ∙ ap (λ (x : Expression). x ∷ to_expressions (records_at s d (stop_at s a) b)) (sym (expression_of_lem s d a b k f refl))

pub expressions_end : (s : List ℕ) (d b : ℕ) → to_expressions (records_at s d b b) ≡ []
unfolding to_expressions
expressions_end s d b = ap to_expressions (records_end s d b)

-- One E
pub record OneOperand (s : List ℕ) (d a b : ℕ) : Type 0 where
  pub fine : FineRecord s d a (length s) an_expression
  pub stops : stop_at s a ≡ b
  pub trees : to_expressions (records_at s d a b) ≡ expression_at s d a ∷ []

pub one_expression : (s : List ℕ) (d a b : ℕ) → FineList s d a b OneExpression → OneOperand s d a b
unfolding due_in
one_expression s d a b l =
    let p = split_must s d a b OneExpression an_expression Nothing refl l in
    let e = ended s d (stop_at s a) b Nothing refl p.rest in
    record {
      fine = fine_wide s d a b an_expression p.first;
      stops = e;
      trees = expressions_cons s d a b p.first ∙ ap (λ (x : ℕ). expression_at s d a ∷ to_expressions (records_at s d x b)) e ∙ ap (λ (l : List Expression). expression_at s d a ∷ l) (expressions_end s d b);
    }

-- Two Es
pub record TwoOperands (s : List ℕ) (d a b : ℕ) : Type 0 where
  pub first : FineRecord s d a (length s) an_expression
  pub second : FineRecord s d (stop_at s a) (length s) an_expression
  pub stops : stop_at s (stop_at s a) ≡ b
  pub trees : to_expressions (records_at s d a b) ≡ expression_at s d a ∷ expression_at s d (stop_at s a) ∷ []

pub two_expressions : (s : List ℕ) (d a b : ℕ) → FineList s d a b TwoExpressions → TwoOperands s d a b
unfolding due_in
two_expressions s d a b l =
    let p = split_must s d a b TwoExpressions an_expression OneExpression refl l in
    let q = one_expression s d (stop_at s a) b p.rest in
    record {
      first = fine_wide s d a b an_expression p.first;
      second = q.fine;
      stops = q.stops;
      trees = expressions_cons s d a b p.first ∙ ap (λ (l : List Expression). expression_at s d a ∷ l) q.trees;
    }

-- E target, E arguments
pub record CallOperands (s : List ℕ) (d a b : ℕ) : Type 0 where
  pub target : FineRecord s d a (length s) an_expression
  pub arguments : FineList s d (stop_at s a) b Expressions
  pub trees : to_expressions (records_at s d a b) ≡ expression_at s d a ∷ to_expressions (records_at s d (stop_at s a) b)

pub call_operands : (s : List ℕ) (d a b : ℕ) → FineList s d a b CallParts → CallOperands s d a b
unfolding due_in
call_operands s d a b l =
    let p = split_must s d a b CallParts an_expression Expressions refl l in
    record { target = fine_wide s d a b an_expression p.first; arguments = p.rest; trees = expressions_cons s d a b p.first }

-- E, T
pub record CastOperands (s : List ℕ) (d a b : ℕ) : Type 0 where
  pub value : FineRecord s d a (length s) an_expression
  pub type : FineRecord s d (stop_at s a) (length s) a_type
  pub stops : stop_at s (stop_at s a) ≡ b
  pub tree : first_expression (to_expressions (records_at s d a b)) ≡ expression_at s d a
  pub type_tree : to_type (next (records_at s d a b)) ≡ type_at s d (stop_at s a)

pub cast_operands : (s : List ℕ) (d a b : ℕ) → FineList s d a b ExpressionThenType → CastOperands s d a b
unfolding due_in
cast_operands s d a b l =
    let p = split_must s d a b ExpressionThenType an_expression OneType refl l in
    let q = one_type s d (stop_at s a) b p.rest in
    record {
      value = fine_wide s d a b an_expression p.first;
      type = q.fine;
      stops = q.stops;
      tree = ap first_expression (expressions_cons s d a b p.first);
      type_tree = ap (λ (r : Records). to_type (next r)) (node_of s d a b an_expression (kind_at s a) p.first refl) ∙ ap (λ (x : ℕ). to_type (records_at s d (stop_at s a) x)) (sym q.stops);
    }

-- A list of Es: none are left, or one and the rest
pub expressions_none : (s : List ℕ) (d from end : ℕ) → end ≤ from → FineList s d from end Expressions → expressions_at s d from end ≡ no_expressions
unfolding expression_list
expressions_none s d from end p l =
    let e : from ≡ end = omega (arith, l.part.starts) in
    ap expression_list (ap (λ (x : ℕ). to_expressions (records_at s d x end)) e ∙ expressions_end s d end)

pub record ListOperands (s : List ℕ) (d from end : ℕ) : Type 0 where
  pub first : FineRecord s d from (length s) an_expression
  pub fits : stop_at s from ≤ end
  pub rest : FineList s d (stop_at s from) end Expressions
  pub tree : expressions_at s d from end ≡ expression_then (expression_at s d from) (expressions_at s d (stop_at s from) end)

pub list_operands : (s : List ℕ) (d from end : ℕ) → from < end → FineList s d from end Expressions → ListOperands s d from end
unfolding due_in expression_list
list_operands s d from end p l =
    let m = split_may s d from end Expressions an_expression Expressions refl (λ (e : from ≡ end). omega arith) l in
    record {
      first = fine_wide s d from end an_expression m.first;
      fits = (opened s d from end an_expression m.first).room;
      rest = m.rest;
      tree = ap expression_list (expressions_cons s d from end m.first);
    }

module _ (s : List ℕ) (d at : ℕ) (f : FineRecord s d at (length s) an_expression) where
  abbrev here : Location
  here = location_at s at

  -- What is in a record of a known kind that holds this, after fields to place a
  inside : (k a : ℕ) (h : Holds) → kind_at s at ≡ k → (shape_of k).holds ≡ h → at + 16 + 4 * (shape_of k).fields ≡ a → FineList s (d - 1) a (stop_at s at) h
  inside k a h e p q =
      let o = opened_kind s d at (length s) an_expression k f e in
      subst (λ (x : Holds). FineList s (d - 1) a (stop_at s at) x) p (subst (λ (x : ℕ). FineList s (d - 1) x (stop_at s at) (shape_of k).holds) q o.children)

  roomy : (k : ℕ) → kind_at s at ≡ k → TypeRoom s d at (shape_of k).fields
  roomy k e = room s d at (length s) an_expression k (at + 16 + 4 * (shape_of k).fields) (stop_at s at) (opened_kind s d at (length s) an_expression k f e)

  -- 32: a name
  pub record IdentifierParts : Type 0 where
    pub room : TypeRoom s d at 2
    pub known : word_at s (at + 20) < name_count s
    pub tree : expression_at s d at ≡ identifier here (word_at s (at + 20))

  pub identifier_parts : kind_at s at ≡ 32 → IdentifierParts
  unfolding shape_of due_in is_bad allowed
  identifier_parts e =
      let o = opened_kind s d at (length s) an_expression 32 f e in
      record {
        room = roomy 32 e;
        known = ltb-true (word_at s (at + 20)) (name_count s) (not-false _ o.second);
        tree = expression_of_lem s d at (length s) 32 f e;
      }

  -- 33: a literal
  pub record IntegerParts : Type 0 where
    pub room : TypeRoom s d at 2
    pub tree : expression_at s d at ≡ integer here (word_at s (at + 20)) (bytes_at s at)
    pub starts : start_at s at ≡ at + 24

  pub integer_parts : kind_at s at ≡ 33 → IntegerParts
  unfolding shape_of due_in
  integer_parts e =
      record {
        room = roomy 33 e;
        tree = expression_of_lem s d at (length s) 33 f e;
        starts = ap (λ (k : ℕ). at + 16 + 4 * (shape_of k).fields) e ∙ omega arith;
      }

  -- 34, 35: a boolean, a string
  pub boolean_tree : kind_at s at ≡ 34 → expression_at s d at ≡ boolean here
  unfolding shape_of due_in
  boolean_tree e = expression_of_lem s d at (length s) 34 f e

  pub string_tree : kind_at s at ≡ 35 → expression_at s d at ≡ string_literal here
  unfolding shape_of due_in
  string_tree e = expression_of_lem s d at (length s) 35 f e

  -- 39, 40, 42, 43: one operand after the slot
  pub record OperandParts (whole : Expression → Expression) (a : ℕ) : Type 0 where
    pub operand : FineRecord s (d - 1) a (length s) an_expression
    pub stops : stop_at s a ≡ stop_at s at
    pub tree : expression_at s d at ≡ whole (expression_at s (d - 1) a)

  one_part : (k a : ℕ) (whole : Expression → Expression) → kind_at s at ≡ k → (shape_of k).holds ≡ OneExpression → at + 16 + 4 * (shape_of k).fields ≡ a
      → ((es : List Expression) → to_expressions (records_at s (d - 1) a (stop_at s at)) ≡ es → expression_at s d at ≡ whole (first_expression es)) → OperandParts whole a
  one_part k a whole e p q t =
      let o = one_expression s (d - 1) a (stop_at s at) (inside k a OneExpression e p q) in
      record { operand = o.fine; stops = o.stops; tree = t (expression_at s (d - 1) a ∷ []) o.trees }

  -- the trees of the operands by their place
  moved : (k a : ℕ) (es : List Expression) → at + 16 + 4 * (shape_of k).fields ≡ a → to_expressions (records_at s (d - 1) a (stop_at s at)) ≡ es
      → to_expressions (records_at s (d - 1) (at + 16 + 4 * (shape_of k).fields) (stop_at s at)) ≡ es
  moved k a es q e = ap (λ (x : ℕ). to_expressions (records_at s (d - 1) x (stop_at s at))) q ∙ e

  pub take_parts : kind_at s at ≡ 39 → OperandParts (pointer_take here) (at + 20)
  unfolding shape_of due_in
  take_parts e =
      one_part 39 (at + 20) (pointer_take here) e refl (omega arith)
      (λ es x. expression_of_lem s d at (length s) 39 f e ∙ ap (λ (l : List Expression). pointer_take here (first_expression l)) (moved 39 (at + 20) es (omega arith) x))

  pub dereference_parts : kind_at s at ≡ 40 → OperandParts (pointer_dereference here) (at + 20)
  unfolding shape_of due_in
  dereference_parts e =
      one_part 40 (at + 20) (pointer_dereference here) e refl (omega arith)
      (λ es x. expression_of_lem s d at (length s) 40 f e ∙ ap (λ (l : List Expression). pointer_dereference here (first_expression l)) (moved 40 (at + 20) es (omega arith) x))

  pub field_access_parts : kind_at s at ≡ 41 → OperandParts (field_access here (word_at s (at + 20))) (at + 24)
  unfolding shape_of due_in
  field_access_parts e =
      one_part 41 (at + 24) (field_access here (word_at s (at + 20))) e refl (omega arith)
      (λ es x. expression_of_lem s d at (length s) 41 f e ∙ ap (λ (l : List Expression). field_access here (word_at s (at + 20)) (first_expression l)) (moved 41 (at + 24) es (omega arith) x))

  pub bitwise_parts : kind_at s at ≡ 42 → OperandParts (bitwise_not here) (at + 20)
  unfolding shape_of due_in
  bitwise_parts e =
      one_part 42 (at + 20) (bitwise_not here) e refl (omega arith)
      (λ es x. expression_of_lem s d at (length s) 42 f e ∙ ap (λ (l : List Expression). bitwise_not here (first_expression l)) (moved 42 (at + 20) es (omega arith) x))

  pub not_parts : kind_at s at ≡ 43 → OperandParts (boolean_not here) (at + 20)
  unfolding shape_of due_in
  not_parts e =
      one_part 43 (at + 20) (boolean_not here) e refl (omega arith)
      (λ es x. expression_of_lem s d at (length s) 43 f e ∙ ap (λ (l : List Expression). boolean_not here (first_expression l)) (moved 43 (at + 20) es (omega arith) x))

  -- 37, 44, 45, 46: two operands
  pub record OperandsParts (whole : Expression → Expression → Expression) (a : ℕ) : Type 0 where
    pub left : FineRecord s (d - 1) a (length s) an_expression
    pub right : FineRecord s (d - 1) (stop_at s a) (length s) an_expression
    pub stops : stop_at s (stop_at s a) ≡ stop_at s at
    pub tree : expression_at s d at ≡ whole (expression_at s (d - 1) a) (expression_at s (d - 1) (stop_at s a))

  two_parts : (k a : ℕ) (whole : Expression → Expression → Expression) → kind_at s at ≡ k → (shape_of k).holds ≡ TwoExpressions → at + 16 + 4 * (shape_of k).fields ≡ a
      → ((es : List Expression) → to_expressions (records_at s (d - 1) a (stop_at s at)) ≡ es → expression_at s d at ≡ whole (first_expression es) (second_expression es)) → OperandsParts whole a
  two_parts k a whole e p q t =
      let o = two_expressions s (d - 1) a (stop_at s at) (inside k a TwoExpressions e p q) in
      record { left = o.first; right = o.second; stops = o.stops; tree = t (expression_at s (d - 1) a ∷ expression_at s (d - 1) (stop_at s a) ∷ []) o.trees }

  pub index_parts : kind_at s at ≡ 37 → OperandsParts (index here) (at + 20)
  unfolding shape_of due_in
  index_parts e =
      two_parts 37 (at + 20) (index here) e refl (omega arith)
      (λ es x. expression_of_lem s d at (length s) 37 f e ∙ ap (λ (l : List Expression). index here (first_expression l) (second_expression l)) (moved 37 (at + 20) es (omega arith) x))

  pub and_parts : kind_at s at ≡ 44 → OperandsParts (boolean_and here) (at + 20)
  unfolding shape_of due_in
  and_parts e =
      two_parts 44 (at + 20) (boolean_and here) e refl (omega arith)
      (λ es x. expression_of_lem s d at (length s) 44 f e ∙ ap (λ (l : List Expression). boolean_and here (first_expression l) (second_expression l)) (moved 44 (at + 20) es (omega arith) x))

  pub arithmetic_parts : kind_at s at ≡ 45 → OperandsParts (arithmetic_bin_op here (word_at s (at + 20))) (at + 24)
  unfolding shape_of due_in
  arithmetic_parts e =
      two_parts 45 (at + 24) (arithmetic_bin_op here (word_at s (at + 20))) e refl (omega arith)
      (λ es x. expression_of_lem s d at (length s) 45 f e ∙ ap (λ (l : List Expression). arithmetic_bin_op here (word_at s (at + 20)) (first_expression l) (second_expression l)) (moved 45 (at + 24) es (omega arith) x))

  pub comparison_parts : kind_at s at ≡ 46 → OperandsParts (comparison_bin_op here (word_at s (at + 20))) (at + 24)
  unfolding shape_of due_in
  comparison_parts e =
      two_parts 46 (at + 24) (comparison_bin_op here (word_at s (at + 20))) e refl (omega arith)
      (λ es x. expression_of_lem s d at (length s) 46 f e ∙ ap (λ (l : List Expression). comparison_bin_op here (word_at s (at + 20)) (first_expression l) (second_expression l)) (moved 46 (at + 24) es (omega arith) x))

  -- 36: a call
  pub record CallTree : Type 0 where
    pub target : FineRecord s (d - 1) (at + 20) (length s) an_expression
    pub arguments : FineList s (d - 1) (stop_at s (at + 20)) (stop_at s at) Expressions
    pub tree : expression_at s d at ≡ call here (expression_at s (d - 1) (at + 20)) (expressions_at s (d - 1) (stop_at s (at + 20)) (stop_at s at))

  pub call_parts : kind_at s at ≡ 36 → CallTree
  unfolding shape_of due_in
  call_parts e =
      let q : at + 16 + 4 * 1 ≡ at + 20 = omega arith in
      let o = call_operands s (d - 1) (at + 20) (stop_at s at) (inside 36 (at + 20) CallParts e refl q) in
      record {
        target = o.target;
        arguments = o.arguments;
        tree = expression_of_lem s d at (length s) 36 f e ∙ ap (λ (l : List Expression). call here (first_expression l) (expression_list (later_expressions l))) (moved 36 (at + 20) _ q o.trees);
      }

  -- 38: a cast
  pub record CastTree : Type 0 where
    pub value : FineRecord s (d - 1) (at + 20) (length s) an_expression
    pub type : FineRecord s (d - 1) (stop_at s (at + 20)) (length s) a_type
    pub stops : stop_at s (stop_at s (at + 20)) ≡ stop_at s at
    pub tree : expression_at s d at ≡ cast here (expression_at s (d - 1) (at + 20)) (type_at s (d - 1) (stop_at s (at + 20)))

  pub cast_parts : kind_at s at ≡ 38 → CastTree
  unfolding shape_of due_in
  cast_parts e =
      let q : at + 16 + 4 * 1 ≡ at + 20 = omega arith in
      let o = cast_operands s (d - 1) (at + 20) (stop_at s at) (inside 38 (at + 20) ExpressionThenType e refl q) in
      record {
        value = o.value;
        type = o.type;
        stops = o.stops;
        tree =
            expression_of_lem s d at (length s) 38 f e
            ∙ ap (λ (x : ℕ). cast here (first_expression (to_expressions (records_at s (d - 1) x (stop_at s at)))) (to_type (next (records_at s (d - 1) x (stop_at s at))))) q
            ∙ ap₂ (cast here) o.tree o.type_tree;
      }

  -- 47: sizeof
  pub record SizeofTree : Type 0 where
    pub type : FineRecord s (d - 1) (at + 20) (length s) a_type
    pub stops : stop_at s (at + 20) ≡ stop_at s at
    pub tree : expression_at s d at ≡ sizeof here (type_at s (d - 1) (at + 20))

  pub sizeof_parts : kind_at s at ≡ 47 → SizeofTree
  unfolding shape_of due_in
  sizeof_parts e =
      let q : at + 16 + 4 * 1 ≡ at + 20 = omega arith in
      let o = one_type s (d - 1) (at + 20) (stop_at s at) (inside 47 (at + 20) OneType e refl q) in
      record {
        type = o.fine;
        stops = o.stops;
        tree =
            expression_of_lem s d at (length s) 47 f e
            ∙ ap (λ (x : ℕ). sizeof here (to_type (records_at s (d - 1) x (stop_at s at)))) q
            ∙ ap (λ (x : ℕ). sizeof here (to_type (records_at s (d - 1) (at + 20) x))) (sym o.stops);
      }

  -- The bounds of any E record: its slot is in the file
  pub record ExpressionRoom : Type 0 where
    pub deep : 1 ≤ d
    pub slot : at + 20 ≤ stop_at s at
    pub ends : stop_at s at ≤ length s
    pub few : length s ≤ 65536
    pub low : 32 ≤ kind_at s at
    pub high : kind_at s at ≤ 47

  pub expression_room : ExpressionRoom
  expression_room =
      let o = opened s d at (length s) an_expression f in
      let k = expression_kind (kind_at s at) o.belongs in
      record { deep = o.deep; slot = omega (arith, slotted (kind_at s at) o.belongs, o.body); ends = o.room; few = o.few; low = k.0; high = k.1 }
