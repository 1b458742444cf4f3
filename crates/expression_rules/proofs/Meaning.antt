-- The rules are what `type_check_expression` says of each kind. Assumes nothing.
use Prim.Native.Nat.{ℕ}
use mathlib.Core.Path.{refl, sym}
use mathlib.Core.List.{◌++◌, append-nil, append_assoc}
use Rattle.types.specs.Ty.{is, bool_kind}
use Rattle.trees.specs.Tree.{Location, Expression, index, pointer_take, pointer_dereference, field_access, bitwise_not, boolean_not, boolean_and, arithmetic_bin_op, comparison_bin_op}
use Rattle.meaning.specs.TypeError.{unless, left_not_boolean, right_not_boolean}
use Rattle.meaning.specs.Expression.{expression_type, expression_errors, expression_slots}
use Rattle.expression_rules.specs.Rules.{UnaryNode, BinaryNode}

module _ (l : Location) (name : ℕ) (e : Expression) where
  pub pointer_take_node : UnaryNode 39 l name e (pointer_take l e)
  unfolding expression_type expression_errors expression_slots
  pointer_take_node = record { type = λ ctx. refl; errors = λ ctx. sym (append-nil (expression_errors ctx e)); slots = λ ctx. refl }

  pub dereference_node : UnaryNode 40 l name e (pointer_dereference l e)
  unfolding expression_type expression_errors expression_slots
  dereference_node = record { type = λ ctx. refl; errors = λ ctx. refl; slots = λ ctx. refl }

  pub field_access_node : UnaryNode 41 l name e (field_access l name e)
  unfolding expression_type expression_errors expression_slots
  field_access_node = record { type = λ ctx. refl; errors = λ ctx. refl; slots = λ ctx. refl }

  pub bitwise_not_node : UnaryNode 42 l name e (bitwise_not l e)
  unfolding expression_type expression_errors expression_slots
  bitwise_not_node = record { type = λ ctx. refl; errors = λ ctx. refl; slots = λ ctx. refl }

  pub boolean_not_node : UnaryNode 43 l name e (boolean_not l e)
  unfolding expression_type expression_errors expression_slots
  boolean_not_node = record { type = λ ctx. refl; errors = λ ctx. refl; slots = λ ctx. refl }

module _ (l : Location) (operator : ℕ) (a b : Expression) where
  pub index_node : BinaryNode 37 l operator a b (index l a b)
  unfolding expression_type expression_errors expression_slots
  index_node = record { type = λ ctx. refl; errors = λ ctx. refl; slots = λ ctx. refl }

  pub boolean_and_node : BinaryNode 44 l operator a b (boolean_and l a b)
  unfolding expression_type expression_errors expression_slots
  boolean_and_node =
      record {
        type = λ ctx. refl;
        errors = λ ctx.
            let t = expression_type ctx a in
            let u = expression_type ctx b in
            append_assoc (expression_errors ctx a ++ expression_errors ctx b) (unless (is bool_kind t) (left_not_boolean l t)) (unless (is bool_kind u) (right_not_boolean l u));
        slots = λ ctx. refl;
      }

  pub arithmetic_node : BinaryNode 45 l operator a b (arithmetic_bin_op l operator a b)
  unfolding expression_type expression_errors expression_slots
  arithmetic_node = record { type = λ ctx. refl; errors = λ ctx. refl; slots = λ ctx. refl }

  pub comparison_node : BinaryNode 46 l operator a b (comparison_bin_op l operator a b)
  unfolding expression_type expression_errors expression_slots
  comparison_node = record { type = λ ctx. refl; errors = λ ctx. refl; slots = λ ctx. refl }
