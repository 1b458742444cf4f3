-- Trees that differ only in the places of their records mean the same: the meaning puts a place into a slot or the error of a bad literal, and
-- looks at it nowhere else.
-- Assumes nothing.
use Prim.Native.Nat.{ℕ, ◌+◌}
use mathlib.Core.Path.{◌≡◌, refl, sym, ◌∙◌, ap, ap₂}
use mathlib.Core.Bool.{Bool, true, false, cond}
use mathlib.Core.List.{List, [], ◌∷◌, ◌++◌, map, map-append, map-id}
use lib.Dec.{eqb}
use Rattle.types.specs.Ty.{Ty, end, node, pointer, array, struct, field, is, first_of, second_of, u16_kind}
use Rattle.trees.specs.Tree.{Location, location, TypeNode, name_type, void_type, pointer_type, array_type, struct_type, no_fields, field_then}
use Rattle.trees.specs.Tree.{Expression, identifier, integer, boolean, string_literal, call, index, cast, pointer_take, pointer_dereference, field_access, bitwise_not, boolean_not, boolean_and, arithmetic_bin_op, comparison_bin_op, sizeof, no_expressions, expression_then}
use Rattle.fallible.specs.Operands.{literal_kind}
use Rattle.meaning.specs.TypeError.{TypeError, unless, invalid_argument, invalid_index, move_place}
use Rattle.meaning.specs.Context.{ModuleContext, Context}
use Rattle.meaning.specs.Convert.{Slot, convert_node_type, conversion_errors, conversion_slots}
use Rattle.meaning.specs.Expression.{location_of, expression_type, argument_errors, expression_errors, expression_slots}

-- A location with another place
abbrev pub moved : (ℕ → ℕ) → Location → Location
moved g l = location (g l.at) l.file l.line l.column

-- A location without its place
abbrev pub placeless : Location → Location
placeless l = location 0 l.file l.line l.column

abbrev pub move_slot : (ℕ → ℕ) → Slot → Slot
move_slot g s = record { at = g s.at; type = s.type }

unfoldable pub move_type : (ℕ → ℕ) → TypeNode → TypeNode
move_type g (name_type l name) = name_type (moved g l) name
move_type g (void_type l) = void_type (moved g l)
move_type g (pointer_type l t) = pointer_type (moved g l) (move_type g t)
move_type g (array_type l size t) = array_type (moved g l) size (move_type g t)
move_type g (struct_type l fields) = struct_type (moved g l) (move_type g fields)
move_type g no_fields = no_fields
move_type g (field_then name t rest) = field_then name (move_type g t) (move_type g rest)

unfoldable pub move_expression : (ℕ → ℕ) → Expression → Expression
move_expression g (identifier l name) = identifier (moved g l) name
move_expression g (integer l base digits) = integer (moved g l) base digits
move_expression g (boolean l) = boolean (moved g l)
move_expression g (string_literal l) = string_literal (moved g l)
move_expression g (call l target arguments) = call (moved g l) (move_expression g target) (move_expression g arguments)
move_expression g (index l target i) = index (moved g l) (move_expression g target) (move_expression g i)
move_expression g (cast l e t) = cast (moved g l) (move_expression g e) (move_type g t)
move_expression g (pointer_take l e) = pointer_take (moved g l) (move_expression g e)
move_expression g (pointer_dereference l e) = pointer_dereference (moved g l) (move_expression g e)
move_expression g (field_access l name e) = field_access (moved g l) name (move_expression g e)
move_expression g (bitwise_not l e) = bitwise_not (moved g l) (move_expression g e)
move_expression g (boolean_not l e) = boolean_not (moved g l) (move_expression g e)
move_expression g (boolean_and l a b) = boolean_and (moved g l) (move_expression g a) (move_expression g b)
move_expression g (arithmetic_bin_op l operator a b) = arithmetic_bin_op (moved g l) operator (move_expression g a) (move_expression g b)
move_expression g (comparison_bin_op l operator a b) = comparison_bin_op (moved g l) operator (move_expression g a) (move_expression g b)
move_expression g (sizeof l t) = sizeof (moved g l) (move_type g t)
move_expression g no_expressions = no_expressions
move_expression g (expression_then e rest) = expression_then (move_expression g e) (move_expression g rest)

-- The errors of a choice
pub either_errors : (f : TypeError → TypeError) (x : Bool) (a b : List TypeError) → map f (cond x a b) ≡ cond x (map f a) (map f b)
either_errors f true a b = refl
either_errors f false a b = refl

-- The errors of a test and of what follows it
pub unless_then : (f : TypeError → TypeError) (x : Bool) (e : TypeError) (a b : List TypeError) → b ≡ map f a → unless x (f e) ++ b ≡ map f (unless x e ++ a)
unless_then f true e a b p = p
unless_then f false e a b p = ap (λ (l : List TypeError). f e ∷ l) p

-- Those of a choice of that or of none
unless_where : (f : TypeError → TypeError) (k x : Bool) (e : TypeError) (a b : List TypeError) → b ≡ map f a
    → cond k (unless x (f e) ++ b) [] ≡ map f (cond k (unless x e ++ a) [])
unless_where f true x e a b p = unless_then f x e a b p
unless_where f false x e a b p = refl

-- Types
module _ (g : ℕ → ℕ) (ctx : ModuleContext) where
  type_moved : (t : TypeNode) → convert_node_type ctx (move_type g t) ≡ convert_node_type ctx t
  unfolding convert_node_type move_type
  type_moved (name_type l name) = refl
  type_moved (void_type l) = refl
  type_moved (pointer_type l t) = ap pointer (type_moved t)
  type_moved (array_type l size t) = ap (λ x. array x size) (type_moved t)
  type_moved (struct_type l fields) = ap struct (type_moved fields)
  type_moved no_fields = refl
  type_moved (field_then name t rest) = ap₂ (λ x y. field x y name) (type_moved t) (type_moved rest)

  type_errors_lem : (t : TypeNode) → conversion_errors ctx (move_type g t) ≡ conversion_errors ctx t
  unfolding conversion_errors move_type
  type_errors_lem (name_type l name) = refl
  type_errors_lem (void_type l) = refl
  type_errors_lem (pointer_type l t) = type_errors_lem t
  type_errors_lem (array_type l size t) = type_errors_lem t
  type_errors_lem (struct_type l fields) = type_errors_lem fields
  type_errors_lem no_fields = refl
  type_errors_lem (field_then name t rest) = ap₂ ◌++◌ (type_errors_lem t) (type_errors_lem rest)

  -- which have no places
  pub conversion_places : (t : TypeNode) → map (move_place g) (conversion_errors ctx t) ≡ conversion_errors ctx t
  unfolding conversion_errors
  conversion_places (name_type l name) = simp either_errors
  conversion_places (void_type l) = refl
  conversion_places (pointer_type l t) = conversion_places t
  conversion_places (array_type l size t) = conversion_places t
  conversion_places (struct_type l fields) = conversion_places fields
  conversion_places no_fields = refl
  conversion_places (field_then name t rest) = simp (map-append, conversion_places t, conversion_places rest)

  type_slots_lem : (t : TypeNode) → conversion_slots ctx (move_type g t) ≡ map (move_slot g) (conversion_slots ctx t)
  unfolding conversion_slots convert_node_type move_type
  type_slots_lem (name_type l name) = refl
  type_slots_lem (void_type l) = refl
  type_slots_lem (pointer_type l t) = rw (type_moved t, type_slots_lem t)
  type_slots_lem (array_type l size t) = rw (type_moved t, type_slots_lem t)
  type_slots_lem (struct_type l fields) = rw (type_moved fields, type_slots_lem fields)
  type_slots_lem no_fields = refl
  type_slots_lem (field_then name t rest) = rw (type_slots_lem t, type_slots_lem rest, map-append)

-- Expressions
expression_location : (g : ℕ → ℕ) (e : Expression) → placeless (location_of (move_expression g e)) ≡ placeless (location_of e)
unfolding location_of move_expression
expression_location g (identifier l name) = refl
expression_location g (integer l base digits) = refl
expression_location g (boolean l) = refl
expression_location g (string_literal l) = refl
expression_location g (call l target arguments) = refl
expression_location g (index l target i) = refl
expression_location g (cast l e t) = refl
expression_location g (pointer_take l e) = refl
expression_location g (pointer_dereference l e) = refl
expression_location g (field_access l name e) = refl
expression_location g (bitwise_not l e) = refl
expression_location g (boolean_not l e) = refl
expression_location g (boolean_and l a b) = refl
expression_location g (arithmetic_bin_op l operator a b) = refl
expression_location g (comparison_bin_op l operator a b) = refl
expression_location g (sizeof l t) = refl
expression_location g no_expressions = refl
expression_location g (expression_then e rest) = refl

-- Errors other than a bad literal's say nothing of a place
argument_errors_lem : (g : ℕ → ℕ) (l : Location) (i : ℕ) (parameters arguments : Ty)
    → argument_errors (moved g l) i parameters arguments ≡ map (move_place g) (argument_errors l i parameters arguments)
unfolding argument_errors
argument_errors_lem g l i end arguments = refl
argument_errors_lem g l i (node k t rest s n) arguments =
    unless_where (move_place g) _ _ (invalid_argument l i t (first_of arguments)) _ _ (argument_errors_lem g l (i + 1) rest (second_of arguments))

module _ (g : ℕ → ℕ) (ctx : Context) where
  expression_type_lem : (e : Expression) → expression_type ctx (move_expression g e) ≡ expression_type ctx e
  unfolding expression_type move_expression
  expression_type_lem (identifier l name) = refl
  expression_type_lem (integer l base digits) = refl
  expression_type_lem (boolean l) = refl
  expression_type_lem (string_literal l) = refl
  expression_type_lem (call l target arguments) = rw (expression_type_lem target)
  expression_type_lem (index l target i) = rw (expression_type_lem target)
  expression_type_lem (cast l e t) = type_moved g ctx.in_module t
  expression_type_lem (pointer_take l e) = rw (expression_type_lem e)
  expression_type_lem (pointer_dereference l e) = rw (expression_type_lem e)
  expression_type_lem (field_access l name e) = rw (expression_type_lem e)
  expression_type_lem (bitwise_not l e) = expression_type_lem e
  expression_type_lem (boolean_not l e) = expression_type_lem e
  expression_type_lem (boolean_and l a b) = expression_type_lem a
  expression_type_lem (arithmetic_bin_op l operator a b) = rw (expression_type_lem a)
  expression_type_lem (comparison_bin_op l operator a b) = refl
  expression_type_lem (sizeof l t) = refl
  expression_type_lem no_expressions = refl
  expression_type_lem (expression_then e rest) = rw (expression_type_lem e, expression_type_lem rest)

  expression_errors_lem : (e : Expression) → expression_errors ctx (move_expression g e) ≡ map (move_place g) (expression_errors ctx e)
  unfolding expression_errors move_expression
  expression_errors_lem (identifier l name) = simp either_errors
  expression_errors_lem (integer l base digits) = simp either_errors
  expression_errors_lem (boolean l) = refl
  expression_errors_lem (string_literal l) = refl
  expression_errors_lem (call l target arguments) =
      rw (
        expression_errors_lem target,
        expression_errors_lem arguments,
        expression_type_lem target,
        expression_type_lem arguments,
        argument_errors_lem g l 1 (second_of (expression_type ctx target)) (expression_type ctx arguments),
      )
      (simp (either_errors, map-append))
  expression_errors_lem (index l target i) =
      rw (expression_errors_lem target, expression_errors_lem i, expression_type_lem i)
      (ap (λ (x : Location). map (move_place g) (expression_errors ctx target) ++ map (move_place g) (expression_errors ctx i)
      ++ unless (is u16_kind (expression_type ctx i)) (invalid_index x (expression_type ctx i)))
      (expression_location g i)
      ∙ simp (either_errors, map-append))
  expression_errors_lem (cast l e t) =
      rw (expression_errors_lem e, expression_type_lem e, type_errors_lem g ctx.in_module t, type_moved g ctx.in_module t)
      (simp (either_errors, map-append, conversion_places g ctx.in_module t))
  expression_errors_lem (pointer_take l e) = expression_errors_lem e
  expression_errors_lem (pointer_dereference l e) = rw (expression_errors_lem e, expression_type_lem e) (simp (either_errors, map-append))
  expression_errors_lem (field_access l name e) = rw (expression_errors_lem e, expression_type_lem e) (simp (either_errors, map-append))
  expression_errors_lem (bitwise_not l e) = rw (expression_errors_lem e, expression_type_lem e) (simp (either_errors, map-append))
  expression_errors_lem (boolean_not l e) = rw (expression_errors_lem e, expression_type_lem e) (simp (either_errors, map-append))
  expression_errors_lem (boolean_and l a b) =
      rw (expression_errors_lem a, expression_errors_lem b, expression_type_lem a, expression_type_lem b) (simp (either_errors, map-append))
  expression_errors_lem (arithmetic_bin_op l operator a b) =
      rw (expression_errors_lem a, expression_errors_lem b, expression_type_lem a, expression_type_lem b) (simp (either_errors, map-append))
  expression_errors_lem (comparison_bin_op l operator a b) =
      rw (expression_errors_lem a, expression_errors_lem b, expression_type_lem a, expression_type_lem b) (simp (either_errors, map-append))
  expression_errors_lem (sizeof l t) = type_errors_lem g ctx.in_module t ∙ sym (conversion_places g ctx.in_module t)
  expression_errors_lem no_expressions = refl
  expression_errors_lem (expression_then e rest) = rw (expression_errors_lem e, expression_errors_lem rest, map-append)

  expression_slots_lem : (e : Expression) → expression_slots ctx (move_expression g e) ≡ map (move_slot g) (expression_slots ctx e)
  unfolding expression_slots expression_type move_expression
  expression_slots_lem (identifier l name) = refl
  expression_slots_lem (integer l base digits) = refl
  expression_slots_lem (boolean l) = refl
  expression_slots_lem (string_literal l) = refl
  expression_slots_lem (call l target arguments) = rw (expression_type_lem target, expression_slots_lem target, expression_slots_lem arguments, map-append)
  expression_slots_lem (index l target i) = rw (expression_type_lem target, expression_slots_lem target, expression_slots_lem i, map-append)
  expression_slots_lem (cast l e t) = rw (expression_slots_lem e, type_moved g ctx.in_module t, type_slots_lem g ctx.in_module t, map-append)
  expression_slots_lem (pointer_take l e) = rw (expression_type_lem e, expression_slots_lem e)
  expression_slots_lem (pointer_dereference l e) = rw (expression_type_lem e, expression_slots_lem e)
  expression_slots_lem (field_access l name e) = rw (expression_type_lem e, expression_slots_lem e)
  expression_slots_lem (bitwise_not l e) = rw (expression_type_lem e, expression_slots_lem e)
  expression_slots_lem (boolean_not l e) = rw (expression_type_lem e, expression_slots_lem e)
  expression_slots_lem (boolean_and l a b) = rw (expression_type_lem a, expression_slots_lem a, expression_slots_lem b, map-append)
  expression_slots_lem (arithmetic_bin_op l operator a b) = rw (expression_type_lem a, expression_slots_lem a, expression_slots_lem b, map-append)
  expression_slots_lem (comparison_bin_op l operator a b) = rw (expression_slots_lem a, expression_slots_lem b, map-append)
  expression_slots_lem (sizeof l t) = rw (type_slots_lem g ctx.in_module t)
  expression_slots_lem no_expressions = refl
  expression_slots_lem (expression_then e rest) = rw (expression_slots_lem e, expression_slots_lem rest, map-append)

-- What a change of expressions and types keeps: all but the places, which `g` changes
pub record Keeps (g : ℕ → ℕ) (e : Expression → Expression) (t : TypeNode → TypeNode) : Type 0 where
  pub types : (ctx : ModuleContext) (x : TypeNode) → convert_node_type ctx (t x) ≡ convert_node_type ctx x
  pub type_errors : (ctx : ModuleContext) (x : TypeNode) → conversion_errors ctx (t x) ≡ conversion_errors ctx x
  pub type_slots : (ctx : ModuleContext) (x : TypeNode) → conversion_slots ctx (t x) ≡ map (move_slot g) (conversion_slots ctx x)
  pub locations : (x : Expression) → placeless (location_of (e x)) ≡ placeless (location_of x)
  pub carried : (ctx : Context) (x : Expression) → expression_type ctx (e x) ≡ expression_type ctx x
  pub errors : (ctx : Context) (x : Expression) → expression_errors ctx (e x) ≡ map (move_place g) (expression_errors ctx x)
  pub slots : (ctx : Context) (x : Expression) → expression_slots ctx (e x) ≡ map (move_slot g) (expression_slots ctx x)

pub move_keeps : (g : ℕ → ℕ) → Keeps g (move_expression g) (move_type g)
move_keeps g =
    record {
      types = type_moved g;
      type_errors = type_errors_lem g;
      type_slots = type_slots_lem g;
      locations = expression_location g;
      carried = expression_type_lem g;
      errors = expression_errors_lem g;
      slots = expression_slots_lem g;
    }

-- Places that stay
same_place : (e : TypeError) → move_place (λ p. p) e ≡ e
same_place e =
    λ t. record {
      kind = e.kind;
      file = e.file;
      line = e.line;
      column = e.column;
      first = e.first;
      second = e.second;
      third = e.third;
      place = go (eqb e.kind literal_kind) t;
    }
  where
    go : (x : Bool) → cond x e.place e.place ≡ e.place
    go true = refl
    go false = refl

pub same_places : (es : List TypeError) → map (move_place (λ p. p)) es ≡ es
same_places [] = refl
same_places (e ∷ es) = λ t. same_place e t ∷ same_places es t

pub none_keeps : Keeps (λ p. p) (λ e. e) (λ t. t)
none_keeps =
    record {
      types = λ ctx x. refl;
      type_errors = λ ctx x. refl;
      type_slots = λ ctx x. sym (map-id (conversion_slots ctx x));
      locations = λ x. refl;
      carried = λ ctx x. refl;
      errors = λ ctx x. sym (same_places (expression_errors ctx x));
      slots = λ ctx x. sym (map-id (expression_slots ctx x));
    }
