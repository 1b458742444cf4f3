-- The 29 errors of document 01, "Errors", with the eighth word of document 02, paper 1. Operands that are rows there are unfolded types here.
use Rattle.std.specs.Prelude.{ℕ, Bool, cond, List, [], ◌∷◌, eqb}
use Rattle.types.specs.Ty.{Ty}
use Rattle.fallible.specs.Operands.{mismatch_kind, literal_kind}
use Rattle.trees.specs.Tree.{Location}

-- An operand: a plain word (the number of a name, an operator, a count), or a row unfolded
pub data Operand : Type 0 where
  plain : ℕ → Operand
  row : Ty → Operand

-- The words of an error. The place is that of a bad literal's record, counted like the places of the tree that it stands in; else 0
pub record TypeError : Type 0 where
  pub kind : ℕ
  pub file : ℕ
  pub line : ℕ
  pub column : ℕ
  pub first : Operand
  pub second : Operand
  pub third : Operand
  pub place : ℕ

-- At a record; unused operands are 0
abbrev pub error : (kind : ℕ) → Location → (first second third : Operand) → TypeError
error k l a b c = record { kind = k; file = l.file; line = l.line; column = l.column; first = a; second = b; third = c; place = 0 }

abbrev pub unused : Operand
unused = plain 0

abbrev pub unknown_type : Location → (name : ℕ) → TypeError
unknown_type l name = error 1 l (plain name) unused unused

abbrev pub no_built_in_for_internal : Location → (name : ℕ) → TypeError
no_built_in_for_internal l name = error 2 l (plain name) unused unused

abbrev pub internal_mismatch : Location → (name : ℕ) → Ty → TypeError
internal_mismatch l name t = error mismatch_kind l (plain name) (row t) unused

abbrev pub duplicate_alias : Location → (name : ℕ) → TypeError
duplicate_alias l name = error 4 l (plain name) unused unused

abbrev pub alias_of_built_in : Location → (name : ℕ) → TypeError
alias_of_built_in l name = error 5 l (plain name) unused unused

abbrev pub paths_without_return : Location → (name : ℕ) → TypeError
paths_without_return l name = error 6 l (plain name) unused unused

abbrev pub local_redefined : Location → (name : ℕ) → TypeError
local_redefined l name = error 7 l (plain name) unused unused

abbrev pub not_assignable : Location → (target source : Ty) → TypeError
not_assignable l target source = error 8 l (row target) (row source) unused

abbrev pub return_needs_value : Location → Ty → TypeError
return_needs_value l t = error 9 l (row t) unused unused

abbrev pub unknown_identifier : Location → (name : ℕ) → TypeError
unknown_identifier l name = error 10 l (plain name) unused unused

abbrev pub argument_count : Location → (expected got : ℕ) → TypeError
argument_count l expected got = error 11 l (plain expected) (plain got) unused

abbrev pub invalid_argument : Location → (position : ℕ) → (expected got : Ty) → TypeError
invalid_argument l position expected got = error 12 l (plain position) (row expected) (row got)

abbrev pub not_callable : Location → Ty → TypeError
not_callable l t = error 13 l (row t) unused unused

abbrev pub invalid_index : Location → Ty → TypeError
invalid_index l t = error 14 l (row t) unused unused

abbrev pub invalid_cast : Location → (source target : Ty) → TypeError
invalid_cast l source target = error 15 l (row source) (row target) unused

abbrev pub not_a_pointer : Location → Ty → TypeError
not_a_pointer l t = error 16 l (row t) unused unused

abbrev pub no_fields : Location → Ty → TypeError
no_fields l t = error 17 l (row t) unused unused

abbrev pub no_such_field : Location → Ty → (name : ℕ) → TypeError
no_such_field l t name = error 18 l (row t) (plain name) unused

abbrev pub not_integral : Location → Ty → TypeError
not_integral l t = error 19 l (row t) unused unused

abbrev pub not_boolean : Location → Ty → TypeError
not_boolean l t = error 20 l (row t) unused unused

abbrev pub left_not_boolean : Location → Ty → TypeError
left_not_boolean l t = error 21 l (row t) unused unused

abbrev pub right_not_boolean : Location → Ty → TypeError
right_not_boolean l t = error 22 l (row t) unused unused

-- The one error that has a place
abbrev pub literal_out_of_range : Location → TypeError
literal_out_of_range l = record { kind = literal_kind; file = l.file; line = l.line; column = l.column; first = unused; second = unused; third = unused; place = l.at }

abbrev pub invalid_operands : Location → (operator : ℕ) → (left right : Ty) → TypeError
invalid_operands l operator left right = error 24 l (plain operator) (row left) (row right)

abbrev pub compound_length : Location → (expected got : ℕ) → TypeError
compound_length l expected got = error 25 l (plain expected) (plain got) unused

abbrev pub array_compound_target : Location → Ty → TypeError
array_compound_target l t = error 26 l (row t) unused unused

abbrev pub no_such_compound_field : Location → (name : ℕ) → TypeError
no_such_compound_field l name = error 27 l (plain name) unused unused

abbrev pub struct_compound_target : Location → Ty → TypeError
struct_compound_target l t = error 28 l (row t) unused unused

abbrev pub field_twice : Location → (name : ℕ) → TypeError
field_twice l name = error 29 l (plain name) unused unused

-- One error unless a test holds
abbrev pub unless : Bool → TypeError → List TypeError
unless holds e = cond holds [] (e ∷ [])

-- A bad literal's place changed; other errors have none
abbrev pub move_place : (ℕ → ℕ) → TypeError → TypeError
move_place f e =
    record {
      kind = e.kind;
      file = e.file;
      line = e.line;
      column = e.column;
      first = e.first;
      second = e.second;
      third = e.third;
      place = cond (eqb e.kind literal_kind) (f e.place) e.place;
    }
