-- The starred lines of document 01's depot bench sheet, as one statement; three lines that are not starred stand beside theirs.
use Rattle.std.specs.Prelude.{ℕ, ◌≡◌, true, false, List, [], ◌∷◌}
use Rattle.std.proofs.Math.Option.{some}
use Rattle.types.specs.Ty.{Ty, bool, u16, i16, pointer, array, alias, distinct}
use Rattle.relations.specs.Relations.{types_are_assignable}
use Rattle.relations.specs.WordSize.{word_size_of}
use Rattle.relations.specs.declared.WordSize.TheVariants.{Words, TooLarge}
use Rattle.trees.specs.Tree.{Location, location, name_type, Expression, identifier, integer, cast, comparison_bin_op}
use Rattle.trees.specs.Tree.{Statement, block, return, loop, while, break, no_statements, statement_then}
use Rattle.trees.specs.Tree.{function_definition}
use Rattle.meaning.specs.TypeError.{TypeError, error, plain, row}
use Rattle.meaning.specs.Context.{no_types, entry, insert, ModuleContext, context, blank}
use Rattle.meaning.specs.Expression.{expression_errors}
use Rattle.meaning.specs.Module.{item_errors}

-- Somewhere in a file
abbrev pub here : Location
here = location 0 0 1 1

-- Name 0 is a global of a type, name 1 is i16, name 2 is u16, name 3 is bool, name 9 is the function
abbrev pub module_with : Ty → ModuleContext
module_with t =
    record { built_ins = insert (entry 1 i16) (insert (entry 2 u16) (insert (entry 3 bool) no_types)); type_aliases = no_types; globals = insert (entry 0 t) no_types }

abbrev pub errors_at : Ty → Expression → List TypeError
errors_at t e = expression_errors (context (module_with t) blank) e

abbrev pub literal_errors : (base : ℕ) → (digits : List ℕ) → List TypeError
literal_errors base digits = errors_at bool (integer here base digits)

-- A value of the type cast to i16
abbrev pub cast_errors : Ty → List TypeError
cast_errors t = errors_at t (cast here (identifier here 0) (name_type here 1))

abbrev pub variable : Expression
variable = identifier here 0

-- A block with one member
abbrev pub block_of : Statement → Statement
block_of s = block here (statement_then s no_statements)

-- The errors of a function that returns u16; name 0 is a bool
abbrev pub function_errors : Statement → List TypeError
function_errors body = item_errors (module_with bool) (function_definition here 9 (name_type here 2) [] (some body))

pub record BenchSheet : Type 0 where
  -- Literal 65535 base 10 passes, 65536 gives 23; ffff base 16 passes; +7 passes; + and no digits give 23
  pub decimal_65535 : literal_errors 10 (54 ∷ 53 ∷ 53 ∷ 51 ∷ 53 ∷ []) ≡ []
  pub decimal_65536 : literal_errors 10 (54 ∷ 53 ∷ 53 ∷ 51 ∷ 54 ∷ []) ≡ error 23 here (plain 0) (plain 0) (plain 0) ∷ []
  pub hexadecimal_ffff : literal_errors 16 (102 ∷ 102 ∷ 102 ∷ 102 ∷ []) ≡ []
  pub plus_7 : literal_errors 10 (43 ∷ 55 ∷ []) ≡ []
  pub plus_alone : literal_errors 10 (43 ∷ []) ≡ error 23 here (plain 0) (plain 0) (plain 0) ∷ []
  pub no_digits : literal_errors 10 [] ≡ error 23 here (plain 0) (plain 0) (plain 0) ∷ []
  -- Not starred: FFFF base 16 passes, -7 gives 23
  pub upper_ffff : literal_errors 16 (70 ∷ 70 ∷ 70 ∷ 70 ∷ []) ≡ []
  pub minus_7 : literal_errors 10 (45 ∷ 55 ∷ []) ≡ error 23 here (plain 0) (plain 0) (plain 0) ∷ []
  -- Transparent alias of u16 to i16: 15. Distinct alias: castable
  pub transparent_alias : cast_errors (alias u16 5) ≡ error 15 here (row (alias u16 5)) (row i16) (plain 0) ∷ []
  pub distinct_alias : cast_errors (distinct u16 5) ≡ []
  -- `*[4]u16` is assignable to `*u16`; `*A` with A alias of `[4]u16` is not
  pub array_decays : types_are_assignable (pointer u16) (pointer (array u16 4)) ≡ true
  pub alias_does_not : types_are_assignable (pointer u16) (pointer (alias (array u16 4) 5)) ≡ false
  -- bool == bool: 24 with operator 9
  pub bool_equals_bool : errors_at bool (comparison_bin_op here 1 variable variable) ≡ error 24 here (plain 9) (row bool) (row bool) ∷ []
  -- `while c { return 1; }` diverges; `loop { loop { break; } }` does not
  pub while_returns : function_errors (block_of (while here variable (block_of (return here (some (integer here 10 (49 ∷ []))))))) ≡ []
  pub loop_in_loop : function_errors (block_of (loop here (block_of (loop here (block_of (break here)))))) ≡ error 6 here (plain 9) (plain 0) (plain 0) ∷ []
  -- `[65535]u16` 65,535 words; `[65536]u16` too large
  pub words_65535 : word_size_of (array u16 65535) ≡ Words 65535
  pub words_65536 : word_size_of (array u16 65536) ≡ TooLarge
  -- Of "Type rows": `[0][70000]u16` is 0 words
  pub words_none : word_size_of (array (array u16 70000) 0) ≡ Words 0
