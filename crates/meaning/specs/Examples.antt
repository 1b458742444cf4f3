-- Worked examples: document 01's module of 112 bytes, and the order in which the two passes convert a function's types.
use Rattle.std.specs.Prelude.{ℕ, ◌*◌, ◌≡◌, List, [], ◌∷◌, false}
use Rattle.std.proofs.Math.Option.{none}
use Rattle.types.specs.Ty.{u16}
use Rattle.types.specs.Table.{row_width}
use Rattle.fallible.specs.Outcome.{accepted}
use Rattle.fallible.specs.Errors.{error_width}
use Rattle.trees.specs.Tree.{Location, location, name_type, pointer_type, Item, function_definition, type_alias}
use Rattle.trees.specs.Tree.{global_declaration, no_value}
use Rattle.trees.specs.Example.{example}
use Rattle.meaning.specs.TypeError.{error, unknown_type, plain}
use Rattle.meaning.specs.Context.{TypeMap, no_types, entry, insert}
use Rattle.meaning.specs.Module.{module_errors, row_count}
use Rattle.meaning.specs.Promise.{Lengths, errors_of, answer_of}

-- What the report program lends: 3,000 rows, 2,000 errors, 16,376 working words
abbrev pub report_loans : Lengths
report_loans = record { output = 65537; rows = row_width * 3000; errors = error_width * 2000; work = 16376 }

-- Line l
abbrev pub line : ℕ → Location
line l = location 0 0 l 1

-- A function whose returned type (line 1) and parameter's type (line 2) are unknown
abbrev pub unknown_types : Item
unknown_types = function_definition (line 0) 0 (name_type (line 1) 7) (record { name = 1; type = name_type (line 2) 8 } ∷ []) none

-- `x: *A` before `alias A = u16`: name 0 is u16, 1 is x, 2 is A
abbrev pub late_alias : List Item
late_alias = global_declaration (line 1) 1 (pointer_type (line 2) (name_type (line 3) 2)) no_value ∷ type_alias (line 4) 2 false false (name_type (line 5) 0) ∷ []

abbrev pub built_in : TypeMap
built_in = insert (entry 0 u16) no_types

pub record Examples : Type 0 where
  -- rows 7 errors 2, 1 0 3 8 twice
  pub answer : answer_of example report_loans ≡ accepted (record { rows = 7; errors = 2 })
  pub errors : errors_of example ≡ error 1 (location 0 0 3 8) (plain 1) (plain 0) (plain 0) ∷ error 1 (location 0 0 3 8) (plain 1) (plain 0) (plain 0) ∷ []
  -- Pass 1 converts the returned type and then the parameters, pass 2 the parameters and then the returned type
  pub conversions : module_errors no_types (unknown_types ∷ [])
      ≡ unknown_type (line 1) 7 ∷ unknown_type (line 2) 8 ∷ unknown_type (line 2) 8 ∷ unknown_type (line 1) 7 ∷ []
  -- The rows of both passes: pointer to Unknown, A and pointer to A beside the fixed seven
  pub both_passes : row_count built_in late_alias ≡ 10
