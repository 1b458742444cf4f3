-- Why a module is turned back, whatever is lent (document 01, "Why a module is turned back", tests 1 to 4).
use Rattle.std.specs.Prelude.{ℕ, List}
use Rattle.std.proofs.Math.Option.{Option}
use Rattle.fallible.specs.Outcome.{or_next}
use Rattle.layout.specs.Layout.{layout_tests}
use Rattle.names.specs.Names.{name_test}

-- The first of the tests that refuses decides
abbrev pub module_refusal : (input : List ℕ) → Option (ℕ × ℕ)
module_refusal input = or_next (layout_tests input) (name_test input)
