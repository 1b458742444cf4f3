-- A law for each kind.
use native.Mathlib.Omega.{arith}
use Rattle.types.proofs.Sizes as sizes
use Rattle.types.proofs.size_word.Goals as goal

pub returns-in-0-to-1 : goal.returns-in-0-to-1
returns-in-0-to-1 c = search sizes.size_unknown

pub returns-in-2 : goal.returns-in-2
returns-in-2 c = sizes.size_void _ _ _ c.requires.0 c.requires.1 (omega arith) (omega arith)

pub returns-in-3-to-6 : goal.returns-in-3-to-6
returns-in-3-to-6 c = sizes.size_one _ _ _ c.requires.0 c.requires.1 (omega arith) (omega arith)

pub returns-in-7 : goal.returns-in-7
returns-in-7 c = search sizes.size_array

pub returns-in-9 : goal.returns-in-9
returns-in-9 c = search sizes.size_function

pub returns-in-8 : goal.returns-in-8
returns-in-8 c = sizes.size_same _ _ _ c.requires.0 c.requires.1 _ c.part_word-in-8.ensures (omega arith) (λ z. omega arith) (λ z. omega arith) (omega arith)

pub returns-in-10-to-11 : goal.returns-in-10-to-11
returns-in-10-to-11 c = sizes.size_same _ _ _ c.requires.0 c.requires.1 _ c.part_word-in-10-to-11.ensures (omega arith) (λ z. omega arith) (λ z. omega arith) (omega arith)

pub returns-in-12 : goal.returns-in-12
returns-in-12 c = search sizes.size_field

pub returns-in-13-to-4294967295 : goal.returns-in-13-to-4294967295
returns-in-13-to-4294967295 c = search sizes.size_argument
