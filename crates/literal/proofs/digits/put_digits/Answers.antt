use mathlib.Core.Path.{refl, sym, ◌∙◌}
use native.Mathlib.Omega.{arith}
use Rattle.literal.specs.Literal.{digit_value}
use Rattle.literal.proofs.Digit as laws
use Rattle.literal.proofs.digits.put_digits.Goals as goal

pub loop-byte-init : goal.loop-byte-init
unfolding digit_value
loop-byte-init c = laws.written_none _ _ (record { passes = refl }) c.requires

pub overflow_cast-table : goal.overflow_cast-table
overflow_cast-table c = record { fits = laws.value_fits _ _ _ c.loop-byte.invariant (omega (arith, c.loop-byte-test.true)) }

pub bounds-table-byte : goal.bounds-table-byte
bounds-table-byte c = omega (arith, c.loop-byte.invariant.long, c.loop-byte-test.true)

pub loop-byte-preserved : goal.loop-byte-preserved
loop-byte-preserved c = laws.written_more _ _ _ c.loop-byte.invariant (omega (arith, c.loop-byte-test.true))

pub shape_of-table : goal.shape_of-table
shape_of-table c = c.loop-byte.invariant.long ∙ sym c.requires

pub returns : goal.returns
returns c = search laws.written_all
