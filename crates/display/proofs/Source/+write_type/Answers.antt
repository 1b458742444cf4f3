use Rattle.std.proofs.Common.{arith}
use Rattle.display.proofs.WriteLaws as laws
use Rattle.display.proofs.Source.+write_type.Goals as goal

pub loop-row-init : goal.loop-row-init
loop-row-init t c = search laws.write_start

pub write_own-first-requires-clause-le_n : goal.write_own-first-requires-clause-le_n
write_own-first-requires-clause-le_n t c =
    (omega (arith, c.loop-row-test.true), omega (arith, c.loop-row.invariant.low, c.requires.measured.1))

pub write_own-first-requires-clause-fits : goal.write_own-first-requires-clause-fits
write_own-first-requires-clause-fits t c = c.loop-row.invariant.fits

pub length_of-requires : goal.length_of-requires
length_of-requires t c =
    omega (arith, c.write_own-first.ensures.lower.0, c.loop-row.invariant.low, c.requires.measured.1, c.requires.measured.0.room)

pub length_of-requires-in-loop-row : goal.length_of-requires-in-loop-row
length_of-requires-in-loop-row t c =
    omega (arith, c.write_own-first.ensures.lower.1, c.loop-row.invariant.low, c.requires.measured.1, c.requires.measured.0.room)

pub write_type-requires : goal.write_type-requires
write_type-requires t c =
    let lower = c.write_own-first.ensures.lower.0 in
    let low = c.loop-row.invariant.low in (
      omega (arith, lower, low, c.decreases),
      ((c.requires.measured.0, omega (arith, lower, low, c.requires.measured.1)), c.write_own-first.ensures.first),
    )

pub loop-row-preserved-then-length_of : goal.loop-row-preserved-then-length_of
loop-row-preserved-then-length_of t c = search laws.second_left

pub write_type-requires-else-length_of : goal.write_type-requires-else-length_of
write_type-requires-else-length_of t c =
    let lower = c.write_own-first.ensures.lower.1 in
    let low = c.loop-row.invariant.low in (
      omega (arith, lower, low, c.decreases),
      ((c.requires.measured.0, omega (arith, lower, low, c.requires.measured.1)), c.write_own-first.ensures.second),
    )

pub loop-row-preserved : goal.loop-row-preserved
loop-row-preserved t c = search laws.first_left

pub returns : goal.returns
returns t c =
    laws.write_ends _ _ _ _ _ _ c.requires.measured.0 _ c.requires.measured.1 _ _ c.requires.fits _ c.length_of-2.ensures _ _ _ c.loop-row.invariant c.loop-row-test.false
