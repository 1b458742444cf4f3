-- The places of the stores count by `suc`.
use native.Mathlib.Numerals.{towards_suc}
use native.Mathlib.Omega.{arith}
use lib.ListN.{length-set}
use Rattle.walk.proofs.put_slot.Goals as goal

pub bounds-output-slot-2 : goal.bounds-output-slot-2
bounds-output-slot-2 c = simp length-set (omega arith)

pub bounds-output-slot-3 : goal.bounds-output-slot-3
bounds-output-slot-3 c = simp length-set (omega arith)

pub bounds-output-slot-4 : goal.bounds-output-slot-4
bounds-output-slot-4 c = simp length-set (omega arith)

pub returns : goal.returns
returns c = simp towards_suc
