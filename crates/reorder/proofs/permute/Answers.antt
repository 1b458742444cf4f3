use native.Mathlib.Omega.{arith}
use Rattle.reorder.proofs.Exchanges as laws
use Rattle.reorder.proofs.permute.Goals as goal

pub loop-last-init : goal.loop-last-init
loop-last-init c = search laws.permuting_start

pub loop-last-preserved : goal.loop-last-preserved
loop-last-preserved c =
    let swapped = laws.swapped _ _ _ _ _ c.loop-last.invariant c.next_number-number.result (omega arith) in
    laws.permuting_on _ _ _ _ _ c.loop-last.invariant _ _ (omega arith) c.next_number-number.ensures (cc)

pub returns : goal.returns
returns c = search laws.permuting_done
