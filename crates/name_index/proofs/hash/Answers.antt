use Rattle.std.proofs.lemmas.Nat.{mul-mod_first}
use Rattle.name_index.proofs.HashLaws as laws
use Rattle.name_index.proofs.hash.Goals as goal

pub loop-x-init : goal.loop-x-init
loop-x-init c = laws.hash_start _

pub loop-x-preserved : goal.loop-x-preserved
loop-x-preserved c = rw mul-mod_first (laws.hash_on _ _ _ _ c.loop-x.invariant c.loop-x-test.true c.from.ensures)

pub returns : goal.returns
returns c = search laws.hash_done
