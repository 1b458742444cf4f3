use Rattle.std.proofs.Common.{ℕ, arith, length-set}
use Rattle.descriptions.proofs.Operator as laws
use Rattle.descriptions.proofs.put_operator.Goals as goal

pub bounds-text-last : goal.bounds-text-last
bounds-text-last c = omega (arith, laws.lengths _ c.requires.operator, length-set {A = ℕ})

pub returns : goal.returns
returns c = laws.written _ c.requires.operator _ _ _ _ c.operator_length.ensures (omega (arith, laws.lengths _ c.requires.operator))
