use Rattle.names.specs.Names.{built_ins}
use Rattle.names.proofs.built_ins.Goals as goal

pub returns : goal.returns
unfolding built_ins
returns c = λ i. record { u16 = c.find_name.ensures i; i16 = c.find_name-2.ensures i; bool = c.find_name-3.ensures i; string = c.find_name-4.ensures i }
