use Rattle.convert.proofs.Leaves as leaves
use Rattle.convert.proofs.primitive_type.Goals as goal

pub returns-then-name-names : goal.returns-then-name-names
returns-then-name-names c = search leaves.primitive_u16

pub returns-then-name-names-2 : goal.returns-then-name-names-2
returns-then-name-names-2 c = search leaves.primitive_i16

pub returns-then-name-names-3 : goal.returns-then-name-names-3
returns-then-name-names-3 c = search leaves.primitive_bool

pub returns-then-name-names-4 : goal.returns-then-name-names-4
returns-then-name-names-4 c = search leaves.primitive_string

pub returns : goal.returns
returns c = search leaves.primitive_none
