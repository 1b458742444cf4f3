use Rattle.descriptions.proofs.Operator as laws
use Rattle.descriptions.proofs.operator_length.Goals as goal

pub returns-then-operator-lt-FIRST_OF_TWO : goal.returns-then-operator-lt-FIRST_OF_TWO
returns-then-operator-lt-FIRST_OF_TWO c = search laws.length_one

pub returns-else-operator-lt-FIRST_OF_TWO : goal.returns-else-operator-lt-FIRST_OF_TWO
returns-else-operator-lt-FIRST_OF_TWO c = search laws.length_two
