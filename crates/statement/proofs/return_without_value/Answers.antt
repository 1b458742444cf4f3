use Rattle.statement.proofs.Returns as laws
use Rattle.statement.proofs.return_without_value.Goals as goal

pub returns-clause-effect : goal.returns-clause-effect
returns-clause-effect c = laws.returned_nothing _ _ _ _ _ _ _ _ c.requires.1 _ c.report_unless.ensures.effect (search laws.kind_test)
