use Rattle.items.proofs.Bodies as laws
use Rattle.walk.proofs.Loans as loans
use Rattle.items.proofs.type_check_body.Goals as goal

pub returns-then-left-clause-effect : goal.returns-then-left-clause-effect
returns-then-left-clause-effect c = laws.body_none c.requires.at_in_bounds.1 c.requires.ready c.if-left.true

pub type_check_statement-requires : goal.type_check_statement-requires
type_check_statement-requires c = record { fine_node = laws.body_fine c.requires.at_in_bounds.1 c.if-left.false; ready = c.requires.ready; one_type = c.requires.one_type }

pub needs_no_return-holds-requires : goal.needs_no_return-holds-requires
needs_no_return-holds-requires c = laws.body_fine c.requires.at_in_bounds.1 c.if-left.false

pub returns-clause-effect : goal.returns-clause-effect
returns-clause-effect c = rw (loans.after_errors c.report_unless.ensures.loans c.type_check_statement.new.work) (laws.body_checked c.requires.at_in_bounds.1 c.if-left.false c.type_check_statement.ensures.effect c.needs_no_return-holds.ensures c.word-name.ensures c.report_unless.ensures.effect)
