use Rattle.declare.proofs.Chunks as laws
use Rattle.declare.proofs.Parameters.{parameters_end}
use Rattle.walk.specs.Typed.{typed}
use Rattle.walk.proofs.Loans as loans
use Rattle.declare.proofs.+convert_others_convert_parameters.Goals as goal

pub convert_others-returns-then-is_none-clause-effect : goal.convert_others-returns-then-is_none-clause-effect
convert_others-returns-then-is_none-clause-effect t c = parameters_end _ _ _ _ _ _ _ _ _ _ c.requires.ready (laws.no_parameter _ _ _ c.parameter_end.ensures c.if-is_none.ensures)

pub convert_parameters-returns-then-is_none-clause-effect : goal.convert_parameters-returns-then-is_none-clause-effect
convert_parameters-returns-then-is_none-clause-effect t c = parameters_end _ _ _ _ _ _ _ _ _ _ c.requires.ready (laws.no_parameter _ _ _ c.parameter_end.ensures c.if-is_none.ensures)

pub convert_parameters-make_arguments-requires : goal.convert_parameters-make_arguments-requires
convert_parameters-make_arguments-requires t c = let p = c.convert_chunk-count.ensures.effect in record { kept_len = (p.to.long, p.to.few); cells_ok = laws.cells_ok _ _ _ _ _ _ _ _ _ _ _ _ p _ _ _ _ (typed c.convert_others-rest.result c.convert_others-rest.new.walk.state) c.convert_others-rest.ensures.effect }

pub convert_parameters-returns-clause-effect : goal.convert_parameters-returns-clause-effect
convert_parameters-returns-clause-effect t c = rw (loans.after_rows c.make_arguments.ensures.loans c.args.work.now) (c.convert_chunk-count.ensures.effect.to.whole _ _ _ _ (typed c.convert_others-rest.result c.convert_others-rest.new.walk.state) c.convert_others-rest.ensures.effect _ _ _ c.make_arguments.ensures.effect)
