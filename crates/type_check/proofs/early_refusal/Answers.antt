use Rattle.std.proofs.lemmas.Result.{err_from_is_err_and}
use Rattle.type_check.proofs.Refusals as refusals
use Rattle.type_check.proofs.early_refusal.Goals as goal

pub returns-in_err-module_refusal : goal.returns-in_err-module_refusal
returns-in_err-module_refusal c =
    let p = err_from_is_err_and c.from_residual.result c.from_residual.ensures.1 in
    rw (p.1, p.2) (refusals.module_refused _ _ _ c.module_refusal.ensures c.in_err-module_refusal.was)

pub returns : goal.returns
returns c = refusals.module_passed _ _ _ c.module_refusal.ensures c.in_ok-module_refusal.was c.loan_refusal.ensures
