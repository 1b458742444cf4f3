use lib.Seq.{length-take-le}
use mathlib.Core.Path.{sym}
use Rattle.std.proofs.lemmas.Result.{err_from_is_err_and}
use Rattle.type_check.proofs.Promise as promise
use Rattle.type_check.proofs.type_check_module.Goals as goal

pub slice_bounds-run-end : goal.slice_bounds-run-end
slice_bounds-run-end c = promise.words_fit c.args.input.now c.args.output.now c.args.rows.now c.args.errors.now c.args.work.now c.early_refusal.ensures c.in_ok-early_refusal.was c.name_count.ensures

pub slice_bounds-run-end-2 : goal.slice_bounds-run-end-2
slice_bounds-run-end-2 c = sym (length-take-le _ _ (promise.words_fit c.args.input.now c.args.output.now c.args.rows.now c.args.errors.now c.args.work.now c.early_refusal.ensures c.in_ok-early_refusal.was c.name_count.ensures))

pub run-requires : goal.run-requires
run-requires c = let k = promise.run_asked c.args.input.now c.args.output.now c.args.rows.now c.args.errors.now c.args.work.now c.early_refusal.ensures c.in_ok-early_refusal.was c.name_count.ensures in record { passed = k.0; work_len = k.1 }

pub returns-in_err-early_refusal : goal.returns-in_err-early_refusal
returns-in_err-early_refusal c =
    let p = err_from_is_err_and c.from_residual.result c.from_residual.ensures.1 in
    rw (p.1, p.2) (promise.turned_back_lem c.args.input.now c.args.output.now c.args.rows.now c.args.errors.now c.args.work.now c.early_refusal.ensures c.in_err-early_refusal.was)

pub returns : goal.returns
returns c = promise.checked c.args.input.now c.args.output.now c.args.rows.now c.args.errors.now c.args.work.now c.early_refusal.ensures c.in_ok-early_refusal.was c.name_count.ensures c.run.ensures
