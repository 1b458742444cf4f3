use Rattle.std.proofs.lemmas.Result.{IfOk-weaker, on_err_weaker}
use Rattle.program_support.proofs.BufferLaws.{on_err, some_none, some_text, some_number, refused_all}
use Rattle.program_support.proofs.print.put_refused.Goals as goal

pub returns-in_err-refused-clause-err : goal.returns-in_err-refused-clause-err
returns-in_err-refused-clause-err g c = on_err c.from_residual.result (some_none _ _ _ _ _ c.in_err-refused.ensures.err)

pub returns-in_err-numbered-clause-err : goal.returns-in_err-numbered-clause-err
returns-in_err-numbered-clause-err g c =
    on_err c.from_residual-in_err-numbered.result
    (some_text _ _ _ _ _ _ _ c.in_ok-refused.ensures.ok (some_none _ _ _ _ _ c.in_err-numbered.ensures.err))

pub returns-in_err-at-clause-err : goal.returns-in_err-at-clause-err
returns-in_err-at-clause-err g c =
    on_err c.from_residual-in_err-at.result
    (some_text _ _ _ _ _ _ _ c.in_ok-refused.ensures.ok (some_number _ _ _ _ _ _ _ c.in_ok-numbered.ensures.ok (some_none _ _ _ _ _ c.in_err-at.ensures.err)))

pub returns-in_err-placed-clause-err : goal.returns-in_err-placed-clause-err
returns-in_err-placed-clause-err g c =
    on_err c.from_residual-in_err-placed.result
    (some_text _ _ _ _ _ _ _ c.in_ok-refused.ensures.ok
    (some_number _ _ _ _ _ _ _ c.in_ok-numbered.ensures.ok (some_text _ _ _ _ _ _ _ c.in_ok-at.ensures.ok (some_none _ _ _ _ _ c.in_err-placed.ensures.err))))

pub returns-clause-ok : goal.returns-clause-ok
returns-clause-ok g c =
    IfOk-weaker c.put_text-3.result _ _
    (λ r h. refused_all _ _ _ _ _ _ _ _ _ _ _ _ _ _ c.in_ok-refused.ensures.ok c.in_ok-numbered.ensures.ok c.in_ok-at.ensures.ok c.in_ok-placed.ensures.ok h)
    c.put_text-3.ensures.ok

pub returns-clause-err : goal.returns-clause-err
returns-clause-err g c =
    on_err_weaker c.put_text-3.result
    (λ e. some_text _ _ _ _ _ _ _ c.in_ok-refused.ensures.ok
    (some_number _ _ _ _ _ _ _ c.in_ok-numbered.ensures.ok
    (some_text _ _ _ _ _ _ _ c.in_ok-at.ensures.ok (some_number _ _ _ _ _ _ _ c.in_ok-placed.ensures.ok (some_none _ _ _ _ _ e)))))
    c.put_text-3.ensures.err
