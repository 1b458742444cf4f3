-- Five pieces, one after the other.
use Rattle.std.proofs.lemmas.Result.{on_ok_weaker, on_err_weaker}
use Rattle.program_support.proofs.BufferLaws.{on_err}
use Rattle.program_support.proofs.LineLaws.{puts_then, some_none, some_then}
use Rattle.report.proofs.put_counts.Goals as goal

pub returns-in_err-put_text-clause-err : goal.returns-in_err-put_text-clause-err
returns-in_err-put_text-clause-err g c = on_err c.from_residual.result (some_none c.in_err-put_text.ensures.err)

pub returns-in_err-put_word-clause-err : goal.returns-in_err-put_word-clause-err
returns-in_err-put_word-clause-err g c = on_err c.from_residual-in_err-put_word.result (some_then c.in_ok-put_text.ensures.ok (some_none c.in_err-put_word.ensures.err))

pub returns-in_err-put_text-2-clause-err : goal.returns-in_err-put_text-2-clause-err
returns-in_err-put_text-2-clause-err g c =
    on_err c.from_residual-in_err-put_text-2.result
    (some_then c.in_ok-put_text.ensures.ok (some_then c.in_ok-put_word.ensures.ok (some_none c.in_err-put_text-2.ensures.err)))

pub returns-in_err-put_number-clause-err : goal.returns-in_err-put_number-clause-err
returns-in_err-put_number-clause-err g c =
    on_err c.from_residual-in_err-put_number.result
    (some_then c.in_ok-put_text.ensures.ok (some_then c.in_ok-put_word.ensures.ok (some_then c.in_ok-put_text-2.ensures.ok (some_none c.in_err-put_number.ensures.err))))

pub returns-clause-ok : goal.returns-clause-ok
returns-clause-ok g c =
    on_ok_weaker c.put_text-3.result
    (λ h. puts_then c.in_ok-put_text.ensures.ok (puts_then c.in_ok-put_word.ensures.ok (puts_then c.in_ok-put_text-2.ensures.ok (puts_then c.in_ok-put_number.ensures.ok h))))
    c.put_text-3.ensures.ok

pub returns-clause-err : goal.returns-clause-err
returns-clause-err g c =
    on_err_weaker c.put_text-3.result
    (λ e. some_then c.in_ok-put_text.ensures.ok (some_then c.in_ok-put_word.ensures.ok (some_then c.in_ok-put_text-2.ensures.ok (some_then c.in_ok-put_number.ensures.ok (some_none e)))))
    c.put_text-3.ensures.err
