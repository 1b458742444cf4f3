use Rattle.std.proofs.lemmas.Result.{on_ok_weaker, on_err_weaker}
use Rattle.program_support.proofs.BufferLaws.{on_err}
use Rattle.literal_cases.proofs.LineLaws as lines
use Rattle.literal_cases.proofs.put_answer.Goals as goal

pub returns-in_err-put_word-in-Some-clause-err : goal.returns-in_err-put_word-in-Some-clause-err
returns-in_err-put_word-in-Some-clause-err g c = on_err c.from_residual.result (lines.answer_none _ c.in_err-put_word-in-Some.ensures.err)

pub returns-in_ok-put_word-in-Some-clause-ok : goal.returns-in_ok-put_word-in-Some-clause-ok
returns-in_ok-put_word-in-Some-clause-ok g c = on_ok_weaker c.put_text.result (λ h. lines.answer_value c.in-Some.is c.in_ok-put_word-in-Some.ensures.ok h) c.put_text.ensures.ok

pub returns-in-None-clause-err : goal.returns-in-None-clause-err
returns-in-None-clause-err g c = on_err_weaker c.put_text-in-None.result (λ e. lines.answer_none _ e) c.put_text-in-None.ensures.err
