use Rattle.std.proofs.lemmas.Result.{on_ok_weaker, on_err_weaker}
use Rattle.program_support.proofs.BufferLaws.{on_err}
use Rattle.literal_cases.proofs.LineLaws as lines
use Rattle.literal_cases.proofs.put_base.Goals as goal

pub returns-in_err-put_word-clause-err : goal.returns-in_err-put_word-clause-err
returns-in_err-put_word-clause-err g c = on_err c.from_residual.result (lines.base_number _ c.in_err-put_word.ensures.err)

pub returns-in_err-put_bytes-clause-err : goal.returns-in_err-put_bytes-clause-err
returns-in_err-put_bytes-clause-err g c = on_err c.from_residual-in_err-put_bytes.result (lines.base_bytes _ c.in_ok-put_word.ensures.ok c.in_err-put_bytes.ensures.err)

pub returns-clause-ok : goal.returns-clause-ok
returns-clause-ok g c = on_ok_weaker c.put_text.result (λ h. lines.base_all _ c.in_ok-put_word.ensures.ok c.in_ok-put_bytes.ensures.ok h) c.put_text.ensures.ok

pub returns-clause-err : goal.returns-clause-err
returns-clause-err g c = on_err_weaker c.put_text.result (λ e. lines.base_end _ c.in_ok-put_word.ensures.ok c.in_ok-put_bytes.ensures.ok e) c.put_text.ensures.err
