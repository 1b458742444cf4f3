use Rattle.std.proofs.lemmas.Result.{on_ok_weaker, on_err_weaker}
use Rattle.program_support.proofs.BufferLaws.{on_err}
use Rattle.program_support.proofs.LineLaws.{puts_then, some_none, some_then, some_first}
use Rattle.report.proofs.put_error.Goals as goal

pub returns-in_err-put_word-clause-err : goal.returns-in_err-put_word-clause-err
returns-in_err-put_word-clause-err g c = on_err c.from_residual.result (some_none c.in_err-put_word.ensures.err)

pub returns-in_err-put_words-clause-err : goal.returns-in_err-put_words-clause-err
returns-in_err-put_words-clause-err g c = on_err c.from_residual-in_err-put_words.result (some_then c.in_ok-put_word.ensures.ok (some_first _ c.in_err-put_words.ensures.err))

pub returns-clause-ok : goal.returns-clause-ok
returns-clause-ok g c = on_ok_weaker c.put_text.result (λ h. puts_then c.in_ok-put_word.ensures.ok (puts_then c.in_ok-put_words.ensures.ok h)) c.put_text.ensures.ok

pub returns-clause-err : goal.returns-clause-err
returns-clause-err g c = on_err_weaker c.put_text.result (λ e. some_then c.in_ok-put_word.ensures.ok (some_then c.in_ok-put_words.ensures.ok (some_none e))) c.put_text.ensures.err
