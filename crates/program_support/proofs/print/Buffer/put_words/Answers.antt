use Rattle.program_support.proofs.BufferLaws.{on_err}
use Rattle.program_support.proofs.LineLaws.{words_none, words_more, words_blank, words_word}
use Rattle.program_support.proofs.print.Buffer.put_words.Goals as goal

pub loop-word-init : goal.loop-word-init
loop-word-init g c = words_none c.args.words.now c.args.self.now

pub returns-in_err-put_text-clause-err : goal.returns-in_err-put_text-clause-err
returns-in_err-put_text-clause-err g c =
    let l = c.loop-word in
    on_err c.from_residual.result (words_blank c.args.words.now l.word-index c.loop-word-test.true l.invariant c.in_err-put_text.ensures.err)

pub returns-in_err-put_word-clause-err : goal.returns-in_err-put_word-clause-err
returns-in_err-put_word-clause-err g c =
    let l = c.loop-word in
    on_err c.from_residual-in_err-put_word.result
    (words_word c.args.words.now l.word-index c.loop-word-test.true l.invariant c.in_ok-put_text.ensures.ok c.in_err-put_word.ensures.err)

pub loop-word-preserved : goal.loop-word-preserved
loop-word-preserved g c =
    let l = c.loop-word in
    words_more c.args.words.now l.word-index c.loop-word-test.true l.invariant c.in_ok-put_text.ensures.ok c.in_ok-put_word.ensures.ok
