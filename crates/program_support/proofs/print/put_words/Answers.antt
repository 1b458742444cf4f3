use Rattle.program_support.proofs.BufferLaws.{on_err, words_none, words_more, words_blank, words_word}
use Rattle.program_support.proofs.print.put_words.Goals as goal

pub loop-i-init : goal.loop-i-init
loop-i-init g c = words_none c.args.buffer.now c.args.used c.args.words.now

pub returns-in_err-blank-clause-err : goal.returns-in_err-blank-clause-err
returns-in_err-blank-clause-err g c =
    let l = c.loop-i in
    on_err c.from_residual.result (words_blank c.args.words.now c.args.buffer.now c.args.used l.i l.buffer l.held c.put_text.new.buffer c.loop-i-test.true l.invariant c.in_err-blank.ensures.err)

pub returns-in_err-held-clause-err : goal.returns-in_err-held-clause-err
returns-in_err-held-clause-err g c =
    let l = c.loop-i in
    on_err c.from_residual-in_err-held.result
    (words_word c.args.words.now c.args.buffer.now c.args.used l.i l.buffer l.held c.put_text.new.buffer c.in_ok-blank.blank c.put_word.new.buffer c.loop-i-test.true l.invariant c.in_ok-blank.ensures.ok c.in_err-held.ensures.err)

pub loop-i-preserved : goal.loop-i-preserved
loop-i-preserved g c =
    let l = c.loop-i in
    words_more c.args.words.now c.args.buffer.now c.args.used l.i l.buffer l.held c.put_text.new.buffer c.in_ok-blank.blank c.put_word.new.buffer c.in_ok-held.held c.loop-i-test.true l.invariant c.in_ok-blank.ensures.ok
    c.in_ok-held.ensures.ok
