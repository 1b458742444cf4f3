use Rattle.program_support.proofs.BufferLaws.{on_err}
use Rattle.replay.proofs.CaseLaws.{rest_failed}
use Rattle.replay.proofs.read_case.Goals as goal

pub returns-in_err-n-clause-err : goal.returns-in_err-n-clause-err
returns-in_err-n-clause-err g c =
    on_err c.from_residual-in_err-n.result
    (rest_failed _ _ _ c.in_ok-read_full.field-0 c.length_at-total.result c.read_full-2.new.buffer c.in_err-n.ensures.err c.if-branch-lt4.false c.if-total-lt4.false c.args.case.now c.read_full.new.buffer c.requires
    c.read_full.auto.buffer c.in_ok-read_full.ensures.bytes c.in_ok-read_full.ensures.within c.length_at-total.ensures.is c.if-case-total.false c.read_full-2.auto.buffer)
