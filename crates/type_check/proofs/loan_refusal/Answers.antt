use Rattle.type_check.proofs.Refusals as refusals
use Rattle.type_check.proofs.loan_refusal.Goals as goal
use Rattle.type_check.proofs.loan_refusal.Goals.{then-output-input-via-then-output-input, then-output-input-via-else-output-input+then-work-words}

pub returns-then-output-input : goal.returns-then-output-input
returns-then-output-input c =
    elim c.then-output-input.branch [
      | then-output-input-via-then-output-input w ↦ refusals.short_output _ _ _ _ c.name_count.ensures w.if-output-input.true
      | then-output-input-via-else-output-input+then-work-words w ↦ refusals.short_work _ _ _ _ c.name_count.ensures w.if-output-input.false w.if-work-words.true
    ]

pub returns : goal.returns
returns c = refusals.enough _ _ _ _ c.name_count.ensures c.if-output-input.false c.if-work-words.false
