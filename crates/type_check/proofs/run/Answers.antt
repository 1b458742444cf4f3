use Rattle.type_check.proofs.Outcomes as outcomes
use Rattle.type_check.proofs.run.Goals as goal

pub both_passes-last-requires : goal.both_passes-last-requires
both_passes-last-requires c = let k = outcomes.passes_asked c.args.output.now c.args.work.now c.requires.passed c.requires.work_len (c.fill.ensures.after (λ y e. e)) c.copy_bytes.ensures in record { passed = k.0; output_value = k.1.0; work_value = k.1.1 }

pub returns-then-last : goal.returns-then-last
returns-then-last c = outcomes.no_rows _ _ c.requires.passed c.requires.work_len (c.fill.ensures.after (λ y e. e)) c.copy_bytes.ensures c.both_passes-last.ensures (c.fill-2.ensures.after (λ y e. e)) c.wipe.ensures.output_value c.wipe.ensures.rows_value c.wipe.ensures.errors_value c.if-last.true

pub wipe-requires-then-room-last : goal.wipe-requires-then-room-last
wipe-requires-then-room-last c = outcomes.room_left c.args.output.now c.args.work.now c.requires.passed c.requires.work_len (c.fill.ensures.after (λ y e. e)) c.copy_bytes.ensures c.both_passes-last.ensures (c.fill-2.ensures.after (λ y e. e))

pub returns-then-room-last : goal.returns-then-room-last
returns-then-room-last c = outcomes.no_errors _ _ c.requires.passed c.requires.work_len (c.fill.ensures.after (λ y e. e)) c.copy_bytes.ensures c.both_passes-last.ensures (c.fill-2.ensures.after (λ y e. e)) c.wipe-then-room-last.ensures.output_value c.wipe-then-room-last.ensures.rows_value c.wipe-then-room-last.ensures.errors_value c.if-last.false c.if-room-last.true

pub returns : goal.returns
returns c = outcomes.counted _ _ c.requires.passed c.requires.work_len (c.fill.ensures.after (λ y e. e)) c.copy_bytes.ensures c.both_passes-last.ensures (c.fill-2.ensures.after (λ y e. e)) c.if-last.false c.if-room-last.false
