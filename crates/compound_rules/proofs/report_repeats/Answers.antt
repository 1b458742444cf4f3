use Rattle.call_rules.proofs.Chains as chains
use Rattle.compound_rules.proofs.Repeats as repeats
use Rattle.compound_rules.proofs.report_repeats.Goals as goal

pub loop-at-init : goal.loop-at-init
loop-at-init c = search repeats.repeats_start

pub word-name-requires : goal.word-name-requires
word-name-requires c = search repeats.repeated_inside

pub report_unless-next-requires : goal.report_unless-next-requires
report_unless-next-requires c = search repeats.repeated_head

pub length_at-at-requires : goal.length_at-at-requires
length_at-at-requires c = search chains.head_inside

pub loop-at-smaller : goal.loop-at-smaller
loop-at-smaller c = search chains.next_less

pub loop-at-preserved : goal.loop-at-preserved
loop-at-preserved c = search repeats.repeats_on

pub returns : goal.returns
returns c = search repeats.repeats_done
