use Rattle.call_rules.proofs.Chains as chains
use Rattle.call_rules.proofs.count_records.Goals as goal

pub length_at-at-requires : goal.length_at-at-requires
length_at-at-requires c = search chains.head_inside

pub loop-at-smaller : goal.loop-at-smaller
loop-at-smaller c = search chains.next_less

pub loop-at-preserved : goal.loop-at-preserved
loop-at-preserved c = search chains.counting_on

pub returns : goal.returns
returns c = search chains.counting_done
