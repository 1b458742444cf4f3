use Rattle.call_rules.proofs.Chains as chains
use Rattle.compound_rules.proofs.Repeats as repeats
use Rattle.compound_rules.proofs.occurrences.Goals as goal

pub word-requires : goal.word-requires
word-requires c = search repeats.name_word

pub length_at-at-requires : goal.length_at-at-requires
length_at-at-requires c = search chains.head_inside

pub loop-at-smaller : goal.loop-at-smaller
loop-at-smaller c = search chains.next_less

pub loop-at-preserved : goal.loop-at-preserved
loop-at-preserved c = search repeats.occurring_on

pub returns : goal.returns
returns c = search repeats.occurring_done
