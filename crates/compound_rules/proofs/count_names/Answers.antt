use Rattle.call_rules.proofs.Chains as chains
use borrow.Author.Rules.{rules}
use Rattle.compound_rules.proofs.Tables as tables
use Rattle.compound_rules.proofs.count_names.Goals as goal

pub loop-at-init : goal.loop-at-init
loop-at-init c = search tables.tallying_start

pub word-requires : goal.word-requires
word-requires c = search tables.tally_word

pub length_at-at-requires : goal.length_at-at-requires
length_at-at-requires c = search chains.head_inside

pub loop-at-smaller : goal.loop-at-smaller
loop-at-smaller c = search chains.next_less

pub loop-at-preserved : goal.loop-at-preserved
loop-at-preserved c = search tables.tallying_on

pub returns : goal.returns
returns c = (search tables.tallying_done, search rules)
