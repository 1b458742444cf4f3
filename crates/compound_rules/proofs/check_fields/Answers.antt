use Rattle.call_rules.proofs.Chains as chains
use borrow.Author.Rules.{rules}
use Rattle.compound_rules.proofs.Fields as fields
use Rattle.compound_rules.proofs.check_fields.Goals as goal

pub loop-place-init : goal.loop-place-init
loop-place-init c = search fields.checking_start

pub check_field-next-requires : goal.check_field-next-requires
check_field-next-requires c = record { place_in_bounds = (search fields.name_inside, search fields.value_inside, search rules); bare_value = (search rules, search fields.value_is) }

pub length_at-place-requires : goal.length_at-place-requires
length_at-place-requires c = search chains.head_inside

pub loop-place-smaller : goal.loop-place-smaller
loop-place-smaller c = search chains.next_less

pub loop-place-preserved : goal.loop-place-preserved
loop-place-preserved c = search fields.checking_on

pub returns : goal.returns
returns c = search fields.checking_done
