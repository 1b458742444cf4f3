use Rattle.types.proofs.Fixed as fixed
use borrow.Author.Rules.{rules}
use Rattle.types.proofs.put_fixed_rows.Goals as goal

pub loop-i-init : goal.loop-i-init
loop-i-init c = (search rules, search fixed.copied_none)

pub loop-i-preserved : goal.loop-i-preserved
loop-i-preserved c = (search rules, fixed.copied_more _ _ _ c.loop-i.invariant.1 (search rules))

pub returns : goal.returns
returns c = search fixed.copied_all
