use borrow.Author.Rules.{rules}
use Rattle.types.specs.Ty.{strip_to}
use Rattle.types.specs.Table.{unfolded}
use Rattle.types.proofs.Query as query
use Rattle.types.proofs.strip_to.Goals as goal

pub returns : goal.returns
returns c =
    query.stripped (strip_to (unfolded c.args.rows.now c.args.wanted)) _ _ _ _ _ c.strip_until.ensures
    (record {
      stays = λ at r is e says. query.strip_to_stays _ _ c.requires.0 at is r e c.args.wanted (search rules);
      goes_on = λ at r is e says. query.strip_to_on _ _ c.requires.0 at is r e c.args.wanted c.requires.2 (search rules) (search rules);
    })
