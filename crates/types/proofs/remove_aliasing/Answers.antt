use borrow.Author.Rules.{rules}
use Rattle.types.specs.Ty.{remove_aliasing}
use Rattle.types.proofs.Query as query
use Rattle.types.proofs.remove_aliasing.Goals as goal

pub returns : goal.returns
returns c =
    query.stripped remove_aliasing _ _ _ _ _ c.strip_until.ensures
    (record {
      stays = λ at r is e says. query.remove_aliasing_stays _ _ c.requires.0 at is r e (search rules);
      goes_on = λ at r is e says. query.remove_aliasing_on _ _ c.requires.0 at is r e (search rules);
    })
