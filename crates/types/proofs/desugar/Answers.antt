use borrow.Author.Rules.{rules}
use Rattle.types.specs.Ty.{desugar}
use Rattle.types.proofs.Query as query
use Rattle.types.proofs.desugar.Goals as goal

pub returns : goal.returns
returns c =
    query.stripped desugar _ _ _ _ _ c.strip_until.ensures
    (record {
      stays = λ at r is e says. query.desugar_stays _ _ c.requires.0 at is r e (search rules);
      goes_on = λ at r is e says. query.desugar_on _ _ c.requires.0 at is r e (search rules);
    })
