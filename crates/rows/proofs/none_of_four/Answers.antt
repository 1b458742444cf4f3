-- Where one of the four rows has the key, which of them.
use borrow.Author.Tests.{eqb-true, not-false}
use native.Mathlib.Omega.{arith}
use mathlib.Core.Path.{sym, ◌∙◌}
use Rattle.rows.proofs.Search as laws
use Rattle.rows.proofs.none_of_four.Goals as goal
use Rattle.rows.proofs.none_of_four.Goals.{then-rows-at-2, else-rows-at-2, then-rows-at, else-rows-at}

pub returns-else-rows-at-3 : goal.returns-else-rows-at-3
returns-else-rows-at-3 c =
    let no = c.if-rows-at-3.false in
    elim c.if-rows-at-2.branch [
      | then-rows-at-2 w ↦ laws.one_of_four _ _ _ 2 _ _ no (eqb-true _ _ (not-false _ (sym w.value-is ∙ no))) (omega arith) (omega arith)
      | else-rows-at-2 w ↦ elim c.if-rows-at.branch [
        | then-rows-at w' ↦ laws.one_of_four _ _ _ 1 _ _ no (eqb-true _ _ (not-false _ (sym w'.value-is ∙ w.if-rows-at-2.false))) (omega arith) (omega arith)
        | else-rows-at w' ↦ laws.one_of_four _ _ _ 0 _ _ no w'.if-rows-at.false (omega arith) (omega arith)
      ]
    ]
