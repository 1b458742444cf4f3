use native.Mathlib.Numerals.{towards_suc}
use mathlib.Core.Path.{◌∙◌}
use mathlib.Core.List.{[], ◌∷◌}
use native.Mathlib.Omega.{arith}
use Rattle.rows.proofs.Stores.{part_sets}
use Rattle.rows.proofs.store.Goals as goal

pub returns : goal.returns
returns c =
    let r = c.args.row in
    part_sets _ _ c.args.rows.now _ (r.kind ∷ r.first ∷ r.second ∷ r.name ∷ c.args.size ∷ []) c.copy_from_slice.ensures.after (omega arith) (omega arith) ∙ simp towards_suc
