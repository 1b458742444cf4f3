use Prim.Native.Nat.{◌+◌}
use mathlib.Core.Path.{sym, ap, ◌∙◌}
use native.Mathlib.Omega.{arith}
use Rattle.fallible.specs.Errors.{error_list, error_words}
use Rattle.fallible.proofs.Stores.{part_sets}
use Rattle.fallible.proofs.Laws as laws
use borrow.Author.Rules.{rules}
use Rattle.fallible.proofs.push_error.Goals as goal

pub returns-then-room-count : goal.returns-then-room-count
returns-then-room-count c = sym (laws.pushed_full _ _ _ (search rules))

pub returns : goal.returns
returns c =
    rw (laws.pushed_room c.args.errors.now c.args.count c.args.error (search rules))
    (ap (λ w. error_list w (c.args.count + 1)) (part_sets _ _ c.args.errors.now _ (error_words c.args.error) (c.copy_from_slice.ensures.after ∙ c.words.ensures) (omega arith) (omega arith)))
