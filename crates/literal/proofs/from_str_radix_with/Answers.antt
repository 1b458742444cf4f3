-- A law for each exit.
use Rattle.std.proofs.Common.{◌≡◌, get_or, arith}
use borrow.Author.Tests.{ltb-true}
use Rattle.literal.proofs.Laws as laws
use Rattle.literal.proofs.from_str_radix_with.Goals as goal
use Rattle.literal.proofs.from_str_radix_with.Goals.{in_default-via-then-text-lt1, in_default-via-else-text-lt1+in_default-1}

pub returns-then-base-lt-MIN_BASE : goal.returns-then-base-lt-MIN_BASE
returns-then-base-lt-MIN_BASE c = laws.no_base c.args.base c.args.text.now c.then-base-lt-MIN_BASE.either

pub returns-in-43 : goal.returns-in-43
returns-in-43 c =
    let plus : get_or c.args.text.now 0 0 ≡ 43 = omega arith in
    search laws.after_plus

pub returns-in_default : goal.returns-in_default
returns-in_default c =
    let no_plus = laws.no_plus c.args.base c.if-base-lt-MIN_BASE.false c.if-base-gt-MAX_BASE.false _ c.args.text.now in
    elim c.in_default.branch [
      | in_default-via-then-text-lt1 w ↦ no_plus (λ h e. absurd (omega (arith, ltb-true))) c.parse_digits-in_default.ensures
      | in_default-via-else-text-lt1+in_default-1 w ↦ no_plus (λ h e. absurd (omega arith)) c.parse_digits-in_default.ensures
    ]
