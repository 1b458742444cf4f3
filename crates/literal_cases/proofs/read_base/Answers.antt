use Rattle.std.proofs.Common.{◌<◌, ◌≤◌, length, rules}
use Rattle.literal_cases.proofs.NumberLaws as numbers
use Rattle.literal_cases.proofs.read_base.Goals as goal

pub returns-then-is_empty : goal.returns-then-is_empty
returns-then-is_empty c =
    let none : length c.args.digits.now < 1 = search rules in
    search numbers.none_there

pub loop-digit-init : goal.loop-digit-init
loop-digit-init c =
    let some : 1 ≤ length c.args.digits.now = search rules in
    (search rules, numbers.begun c.args.digits.now some)

pub returns-then-digit-lt48 : goal.returns-then-digit-lt48
returns-then-digit-lt48 c =
    let l = c.loop-digit in
    numbers.no_digit c.args.digits.now l.number l.digit-index l.invariant.1 c.loop-digit-test.true c.then-digit-lt48.either

pub returns-then-number-gt-U32_MAX : goal.returns-then-number-gt-U32_MAX
returns-then-number-gt-U32_MAX c =
    let l = c.loop-digit in
    numbers.too_large c.args.digits.now l.number l.digit-index l.invariant.1 c.loop-digit-test.true c.if-digit-lt48.false c.if-digit-gt57.false c.if-number-gt-U32_MAX.true

pub loop-digit-preserved : goal.loop-digit-preserved
loop-digit-preserved c =
    let l = c.loop-digit in (
      c.if-number-gt-U32_MAX.false,
      numbers.one_digit c.args.digits.now l.number l.digit-index l.invariant.1 c.loop-digit-test.true c.if-digit-lt48.false c.if-digit-gt57.false c.if-number-gt-U32_MAX.false,
    )

pub returns : goal.returns
returns c =
    let l = c.loop-digit in
    numbers.ended c.args.digits.now l.number l.digit-index l.invariant.1 c.loop-digit-test.false
