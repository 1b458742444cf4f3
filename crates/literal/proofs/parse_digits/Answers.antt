-- Each exit of `parse_digits` and each turn of its loop, by the law for it. A byte is a byte of the table, whose word there is its worth as a digit.
use Rattle.std.proofs.Common.{◌≡◌, ◌<◌, ◌≤◌, length, get_or, rules}
use Rattle.literal.specs.Literal.{digit_value}
use Rattle.literal.proofs.Laws as laws
use Rattle.literal.proofs.parse_digits.Goals as goal

pub returns-then-is_empty : goal.returns-then-is_empty
returns-then-is_empty c = let h : length c.args.digits.now < 1 = search rules in search laws.none_left

pub loop-byte-init : goal.loop-byte-init
loop-byte-init c = (search rules, let h : 1 ≤ length c.args.digits.now = search rules in search laws.begun)

pub returns-then-base-digit : goal.returns-then-base-digit
returns-then-base-digit c =
    let i = c.loop-byte.byte-index in
    let worth : c.from-digit.result ≡ digit_value (get_or c.args.digits.now i 0) = search (rules, laws.worth_at) in
    search laws.no_digit

pub returns-then-value-gt-U16_MAX : goal.returns-then-value-gt-U16_MAX
returns-then-value-gt-U16_MAX c =
    let i = c.loop-byte.byte-index in
    let worth : c.from-digit.result ≡ digit_value (get_or c.args.digits.now i 0) = search (rules, laws.worth_at) in
    search laws.too_large

pub loop-byte-preserved : goal.loop-byte-preserved
loop-byte-preserved c =
    let i = c.loop-byte.byte-index in
    let worth : c.from-digit.result ≡ digit_value (get_or c.args.digits.now i 0) = search (rules, laws.worth_at) in
    (search rules, search laws.one_digit)

pub returns : goal.returns
returns c = search laws.ended
