-- Decimal digits: how many a number has, and a loop that writes them from the last on.
use Prim.Native.Nat.{ℕ, zero, suc, ◌+◌, ◌-◌, ◌*◌, ◌/◌, ◌%◌, ◌^◌, ◌≤◌, ◌<◌}
use native.Mathlib.Omega.{arith}
use mathlib.Core.Path.{◌≡◌, refl, sym, ap, ◌∙◌}
use mathlib.Core.List.{List, [], ◌∷◌, ◌++◌, append_assoc, append-nil}
use borrow.Author.Tests.{lt-ltb, le-ltb}
use lib.ListN.{length, length-append, set}
use lib.Seq.{sets, length-sets}
use native.Mathlib.Decide.{dec_le}
use Rattle.std.specs.Prelude as code
use Rattle.std.specs.Prelude.{IfNone, IfSome, unwrap_or}
use Rattle.text.proofs.Writing.{set_apart}
use Rattle.text.specs.Text.{digit, decimal_with, decimal}
use Rattle.text.specs.Written.{Fits, Written}

-- The powers of ten that a word needs, by how many digits are left
abbrev pub power : ℕ → ℕ
power zero = 1
power (suc d) = 10 * power d

pub one_digit : (d n : ℕ) → n < 10 → decimal_with (suc d) n ≡ digit n
unfolding decimal_with
one_digit d n p = rw (lt-ltb n 10 p, decimal_with) refl

pub more_digits : (d n : ℕ) → 10 ≤ n → decimal_with (suc d) n ≡ decimal_with d (n / 10) ++ digit (n % 10)
unfolding decimal_with
more_digits d n p = rw (le-ltb n 10 p, decimal_with) refl

-- A number from a power of ten up to the next has one digit more than the power
digits_of : (d n k : ℕ) → k < d → 10 ^ k ≤ n → n < 10 * 10 ^ k → length (decimal_with d n) ≡ k + 1
digits_of zero n k few low high = absurd (omega arith)
digits_of (suc d) n zero few low high = ap length (one_digit d n (omega arith))
digits_of (suc d) n (suc k) few low high =
    let more = ap length (more_digits d n (omega arith)) ∙ length-append (decimal_with d (n / 10)) (digit (n % 10)) in
    let before = digits_of d (n / 10) k (omega arith) (omega arith) (omega arith) in
    omega arith

-- What `checked_ilog10` gives, by one more
pub log_digits : (n : ℕ) (log : code.Option ℕ) → IfNone log (n ≡ 0) → IfSome log (λ k. 10 ^ k ≤ n) → IfSome log (λ k. n < 10 * 10 ^ k) → IfSome log (λ k. k < 10)
    → unwrap_or log 0 + 1 ≡ length (decimal n)
unfolding decimal
log_digits n code.None none low high few = sym (ap length (one_digit 9 n (omega (arith, none))))
log_digits n (code.Some k) none low high few = sym (digits_of 10 n k few low high)

-- A number has at most 10 digits
pub few_digits : (d n : ℕ) → length (decimal_with d n) ≤ d
unfolding decimal_with
few_digits zero n = omega arith
few_digits (suc d) n = elim (dec_le 10 n) [ yes h ↦ many h (few_digits d (n / 10)) | no h ↦ let e = ap length (one_digit d n (omega arith)) in omega arith ]
  where
    many : 10 ≤ n → length (decimal_with d (n / 10)) ≤ d → length (decimal_with (suc d) n) ≤ suc d
    many h i =
        let e = ap length (more_digits d n h) ∙ length-append (decimal_with d (n / 10)) (digit (n % 10)) in
        omega arith

pub decimal_at_most_ten : (n : ℕ) → length (decimal n) ≤ 10
unfolding decimal
decimal_at_most_ten n = few_digits 10 n

-- The digits of n are written from the last on: `behind` are written, `ahead` are not yet, and are those of `left`
pub record Leaving (n left : ℕ) (ahead behind : List ℕ) : Type 0 where
  pub whole : decimal n ≡ ahead ++ behind
  pub fuel : ℕ
  pub small : left < power (suc fuel)
  pub are : 1 ≤ length ahead → ahead ≡ decimal_with (suc fuel) left

pub leaving_start : (n : ℕ) → n < 4294967296 → Leaving n n (decimal n) []
unfolding decimal
leaving_start n p = record { whole = sym (append-nil (decimal n)); fuel = 9; small = omega arith; are = λ q. refl }

-- The last of them
pub record OneLess (n left : ℕ) (ahead behind : List ℕ) : Type 0 where
  pub ahead' : List ℕ
  pub long : length ahead' + 1 ≡ length ahead
  pub rest : Leaving n (left / 10) ahead' ((48 + left % 10) ∷ behind)

pub leaving_on : (n left : ℕ) (ahead behind : List ℕ) → Leaving n left ahead behind → 1 ≤ length ahead → OneLess n left ahead behind
leaving_on n left ahead behind l p = elim (dec_le 10 left) [ yes h ↦ many l.fuel l.small (l.are p) h | no h ↦ last (omega arith) ]
  where
    last : left < 10 → OneLess n left ahead behind
    last h =
        let e = l.are p ∙ one_digit l.fuel left h in
        let r : left % 10 ≡ left = omega arith in
        record {
          ahead' = [];
          long = sym (ap length e);
          rest = record {
            whole = l.whole ∙ ap (λ (a : List ℕ). a ++ behind) e ∙ ap (λ (m : ℕ). (48 + m) ∷ behind) (sym r);
            fuel = 0;
            small = omega arith;
            are = λ q. absurd (omega arith);
          };
        }

    many : (fuel : ℕ) → left < power (suc fuel) → ahead ≡ decimal_with (suc fuel) left → 10 ≤ left → OneLess n left ahead behind
    many zero s e h = absurd (omega arith)
    many (suc f) s e h =
        let d = e ∙ more_digits (suc f) left h in
        let k = ap length d ∙ length-append (decimal_with (suc f) (left / 10)) (digit (left % 10)) in
        record {
          ahead' = decimal_with (suc f) (left / 10);
          long = omega arith;
          rest = record {
            whole = l.whole ∙ ap (λ (a : List ℕ). a ++ behind) d ∙ append_assoc (decimal_with (suc f) (left / 10)) (digit (left % 10)) behind;
            fuel = f;
            small = omega arith;
            are = λ q. refl;
          };
        }

-- The state of the loop: `to` is where the digits that are written begin
pub record Putting (n : ℕ) (text₀ : List ℕ) (at end : ℕ) (text : List ℕ) (left to : ℕ) : Type 0 where
  pub ahead : List ℕ
  pub behind : List ℕ
  pub leaving : Leaving n left ahead behind
  pub place : to ≡ at + length ahead
  pub ends : end ≡ at + length (decimal n)
  pub room : end ≤ length text₀
  pub text_is : text ≡ sets text₀ to behind

pub putting_start : (n : ℕ) (text₀ : List ℕ) (at d : ℕ) → n < 4294967296 → d ≡ length (decimal n) → Fits (decimal n) text₀ at
    → Putting n text₀ at (at + d) text₀ n (at + d)
putting_start n text₀ at d small long fits =
    record {
      ahead = decimal n;
      behind = [];
      leaving = leaving_start n small;
      place = omega (arith, long);
      ends = omega (arith, long);
      room = omega (arith, long, fits.room);
      text_is = refl;
    }

module _ (n : ℕ) (text₀ : List ℕ) (at end : ℕ) (text : List ℕ) (left to : ℕ) (p : Putting n text₀ at end text left to) where
  -- Cited by nothing here now
  pub putting_low : at ≤ to
  putting_low = omega (arith, p.place)

  pub putting_inside : to ≤ length text
  putting_inside =
      let l = ap length p.text_is ∙ length-sets text₀ to p.behind in
      let m = ap length p.leaving.whole ∙ length-append p.ahead p.behind in
      omega (arith, p.place, p.ends, p.room)

  pub putting_on : at < to → Putting n text₀ at end (set text (to - 1) (48 + left % 10)) (left / 10) (to - 1)
  putting_on more =
      let o = leaving_on n left p.ahead p.behind p.leaving (omega (arith, p.place)) in
      let e : suc (to - 1) ≡ to = omega arith in
      record {
        ahead = o.ahead';
        behind = (48 + left % 10) ∷ p.behind;
        leaving = o.rest;
        place = omega (arith, p.place, o.long);
        ends = p.ends;
        room = p.room;
        text_is =
            ap (λ (t : List ℕ). set t (to - 1) (48 + left % 10)) p.text_is
            ∙ set_apart p.behind text₀ to (to - 1) (48 + left % 10) (omega arith)
            ∙ ap (λ (i : ℕ). sets (set text₀ (to - 1) (48 + left % 10)) i p.behind) (sym e);
      }

  pub putting_done : to ≤ at → Written (decimal n) text₀ text at end
  putting_done q =
      let z : length p.ahead ≡ 0 = omega (arith, p.place) in
      let e : to ≡ at = omega (arith, p.place) in
      let d = p.leaving.whole ∙ ap (λ (a : List ℕ). a ++ p.behind) (empty p.ahead z) in
      record { stored = p.text_is ∙ (λ i. sets text₀ (e i) (sym d i)); next = p.ends }
    where
      empty : (l : List ℕ) → length l ≡ 0 → l ≡ []
      empty [] h = refl
      empty (x ∷ l) h = absurd (omega arith)

  pub putting_long : length text ≡ length text₀
  putting_long = ap length p.text_is ∙ length-sets text₀ to p.behind
