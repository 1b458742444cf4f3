-- The base of a case: a number of 32 bits in decimal digits.
use Rattle.std.specs.Prelude.{ℕ, ◌+◌, ◌-◌, ◌*◌, cond, ◌&&◌, List, [], ◌∷◌, leb, ltb, length}
use Rattle.std.proofs.Math.Option.{Option, none, some}
use Rattle.std.specs.Prelude as code

-- The number that digits give behind others of the value `number`: all of them are `0` (48) to `9`, and it fits 32 bits
unfoldable pub decimal_from : (number : ℕ) → List ℕ → Option ℕ
decimal_from number [] = some number
decimal_from number (byte ∷ digits) =
    cond (leb 48 byte && leb byte 57 && leb (number * 10 + (byte - 48)) 4294967295)
    (decimal_from (number * 10 + (byte - 48)) digits)
    none

-- A number in digits, of which there is at least one
unfoldable pub decimal : List ℕ → Option ℕ
decimal digits = cond (ltb 0 (length digits)) (decimal_from 0 digits) none

-- What the code's answer stands for
abbrev pub base_read : code.Option ℕ → Option ℕ
base_read (code.Some number) = some number
base_read code.None = none
