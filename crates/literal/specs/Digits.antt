-- The table of digits, as it is lent to whoever reads literals.
use Rattle.std.specs.Prelude.{ℕ, ◌<◌, ◌≡◌, List, length, get_or}
use Rattle.literal.specs.Literal.{digit_value}

-- How many bytes there are
abbrev pub bytes : ℕ
bytes = 256

-- Document 02, paper 4: "a table of 256 numbers". At each byte stands its worth as a digit
pub record DigitTable (table : List ℕ) : Type 0 where
  pub long : length table ≡ bytes
  pub worth : (byte : ℕ) → byte < bytes → get_or table byte 0 ≡ digit_value byte
