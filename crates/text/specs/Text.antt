-- Texts as bytes.
use Rattle.std.specs.Prelude.{ℕ, zero, suc, ◌+◌, ◌/◌, ◌%◌, true, false, List, ◌++◌, [] as nil, ◌∷◌ as ◌then◌, ltb}
use Prim.Native.Char.{code}
use Prim.Native.String.{String, [], ◌∷◌}

-- The bytes of an ASCII text
abbrev pub ascii : String → List ℕ
ascii [] = nil
ascii (c ∷ s) = code c then ascii s

-- The digit of a number below 10; 48 is '0'
abbrev pub digit : ℕ → List ℕ
digit n = (48 + n) then nil

-- A number in decimal, in so many digits at most: those before the last, if there are any, then the last. No zero leads
unfoldable pub decimal_with : (digits : ℕ) → ℕ → List ℕ
decimal_with zero n = nil
decimal_with (suc d) n = elim (ltb n 10) [ true ↦ digit n | false ↦ decimal_with d (n / 10) ++ digit (n % 10) ]

-- A number below 2 ^ 32 in decimal: it has at most 10 digits
unfoldable pub decimal : ℕ → List ℕ
decimal n = decimal_with 10 n
