-- How long a text may be.
use Rattle.std.specs.Prelude.{ℕ, ◌+◌, min}

-- The longest text that is written
abbrev pub longest : ℕ
longest = 1048576

-- What stands for every greater length
abbrev pub too_long : ℕ
too_long = longest + 1

-- A length counted no further than that
abbrev pub capped : ℕ → ℕ
capped n = min n too_long
