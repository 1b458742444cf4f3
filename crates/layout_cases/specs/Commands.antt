-- What is read of a command.
use Rattle.std.specs.Prelude.{ℕ, ◌+◌, ◌*◌, ◌≡◌, ◌⊎◌, List, length, take, drop, min, get_or, Option}
use Rattle.program_support.specs.Input.{ReadFull, ReadSome}

-- A number of four bytes, no larger than the room. The fourth is not looked at
abbrev pub number_of : (bytes : List ℕ) → ℕ
number_of bytes = min (get_or bytes 0 0 + 256 * get_or bytes 1 0 + 65536 * get_or bytes 2 0) 70000

-- `r` is the number of four bytes that were read; if the input ended before, what stood in their place counts
pub record NumberRead (before after : Option (List ℕ)) (r : ℕ) : Type 0 where
  pub bytes : List ℕ
  pub four : length bytes ≡ 4
  pub count : ℕ
  pub read : ReadFull before after count bytes
  pub is : r ≡ number_of bytes

-- A read of its bytes failed
pub record NumberFailed (before after : Option (List ℕ)) : Type 0 where
  pub bytes : List ℕ
  pub four : length bytes ≡ 4
  pub read : ReadSome before after bytes

-- How long the new base is was read, and some of its bytes; those behind them all are as they were
pub record BaseFailed (before after : Option (List ℕ)) (base base' : List ℕ) : Type 0 where
  pub between : Option (List ℕ)
  pub end : ℕ
  pub number : NumberRead before between end
  pub read : ReadSome between after (take end base')
  pub kept : drop end base' ≡ drop end base

-- A new base was not read: its length was not, and the base is as it was; or its bytes were not
abbrev pub ReplaceFailed : (before after : Option (List ℕ)) (base base' : List ℕ) → Type 0
ReplaceFailed before after base base' = (NumberFailed before after × (base' ≡ base)) ⊎ BaseFailed before after base base'
