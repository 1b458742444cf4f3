-- What is read of an input, where its bytes are known.
use Rattle.std.specs.Prelude.{ℕ, ◌<◌, List, length, take, Option}
use Rattle.std.specs.Io.KnownBytes.{Consumes, IsAtEnd}

-- The first n bytes of the buffer were read; if that is not all of it, the input has ended
pub record ReadFull (before after : Option (List ℕ)) (n : ℕ) (buffer : List ℕ) : Type 0 where
  pub read : Consumes before after (take n buffer)
  pub ended : n < length buffer → IsAtEnd after

-- A read failed: its first `count` bytes were read before, and that is not all of it. What stands behind them is open, since a read may write into all of the buffer that it was lent
pub record ReadSome (before after : Option (List ℕ)) (buffer : List ℕ) : Type 0 where
  pub count : ℕ
  pub short : count < length buffer
  pub read : Consumes before after (take count buffer)
