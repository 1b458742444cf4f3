-- The words of a case.
use Rattle.std.specs.Prelude.{ℕ, ◌*◌, ◌/◌, cond, List, leb, length}
use Rattle.record_bytes.specs.Bytes.{word_at}

-- The word of this number in a part of a case; 0 past its last whole word
abbrev pub part_word : (part : List ℕ) (i : ℕ) → ℕ
part_word part i = cond (leb (length part / 4) i) 0 (word_at part (4 * i))
