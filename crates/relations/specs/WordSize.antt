-- The words answer (document 01, "Type rows", Words): unknown, or too large above 65,535 words, or the number.
use Rattle.std.specs.Prelude.{ℕ, cond, leb}
use Rattle.std.proofs.Math.Option.{Option, none, some}
use Rattle.size_words.specs.SizeWords.{too_large_word, unknown_word}
use Rattle.types.specs.Ty.{Ty}
use Rattle.types.specs.WordSize.{IrType, to_ir_type, ir_word_size}
use Rattle.relations.specs.declared.WordSize.{WordSize}
use Rattle.relations.specs.declared.WordSize.TheVariants.{Words, TooLarge, Unknown}

-- The largest number that is answered
abbrev pub largest : ℕ
largest = 65535

-- The answer for a backend type, or for none
abbrev pub answered : Option IrType → WordSize
answered none = Unknown
answered (some t) = cond (leb (ir_word_size t) largest) (Words (ir_word_size t)) TooLarge

unfoldable pub word_size_of : Ty → WordSize
word_size_of t = answered (to_ir_type t)

-- An answer as one word, as in a row: the words, 65,536 for too large, 65,537 for Unknown inside
abbrev pub as_word : WordSize → ℕ
as_word (Words n) = n
as_word TooLarge = too_large_word
as_word Unknown = unknown_word
