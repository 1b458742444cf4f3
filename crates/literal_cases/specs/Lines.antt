-- What the program prints: a line for each base, a line for each case.
use Rattle.std.specs.Prelude.{ℕ, zero, suc, ◌+◌, List, [], ◌∷◌, ◌++◌, cond, ltb, length, take, drop}
use Rattle.std.proofs.Math.Option.{Option, none, some}
use Rattle.literal_cases.specs.Places.{index_of}
use Rattle.literal.specs.Literal.{from_str_radix}
use Rattle.program_support.specs.Buffer.{Piece, a_text, a_number}
use Rattle.literal_cases.specs.Numbers.{decimal}

-- ` BYTE=VALUE`
abbrev pub byte_value : (byte value : ℕ) → List Piece
byte_value byte value = a_text (32 ∷ []) ∷ a_number byte ∷ a_text (61 ∷ []) ∷ a_number value ∷ []

-- It, if there is a value
abbrev pub byte_is : (byte : ℕ) → Option ℕ → List Piece
byte_is byte none = []
byte_is byte (some value) = byte_value byte value

-- For a text of this one byte
abbrev pub byte_alone : (base byte : ℕ) → List Piece
byte_alone base byte = byte_is byte (from_str_radix base (byte ∷ []))

-- For each of the first so many bytes, which begin with 0
unfoldable pub bytes_alone : (base count : ℕ) → List Piece
bytes_alone base zero = []
bytes_alone base (suc byte) = bytes_alone base byte ++ byte_alone base byte

-- The line of a base
unfoldable pub base_line : (base : ℕ) → List Piece
base_line base = a_number base ∷ bytes_alone base 256 ++ (a_text (10 ∷ []) ∷ [])

-- The lines of the first so many bases, which begin with 0
unfoldable pub base_lines : (count : ℕ) → List Piece
base_lines zero = []
base_lines (suc base) = base_lines base ++ base_line base

-- `VALUE` or `invalid`, and the end of the line
abbrev pub answer_line : Option ℕ → List Piece
answer_line none = a_text (105 ∷ 110 ∷ 118 ∷ 97 ∷ 108 ∷ 105 ∷ 100 ∷ 10 ∷ []) ∷ []
answer_line (some value) = a_number value ∷ a_text (10 ∷ []) ∷ []

-- `not a case`, and the end of the line
abbrev pub not_a_case : List ℕ
not_a_case = 110 ∷ 111 ∷ 116 ∷ 32 ∷ 97 ∷ 32 ∷ 99 ∷ 97 ∷ 115 ∷ 101 ∷ 10 ∷ []

-- The answer to a text, if there is a base
abbrev pub text_line : (base : Option ℕ) → (text : List ℕ) → List Piece
text_line none text = a_text not_a_case ∷ []
text_line (some base) text = answer_line (from_str_radix base text)

-- The answer to a line whose first blank (32) is at this place: the base is before it, the text behind it
abbrev pub line_at : (blank : ℕ) → (line : List ℕ) → List Piece
line_at blank line =
    cond (ltb blank (length line))
    (text_line (decimal (take blank line)) (drop (blank + 1) line))
    (a_text not_a_case ∷ [])

unfoldable pub case_line : (line : List ℕ) → List Piece
case_line line = line_at (index_of 32 line) line

-- The answers to the first so many lines of an input. A line ends before a 10 or with the input
unfoldable pub lines_from : (most : ℕ) → (input : List ℕ) → List Piece
lines_from zero input = []
lines_from (suc most) [] = []
lines_from (suc most) (byte ∷ input) =
    case_line (take (index_of 10 (byte ∷ input)) (byte ∷ input)) ++ lines_from most (drop (index_of 10 (byte ∷ input)) input)

-- The answers to all of them: there are no more lines than bytes
unfoldable pub case_lines : (input : List ℕ) → List Piece
case_lines input = lines_from (length input) input
