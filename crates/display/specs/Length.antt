-- How long the texts of rows are: "the length is worked out first, without writing".
use Rattle.std.specs.Prelude.{ℕ, ◌+◌, ◌≤◌, ◌<◌, ◌≡◌, List, ◌∷◌, length, get_or}
use Rattle.types.specs.Ty.{Ty}
use Rattle.types.specs.Table.{unfolded}
use Rattle.text.specs.Length.{capped}
use Rattle.display.specs.Display.{NameTexts, type_text}
use Rattle.display.specs.Names.{name_text, Printable}

-- The text of row n; the number 0 has none
abbrev pub row_text : NameTexts → (w : List ℕ) → (n : ℕ) → List ℕ
row_text names w n = type_text names (unfolded w n)

-- The length of a type's text, counted no further than one past the longest
unfoldable pub text_length : NameTexts → Ty → ℕ
text_length names t = capped (length (type_text names t))

-- The working words begin with the lengths of the rows 1 to m
abbrev pub HaveLengths : NameTexts → (w : List ℕ) → (m : ℕ) → (work : List ℕ) → Type 0
HaveLengths names w m work = (i : ℕ) → i < m → get_or work i 0 ≡ text_length names (unfolded w (i + 1))

-- The length of row n in the working words; the number 0 has 0
abbrev pub length_at : (work : List ℕ) → (n : ℕ) → ℕ
length_at work n = get_or (0 ∷ work) n 0

-- The rows have texts, and the working words hold the lengths of the first m
pub record Measured (s built_in places w : List ℕ) (count m : ℕ) (work : List ℕ) : Type 0 where
  pub printable : Printable s places w count
  pub room : count ≤ length work
  pub held : HaveLengths (name_text s built_in) w m work

-- The working words have come to hold the length of each of the rows 1 to m; the others are as they were
pub record Filled (names : NameTexts) (w : List ℕ) (m : ℕ) (work work' : List ℕ) : Type 0 where
  pub long : length work' ≡ length work
  pub each : HaveLengths names w m work'
  pub past : (i : ℕ) → m ≤ i → get_or work' i 0 ≡ get_or work i 0
