-- The error list: errors as words in a lent slice, and how many there are.
use Rattle.std.specs.Prelude.{ℕ, zero, suc, ◌+◌, ◌*◌, ◌/◌, ◌≤◌, min, ◌≡◌, cond, List, [], ◌∷◌, ltb, length, get_or}
use Rattle.std.proofs.lemmas.List.Edits.{sets}
use Rattle.fallible.specs.declared.Error.{Error}

-- "An error is seven words", and "the error record gains an eighth word".
abbrev pub error_width : ℕ
error_width = 8

-- "kind, file, line, column and three operands", then "the byte place of its expression, or 0 for other kinds", as they stand in the list.
abbrev pub error_words : Error → List ℕ
error_words error =
    error.kind ∷ error.file ∷ error.line ∷ error.column ∷ error.first ∷ error.second ∷ error.third ∷ error.place ∷ []

-- The error whose words these are, by their places from 0.
abbrev pub error_of : (word : ℕ → ℕ) → Error
error_of word =
    record {
      kind = word 0;
      file = word 1;
      line = word 2;
      column = word 3;
      first = word 4;
      second = word 5;
      third = word 6;
      place = word 7;
    }

-- A word of the error at a number, from 0.
abbrev pub error_word : (words : List ℕ) → (number place : ℕ) → ℕ
error_word words number place = get_or words (error_width * number + place) 0

-- The error at a number.
unfoldable pub error_at : (words : List ℕ) → (number : ℕ) → Error
error_at words number = error_of (error_word words number)

-- As many errors as asked for, from a number on.
unfoldable pub errors_from : (words : List ℕ) → (number many : ℕ) → List Error
errors_from words number zero = []
errors_from words number (suc many) = error_at words number ∷ errors_from words (number + 1) many

-- "An error list and a count": the words lent, and the count of errors.
pub record ErrorList : Type 0 where
  pub words : List ℕ
  pub count : ℕ

abbrev pub error_list : List ℕ → ℕ → ErrorList
error_list words count = record { words = words; count = count }

-- The whole records that the words lent hold.
abbrev pub room : List ℕ → ℕ
room words = length words / error_width

-- One more error: written where there is room for it, and counted. The count goes one past the room and no further.
unfoldable pub pushed : ErrorList → Error → ErrorList
pushed list error =
    record {
      words = cond (ltb list.count (room list.words)) (sets list.words (error_width * list.count) (error_words error)) list.words;
      count = min (list.count + 1) (room list.words + 1);
    }

-- Errors in the order in which they are met.
unfoldable pub push_all : ErrorList → List Error → ErrorList
push_all list [] = list
push_all list (error ∷ errors) = push_all (pushed list error) errors

-- The list holds exactly these errors, and the words past them are as they were.
pub record HoldsErrors (before : List ℕ) (errors : List Error) (list : ErrorList) : Type 0 where
  pub count : list.count ≡ length errors
  pub listed : errors_from list.words 0 (length errors) ≡ errors
  pub past : (i : ℕ) → error_width * length errors ≤ i → get_or list.words i 0 ≡ get_or before i 0
  pub lent : length list.words ≡ length before
