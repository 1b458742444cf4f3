-- A buffer, the first bytes of which are held for the next write.
use Rattle.std.specs.Prelude.{ℕ, ◌+◌, ◌≡◌, List, [], ◌∷◌, ◌++◌, leb, length, take, drop}
use Rattle.program_support.specs.Digits.{last_digits, IsDigitCount}
use Rattle.shape.specs.Shape.{pick}

-- What a buffer with so much room holds after a text: what it held, and the text; the text alone, where both do not fit; nothing, where the text does not
abbrev pub held_after : (room : ℕ) → (held text : List ℕ) → List ℕ
held_after room held text = pick (leb (length held + length text) room) (held ++ text) (pick (leb (length text) room) text [])

-- A text was put into a buffer of which so many bytes were held: now `r` are, and the bytes past them are as they were
pub record Put (buffer : List ℕ) (used : ℕ) (text : List ℕ) (buffer' : List ℕ) (r : ℕ) : Type 0 where
  pub count : r ≡ length (held_after (length buffer) (take used buffer) text)
  pub bytes : buffer' ≡ held_after (length buffer) (take used buffer) text ++ drop r buffer

-- A number was, in as few decimal digits as hold it
pub record PutNumber (buffer : List ℕ) (used n : ℕ) (buffer' : List ℕ) (r : ℕ) : Type 0 where
  pub count : ℕ
  pub fewest : IsDigitCount 10 1 n count
  pub put : Put buffer used (last_digits 10 count n) buffer' r

-- What a line is made of: texts and numbers
pub data Piece : Type 0 where
  a_text : List ℕ → Piece
  a_number : ℕ → Piece

abbrev pub PutPiece : Piece → (buffer : List ℕ) → (used : ℕ) → (buffer' : List ℕ) → (r : ℕ) → Type 0
PutPiece (a_text t) buffer used buffer' r = Put buffer used t buffer' r
PutPiece (a_number n) buffer used buffer' r = PutNumber buffer used n buffer' r

-- They were put into it one after the other
unfoldable pub PutAll : List Piece → (buffer : List ℕ) → (used : ℕ) → (buffer' : List ℕ) → (r : ℕ) → Type 0
PutAll [] buffer used buffer' r = (buffer' ≡ buffer) × (r ≡ used)
PutAll (p ∷ ps) buffer used buffer' r = (b : List ℕ) × (u : ℕ) × PutPiece p buffer used b u × PutAll ps b u buffer' r

-- `refused NUMBER at PLACE`, and the end of the line
abbrev pub refused_line : (n place : ℕ) → List Piece
refused_line n place =
    a_text (114 ∷ 101 ∷ 102 ∷ 117 ∷ 115 ∷ 101 ∷ 100 ∷ 32 ∷ []) ∷ a_number n ∷ a_text (32 ∷ 97 ∷ 116 ∷ 32 ∷ []) ∷ a_number place ∷ a_text (10 ∷ []) ∷ []

-- Words, a blank before each
unfoldable pub word_pieces : List ℕ → List Piece
word_pieces [] = []
word_pieces (w ∷ ws) = a_text (32 ∷ []) ∷ a_number w ∷ word_pieces ws

-- The first of them were, and the one that came next was not: it could not be written
pub record PutSome (ps : List Piece) (buffer : List ℕ) (used : ℕ) (buffer' : List ℕ) : Type 0 where
  pub done : List Piece
  pub failed : Piece
  pub later : List Piece
  pub held : ℕ
  pub are : done ++ (failed ∷ later) ≡ ps
  pub put : PutAll done buffer used buffer' held
