-- Document 01: the report program "prints counts, then kind, file, line, column of each error".
use Rattle.std.specs.Prelude.{ℕ, List, [], ◌∷◌, ◌++◌}
use Rattle.fallible.specs.declared.Error.{Error}
use Rattle.program_support.specs.Buffer.{Piece, a_text, a_number, word_pieces}

-- `rows ROWS errors ERRORS`, and the end of the line
abbrev pub counts_line : (rows errors : ℕ) → List Piece
counts_line rows errors =
    a_text (114 ∷ 111 ∷ 119 ∷ 115 ∷ 32 ∷ []) ∷ a_number rows ∷ a_text (32 ∷ 101 ∷ 114 ∷ 114 ∷ 111 ∷ 114 ∷ 115 ∷ 32 ∷ []) ∷ a_number errors ∷ a_text (10 ∷ []) ∷ []

-- `KIND FILE LINE COLUMN`, and the end of the line
abbrev pub error_line : Error → List Piece
error_line e = a_number e.kind ∷ word_pieces (e.file ∷ e.line ∷ e.column ∷ []) ++ (a_text (10 ∷ []) ∷ [])

-- A line for each error
unfoldable pub error_lines : List Error → List Piece
error_lines [] = []
error_lines (e ∷ es) = error_line e ++ error_lines es
