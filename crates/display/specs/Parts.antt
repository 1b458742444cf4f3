-- How this crate cuts the text of a row: an opening, its first part, a middle, its second part. Inner to the crate: proofs/Whole.antt has that
-- the four together are `type_text`.
use Rattle.std.specs.Prelude.{ℕ, ◌≤◌, ◌<◌, ◌≡◌, Bool, cond, List, [], ◌++◌, eqb, ltb}
use Rattle.types.specs.Ty.{Ty, end, kind_of, first_of, second_of, size_of, name_of, unknown_kind, void_kind, bool_kind, u16_kind}
use Rattle.types.specs.Ty.{i16_kind, pointer_kind, array_kind, struct_kind, function_kind, alias_kind, distinct_kind, field_kind}
use Rattle.types.specs.Table.{unfolded}
use Rattle.text.specs.Text.{ascii, decimal}
use Rattle.display.specs.Display.{NameTexts}

-- What stands before the first part
abbrev pub opening : (kind : ℕ) → (name : List ℕ) → (size : ℕ) → List ℕ
opening k name size =
    cond (eqb k unknown_kind) (ascii "<unknown>")
    (cond (eqb k void_kind) (ascii "void")
    (cond (eqb k bool_kind) (ascii "bool")
    (cond (eqb k u16_kind) (ascii "u16")
    (cond (eqb k i16_kind) (ascii "i16")
    (cond (eqb k pointer_kind) (ascii "*")
    (cond (eqb k array_kind) (ascii "[" ++ decimal size ++ ascii "]")
    (cond (eqb k struct_kind) (ascii "struct { ")
    (cond (eqb k function_kind) (ascii "fn(")
    (cond (eqb k alias_kind) (name ++ ascii " (alias for ")
    (cond (eqb k distinct_kind) name
    (cond (eqb k field_kind) (name ++ ascii ": ") [])))))))))))

-- What stands behind it; `last` if there is no second
abbrev pub middle : (kind : ℕ) → (last : Bool) → List ℕ
middle k last =
    cond (eqb k struct_kind) (ascii " }")
    (cond (eqb k function_kind) (ascii ") -> ")
    (cond (eqb k alias_kind) (ascii ")") (cond (ltb k field_kind) [] (cond last [] (ascii ", ")))))

-- The part that comes first in the text: a function's arguments come before the type that it returns
abbrev pub first_in : Ty → Ty
first_in t =
    cond (ltb (kind_of t) pointer_kind) end
    (cond (eqb (kind_of t) function_kind) (second_of t) (cond (eqb (kind_of t) distinct_kind) end (first_of t)))

-- The part that comes second
abbrev pub second_in : Ty → Ty
second_in t = cond (eqb (kind_of t) function_kind) (first_of t) (cond (ltb (kind_of t) field_kind) end (second_of t))

-- The opening of a type
abbrev pub opening_of : NameTexts → Ty → List ℕ
opening_of names t = opening (kind_of t) (names (name_of t)) (size_of t)

-- r is the row of the part t of row n: it is lower, and 0 where the part is none
pub record PartRow (w : List ℕ) (count n r : ℕ) (t : Ty) : Type 0 where
  pub lower : r < n
  pub row : r ≤ count
  pub type : unfolded w r ≡ t
