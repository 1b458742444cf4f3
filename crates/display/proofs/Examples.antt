-- Texts of some types, as the reference prints them.
use mathlib.Core.Path.{◌≡◌, refl}
use mathlib.Core.Bool.{cond}
use lib.Dec.{eqb}
use Rattle.types.specs.Ty.{end, bool, u16, i16, void, pointer, array, struct, function, alias, distinct, field, argument, string, string_name}
use Rattle.text.specs.Text.{ascii, decimal_with, decimal}
use Rattle.display.specs.Display.{NameTexts, type_text}

-- x, y, Word, Address and String
names : NameTexts
names n =
    cond (eqb n 0) (ascii "x")
    (cond (eqb n 1) (ascii "y") (cond (eqb n 2) (ascii "Word") (cond (eqb n 3) (ascii "Address") (ascii "String"))))

two_fields : type_text names (struct (field u16 (field (pointer bool) end 1) 0)) ≡ ascii "struct { x: u16, y: *bool }"
unfolding names type_text
two_fields = refl

-- two spaces
no_fields : type_text names (struct end) ≡ ascii "struct {  }"
unfolding names type_text
no_fields = refl

two_arguments : type_text names (function void (argument u16 (argument (pointer i16) end))) ≡ ascii "fn(u16, *i16) -> void"
unfolding names type_text
two_arguments = refl

no_arguments : type_text names (pointer (function (pointer u16) end)) ≡ ascii "*fn() -> *u16"
unfolding names type_text
no_arguments = refl

alias_of_alias : type_text names (alias (alias u16 2) 3) ≡ ascii "Address (alias for Word (alias for u16))"
unfolding names type_text
alias_of_alias = refl

distinct_alias : type_text names (distinct (struct end) 2) ≡ ascii "Word"
unfolding names type_text
distinct_alias = refl

array_of_pointers : type_text names (array (pointer string) 4294967295) ≡ ascii "[4294967295]*String"
unfolding names type_text decimal decimal_with
array_of_pointers = refl

-- row 7
built_in : type_text names string ≡ names string_name
unfolding names type_text
built_in = refl
