-- The built-in types by name, and their texts. Assumes nothing.
use Prim.Native.Nat.{ℕ, ◌≤◌, ◌<◌}
use native.Mathlib.Omega.{arith}
use Prim.Native.String.{String}
use mathlib.Core.Path.{◌≡◌, refl, sym, ap, ◌∙◌}
use mathlib.Core.Bool.{Bool, true, false, cond, ◌||◌, false≢true}
use mathlib.Core.Option.{Option, none, some}
use mathlib.Core.List.{List, []}
use borrow.Author.Tests.{ne_eqb}
use lib.ListN.{length, get_or}
use Rattle.rows.specs.Search.{Decides}
use Rattle.types.specs.Ty.{Ty, u16, i16, bool, string, string_name}
use Rattle.layout.specs.Layout.{max_bytes}
use Rattle.names.specs.Names.{same_bytes, names_of, name_count}
use Rattle.names.proofs.NameLaws.{same_true}
use Rattle.layout.proofs.NameRoom.{few_names}
use Rattle.meaning.specs.Context.{is_some}
use Rattle.meaning.specs.Promise.{primitive_type, built_in_types, built_ins_of}
use Rattle.text.specs.Text.{ascii}
use Rattle.display.specs.Display.{NameTexts, type_text}
use Rattle.display.specs.Names.{name_text}
use Rattle.descriptions.specs.declared.Piece.TheVariants.{BuiltIn}
use Rattle.error_messages.specs.Description.{inputs, option_text, text_of, ExistsAs}

-- Tests that are joined, the one after the other
pub or_true : {x a : Bool} (b : Bool) → x ≡ true → x ≡ a → x ≡ (a || b)
or_true b e p = e ∙ ap (λ (y : Bool). y || b) (sym e ∙ p)

pub or_false : {x a : Bool} (b : Bool) → x ≡ false → x ≡ a → b ≡ (a || b)
or_false b e p = ap (λ (y : Bool). y || b) (sym e ∙ p)

u16_text : (names : NameTexts) → ascii "u16" ≡ type_text names u16
unfolding type_text
u16_text names = refl

i16_text : (names : NameTexts) → ascii "i16" ≡ type_text names i16
unfolding type_text
i16_text names = refl

bool_text : (names : NameTexts) → ascii "bool" ≡ type_text names bool
unfolding type_text
bool_text names = refl

module _ (s built_in : List ℕ) (name : ℕ) (small : length s ≤ max_bytes) where
  -- The bytes of a name of the module
  module _ (text : List ℕ) (text_is : text ≡ name_text s built_in name) where
    abbrev is : String → Bool
    is t = same_bytes text (ascii t)

    abbrev chosen : (a b c d : Bool) → Option Ty
    chosen a b c d = cond a (some u16) (cond b (some i16) (cond c (some bool) (cond d (some string) none)))

    some_chosen : (a b c d : Bool) → is_some (chosen a b c d) ≡ (((a || b) || c) || d)
    some_chosen true b c d = refl
    some_chosen false true c d = refl
    some_chosen false false true d = refl
    some_chosen false false false true = refl
    some_chosen false false false false = refl

    own : name < name_count s → text ≡ get_or (names_of s) name []
    unfolding name_text
    own low = text_is ∙ rw (ne_eqb name string_name (λ e. let f = few_names s small in omega arith)) refl

    named : name < name_count s → built_ins_of s name ≡ chosen (is "u16") (is "i16") (is "bool") (is "String")
    unfolding built_in_types
    named low = ap primitive_type (sym (own low))

    -- Whether it is that of a built-in type
    module _ (names : ℕ) (many : names ≡ name_count s) (under : name < names) where
      low : name < name_count s
      low = omega arith

      pub decided : (r : Bool) → r ≡ (((is "u16" || is "i16") || is "bool") || is "String") → Decides (ExistsAs (inputs s built_in [] 0) BuiltIn name) r
      decided r r-is =
          let some = ap is_some (named low) ∙ some_chosen (is "u16") (is "i16") (is "bool") (is "String") ∙ sym r-is in
          record { yes = λ e. (low, some ∙ e); no = λ e h. absurd (false≢true (sym e ∙ sym some ∙ h.1)) }

    -- The text of the type: the name, but for String
    module _ (exists : ExistsAs (inputs s built_in [] 0) BuiltIn name) (d : Bool) (t : d ≡ is "String") where
      pub string_text : d ≡ true → built_in ≡ text_of (inputs s built_in [] 0) BuiltIn 0 name
      unfolding type_text name_text same_bytes built_in_types
      string_text e = ap (λ (n : List ℕ). option_text (name_text s built_in) (primitive_type n)) (sym (same_true text (ascii "String") (sym t ∙ e)) ∙ own exists.0)

      pub other_text : d ≡ false → text ≡ text_of (inputs s built_in [] 0) BuiltIn 0 name
      other_text e =
          go (is "u16") (is "i16") (is "bool") (is "String") (same_true text _) (same_true text _) (same_true text _) (sym t ∙ e)
          (sym (ap is_some (named exists.0)) ∙ exists.1)
          ∙ ap (option_text (name_text s built_in)) (sym (named exists.0))
        where
          go : (a b c d : Bool) → (a ≡ true → text ≡ ascii "u16") → (b ≡ true → text ≡ ascii "i16") → (c ≡ true → text ≡ ascii "bool") → d ≡ false
              → is_some (chosen a b c d) ≡ true → text ≡ option_text (name_text s built_in) (chosen a b c d)
          go true b c d p q r f h = p refl ∙ u16_text (name_text s built_in)
          go false true c d p q r f h = q refl ∙ i16_text (name_text s built_in)
          go false false true d p q r f h = r refl ∙ bool_text (name_text s built_in)
          go false false false true p q r f h = absurd (false≢true (sym f))
          go false false false false p q r f h = absurd (false≢true h)
