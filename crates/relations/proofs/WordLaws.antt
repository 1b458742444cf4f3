-- The words answer, from the fifth word of a row.
use Prim.Native.Nat.{ℕ, ◌≤◌, ◌<◌}
use mathlib.Core.Path.{◌≡◌, refl, sym, ap, ◌∙◌}
use mathlib.Core.List.{List}
use mathlib.Core.Bool.{Bool, cond}
use mathlib.Core.Option.{Option, none, some}
use native.Mathlib.Omega.{arith}
use native.Mathlib.Decide.{dec_le}
use borrow.Author.Tests.{le-leb, lt-leb, ne_eqb}
use lib.Dec.{leb, eqb}
use Rattle.size_words.specs.SizeWords.{too_large_word}
use Rattle.types.specs.Table.{size_word_at, unfolded}
use Rattle.types.specs.WordSize.{IrType, to_ir_type, ir_word_size, type_word, size_word}
use Rattle.types.proofs.Query.{type_kind_lem}
use Rattle.types.proofs.Sizes.{size_counted}
use Rattle.relations.specs.WordSize.{largest, answered, word_size_of, as_word}
use Rattle.relations.specs.TypeRows.{OneType}
use Rattle.relations.specs.declared.WordSize.{WordSize}
use Rattle.relations.specs.declared.WordSize.TheVariants.{Words, TooLarge, Unknown}

from_word : ℕ → WordSize
from_word x = cond (leb x largest) (Words x) (cond (eqb x too_large_word) TooLarge Unknown)

from_type_word : (o : Option IrType) → from_word (type_word o) ≡ answered o
unfolding from_word
from_type_word none = refl
from_type_word (some t) = elim (dec_le (ir_word_size t) largest) [ yes h ↦ low h | no h ↦ high (omega arith) ]
  where
    low : ir_word_size t ≤ largest → from_word (type_word (some t)) ≡ answered (some t)
    low h = let e : type_word (some t) ≡ ir_word_size t = omega arith in rw (e, le-leb (ir_word_size t) largest h)

    high : largest < ir_word_size t → from_word (type_word (some t)) ≡ answered (some t)
    high h = let e : type_word (some t) ≡ too_large_word = omega arith in rw (e, lt-leb (ir_word_size t) largest h)

-- The answer as one word is the row's fifth word
as_word_lem : (o : Option IrType) → as_word (answered o) ≡ type_word o
as_word_lem none = refl
as_word_lem (some t) = elim (dec_le (ir_word_size t) largest) [ yes h ↦ rw (le-leb (ir_word_size t) largest h) (omega arith) | no h ↦ rw (lt-leb (ir_word_size t) largest (omega arith)) (omega arith) ]

pub size_told : (w : List ℕ) (count n : ℕ) → OneType w count n → as_word (word_size_of (unfolded w n)) ≡ size_word_at w n
unfolding word_size_of
size_told w count n one =
    as_word_lem (to_ir_type (unfolded w n))
    ∙ sym (one.table.sizes n one.type.low one.type.high ∙ size_counted (unfolded w n) (λ e. omega (arith, type_kind_lem w count one.table n one.type)))

module _ (w : List ℕ) (count n : ℕ) (one : OneType w count n) (x : ℕ) (x-is : x ≡ size_word (unfolded w n)) where
  from_word_lem : from_word x ≡ word_size_of (unfolded w n)
  unfolding word_size_of
  from_word_lem =
      ap from_word (x-is ∙ size_counted (unfolded w n) (λ e. omega (arith, type_kind_lem w count one.table n one.type)))
      ∙ from_type_word (to_ir_type (unfolded w n))

  pub size_known : x ≤ largest → Words x ≡ word_size_of (unfolded w n)
  unfolding from_word
  size_known h = sym (ap (λ (b : Bool). cond b (Words x) (cond (eqb x too_large_word) TooLarge Unknown)) (le-leb x largest h)) ∙ from_word_lem

  pub size_large : x ≡ too_large_word → TooLarge ≡ word_size_of (unfolded w n)
  unfolding from_word
  size_large e = sym (ap from_word e) ∙ from_word_lem

  pub size_unknown : largest < x → (x ≡ too_large_word → ⊥) → Unknown ≡ word_size_of (unfolded w n)
  unfolding from_word
  size_unknown h g = sym (rw (lt-leb x largest h, ne_eqb x too_large_word g)) ∙ from_word_lem
