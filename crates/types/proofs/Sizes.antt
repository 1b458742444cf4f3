-- The size of a row, from the sizes of its parts: each exit of `size_word`.
use Prim.Native.Nat.{ℕ, zero, suc, ◌+◌, ◌-◌, ◌≤◌, ◌<◌}
use mathlib.Core.Path.{◌≡◌, refl, sym, ap, ◌∙◌, subst}
use mathlib.Core.List.{List}
use mathlib.Core.Bool.{Bool, true, false}
use mathlib.Core.Option.{Option, none, some, map}
use mathlib.Core.Logic.{⊎_elim}
use native.Mathlib.Omega.{arith}
use native.Mathlib.Decide.{dec_le}
use borrow.Author.Tests.{eq-eqb, ne_eqb, eqb-true, eqb-false, le-ltb}
use lib.Dec.{eqb}
use Rattle.size_words.specs.SizeWords.{unknown_word, capped, known, array_word, field_word}
use Rattle.size_words.proofs.Capped.{product_capped, capped_known}
use Rattle.types.specs.Ty.{Ty, end, node, kind_of, array_kind, struct_kind, function_kind, alias_kind, distinct_kind, field_kind, argument_kind}
use Rattle.types.specs.WordSize.{IrType, array, struct, function, more, join, ir_type_of, to_ir_type, ir_word_size, type_word, argument_word, size_word}
use Rattle.types.specs.Table.{Words, row_at, build, up_to, unfolded, first_part, second_part, PartOk, RowOk, IsType, IsCell, Sizes, SameSizes, Table}
use Rattle.types.specs.Post.{part_word}
use Rattle.types.proofs.Laws.{unfolded_zero, first_at_most, second_at_most}

-- A word says that a part is unknown exactly if it is
Tells : ℕ → Option IrType → Type 0
Tells word none = word ≡ unknown_word
Tells word (some t) = word ≡ unknown_word → ⊥

known_tells : (x y word : ℕ) (o p : Option IrType) → Tells x o → Tells y p → (f : IrType → IrType → IrType) (size : Option IrType → ℕ)
    → size none ≡ unknown_word → ((s t : IrType) → size (some (f s t)) ≡ word) → size (join f o p) ≡ known x y word
unfolding Tells
known_tells x y word none p a b f size u k = rw (eq-eqb x unknown_word a) u
known_tells x y word (some s) none a b f size u k = rw (ne_eqb x unknown_word a, eq-eqb y unknown_word b) u
known_tells x y word (some s) (some t) a b f size u k = rw (ne_eqb x unknown_word a, ne_eqb y unknown_word b) (k s t)

type_known : (t : IrType) → eqb (type_word (some t)) unknown_word ≡ false
type_known t = ne_eqb (capped (ir_word_size t)) unknown_word (capped_known (ir_word_size t))

array_size : (o : Option IrType) (s : ℕ) → type_word (map (λ t. array t s) o) ≡ array_word (type_word o) s
unfolding ir_word_size
array_size none s = refl
array_size (some t) s = rw (type_known t) (product_capped s (ir_word_size t))

struct_size : (o : Option IrType) → type_word (map struct o) ≡ type_word o
unfolding ir_word_size
struct_size none = refl
struct_size (some t) = refl

field_size_lem : (o p : Option IrType) → type_word (join more o p) ≡ field_word (type_word o) (type_word p)
unfolding ir_word_size
field_size_lem none p = refl
field_size_lem (some s) none = rw (type_known s)
field_size_lem (some s) (some t) = rw (type_known s, type_known t) (omega arith)

type_tells : (o : Option IrType) → Tells (type_word o) o
unfolding Tells
type_tells none = refl
type_tells (some t) = capped_known (ir_word_size t)

argument_tells : (o : Option IrType) → Tells (argument_word o) o
unfolding Tells
argument_tells none = refl
argument_tells (some t) = λ e. omega arith

-- The size of a type or a field cell, and of an argument cell
abbrev Counted : Ty → Type 0
Counted t = kind_of t ≡ argument_kind → ⊥

pub size_counted : (t : Ty) → Counted t → size_word t ≡ type_word (to_ir_type t)
unfolding size_word to_ir_type ir_word_size
size_counted end other = refl
size_counted (node k a b s n) other = rw (ne_eqb k argument_kind other)

size_cell : (t : Ty) → kind_of t ≡ argument_kind → size_word t ≡ argument_word (to_ir_type t)
unfolding size_word
size_cell end e = absurd (omega arith)
size_cell (node k a b s n) e = rw (eq-eqb k argument_kind e)

size_tells : (t : Ty) → Tells (size_word t) (to_ir_type t)
size_tells t = go (eqb (kind_of t) argument_kind) refl
  where
    go : (b : Bool) → eqb (kind_of t) argument_kind ≡ b → Tells (size_word t) (to_ir_type t)
    go true e = rw (size_cell t (eqb-true _ _ e)) (argument_tells (to_ir_type t))
    go false e = rw (size_counted t (eqb-false _ _ e)) (type_tells (to_ir_type t))

-- A node of a known kind
module _ (a b : Ty) (s n : ℕ) where
  size_kind : (k j : ℕ) → k ≡ j → (j ≡ argument_kind → ⊥) → size_word (node k a b s n) ≡ type_word (ir_type_of j (to_ir_type a) (to_ir_type b) s)
  unfolding to_ir_type
  size_kind k j e other = size_counted (node k a b s n) (λ z. other (sym e ∙ z)) ∙ ap (λ (x : ℕ). type_word (ir_type_of x (to_ir_type a) (to_ir_type b) s)) e

  array_node : (k : ℕ) → k ≡ array_kind → Counted a → size_word (node k a b s n) ≡ array_word (size_word a) s
  array_node k e c = size_kind k array_kind e (λ z. omega arith) ∙ array_size (to_ir_type a) s ∙ ap (λ (x : ℕ). array_word x s) (sym (size_counted a c))

  struct_node : (k : ℕ) → k ≡ struct_kind → Counted a → size_word (node k a b s n) ≡ size_word a
  struct_node k e c = size_kind k struct_kind e (λ z. omega arith) ∙ struct_size (to_ir_type a) ∙ sym (size_counted a c)

  function_node : (k : ℕ) → k ≡ function_kind → size_word (node k a b s n) ≡ known (size_word a) (size_word b) 1
  unfolding ir_word_size
  function_node k e =
      size_kind k function_kind e (λ z. omega arith)
      ∙ known_tells (size_word a) (size_word b) 1 (to_ir_type a) (to_ir_type b) (size_tells a) (size_tells b) function type_word refl (λ s t. refl)

  alias_node : (k : ℕ) → k ≡ alias_kind → Counted a → size_word (node k a b s n) ≡ size_word a
  alias_node k e c = size_kind k alias_kind e (λ z. omega arith) ∙ sym (size_counted a c)

  distinct_node : (k : ℕ) → k ≡ distinct_kind → Counted a → size_word (node k a b s n) ≡ size_word a
  distinct_node k e c = size_kind k distinct_kind e (λ z. omega arith) ∙ sym (size_counted a c)

  field_node : (k : ℕ) → k ≡ field_kind → Counted a → Counted b → size_word (node k a b s n) ≡ field_word (size_word a) (size_word b)
  field_node k e c d =
      size_kind k field_kind e (λ z. omega arith)
      ∙ field_size_lem (to_ir_type a) (to_ir_type b)
      ∙ sym (λ i. field_word (size_counted a c i) (size_counted b d i))

  argument_node : (k : ℕ) → k ≡ argument_kind → size_word (node k a b s n) ≡ known (size_word a) (size_word b) 0
  unfolding to_ir_type
  argument_node k e =
      size_cell (node k a b s n) e
      ∙ ap (λ (x : ℕ). argument_word (ir_type_of x (to_ir_type a) (to_ir_type b) s)) e
      ∙ known_tells (size_word a) (size_word b) 0 (to_ir_type a) (to_ir_type b) (size_tells a) (size_tells b) more argument_word refl (λ s t. refl)

-- The size of a part; the number 0 has 0 words
part_size : (w : List ℕ) (m : ℕ) → Sizes w m → (n : ℕ) → n ≤ m → part_word w n ≡ size_word (unfolded w n)
unfolding size_word
part_size w m sizes zero h = sym (ap size_word (unfolded_zero w))
part_size w m sizes (suc n) h = sizes (suc n) (omega arith) h

-- No type and no list of fields is an argument cell, whatever the other rows are
kind_here : (w : List ℕ) (n : ℕ) → 1 ≤ n → kind_of (unfolded w n) ≡ (row_at w n).kind
unfolding unfolded up_to
kind_here w zero l = absurd (omega arith)
kind_here w (suc n) l = rw (eq-eqb (suc n) (suc n) refl, up_to)

type_counted : (w : List ℕ) (m n : ℕ) → IsType w m n → Counted (unfolded w n)
type_counted w m n is e = omega (arith, kind_here w n is.low, is.kind)

fields_counted : (w : List ℕ) (m n : ℕ) → IsCell w m field_kind n → Counted (unfolded w n)
fields_counted w m zero is e = omega (arith, ap kind_of (unfolded_zero w))
fields_counted w m (suc n) is e =
    ⊎_elim
    (λ (z : suc n ≡ 0). omega arith)
    (λ (q : (row_at w (suc n)).kind ≡ field_kind). omega (arith, kind_here w (suc n) (omega arith)))
    is.kind

-- A row that may stand behind the rows 1 to m
module _ (w : List ℕ) (m : ℕ) (r : Words) (ok : RowOk w m r) where
  first_type_lem : 7 ≤ r.kind → (r.kind ≡ struct_kind → ⊥) → Counted (unfolded w r.first)
  first_type_lem l ne =
      let low : 6 ≤ r.kind = omega arith in
      type_counted w m r.first (rw (le-ltb r.kind 6 low, ne_eqb r.kind struct_kind ne) at ok.first)

  first_fields : r.kind ≡ struct_kind → Counted (unfolded w r.first)
  first_fields e = fields_counted w m r.first (subst (λ (k : ℕ). PartOk w m (first_part k) r.first) e ok.first)

  second_fields : r.kind ≡ field_kind → Counted (unfolded w r.second)
  second_fields e = fields_counted w m r.second (subst (λ (k : ℕ). PartOk w m (second_part k) r.second) e ok.second)

  -- Its size, by its kind
  module _ (sizes : Sizes w m) where
    abbrev size : ℕ
    size = size_word (build r (unfolded w))

    pub size_unknown : r.kind < 2 → unknown_word ≡ size
    size_unknown h = sym (size_kind _ _ _ _ r.kind 1 (omega (arith, ok.kind_low)) (λ z. omega arith))

    pub size_void : 2 ≤ r.kind → r.kind < 3 → 0 ≡ size
    unfolding ir_word_size
    size_void l h = sym (size_kind _ _ _ _ r.kind 2 (omega arith) (λ z. omega arith))

    pub size_one : 3 ≤ r.kind → r.kind < 7 → 1 ≡ size
    unfolding ir_word_size
    size_one l h = sym (cases (r.kind - 3) (omega arith) (omega arith))
      where
        cases : (i : ℕ) → i < 4 → r.kind ≡ i + 3 → size ≡ 1
        cases zero b e = size_kind _ _ _ _ r.kind 3 e (λ z. omega arith)
        cases (suc zero) b e = size_kind _ _ _ _ r.kind 4 e (λ z. omega arith)
        cases (suc (suc zero)) b e = size_kind _ _ _ _ r.kind 5 e (λ z. omega arith)
        cases (suc (suc (suc zero))) b e = size_kind _ _ _ _ r.kind 6 e (λ z. omega arith)
        cases (suc (suc (suc (suc i)))) b e = absurd (omega arith)

    module _ (x : ℕ) (x-is : x ≡ part_word w r.first) where
      x_size : x ≡ size_word (unfolded w r.first)
      x_size = x-is ∙ part_size w m sizes r.first (first_at_most w m r ok)

      pub size_array : r.kind ≡ array_kind → (q : ℕ) → q ≡ array_word x r.second → q ≡ size
      size_array e q q-is =
          q-is
          ∙ ap (λ (n : ℕ). array_word n r.second) x_size
          ∙ sym (rw (eq-eqb r.kind array_kind e) (array_node _ end r.second r.name r.kind e (first_type_lem (omega arith) (λ z. omega arith))))

      -- The other kinds have a row as the second part
      plain : (r.kind ≡ 7 → ⊥) → size ≡ size_word (node r.kind (unfolded w r.first) (unfolded w r.second) 0 r.name)
      plain ne = rw (ne_eqb r.kind 7 ne)

      pub size_same : 7 ≤ r.kind → (r.kind ≡ array_kind → ⊥) → (r.kind ≡ function_kind → ⊥) → r.kind < 12 → x ≡ size
      size_same l n7 n9 h = x_size ∙ sym (plain n7 ∙ elim (dec_le r.kind 8) [
        | yes low ↦ let e : r.kind ≡ struct_kind = omega (arith, n7) in struct_node _ _ _ _ r.kind e (first_fields e)
        | no high ↦ elim (dec_le r.kind 10) [
          | yes low ↦ alias_node _ _ _ _ r.kind (omega (arith, n9)) (first_type_lem l (λ z. omega arith))
          | no above ↦ distinct_node _ _ _ _ r.kind (omega arith) (first_type_lem l (λ z. omega arith))
        ]
      ])

      module _ (y : ℕ) (y-is : y ≡ part_word w r.second) (q : ℕ) where
        y_size : (r.kind ≡ 7 → ⊥) → y ≡ size_word (unfolded w r.second)
        y_size ne = y-is ∙ part_size w m sizes r.second (second_at_most w m r ok ne)

        pub size_function : r.kind ≡ function_kind → q ≡ known x y 1 → q ≡ size
        size_function e q-is =
            let n7 : r.kind ≡ 7 → ⊥ = λ z. omega arith in
            q-is ∙ (λ i. known (x_size i) (y_size n7 i) 1) ∙ sym (plain n7 ∙ function_node _ _ _ _ r.kind e)

        pub size_field : r.kind ≡ field_kind → q ≡ field_word x y → q ≡ size
        size_field e q-is =
            let n7 : r.kind ≡ 7 → ⊥ = λ z. omega arith in
            let first = first_type_lem (omega arith) (λ z. omega arith) in
            q-is ∙ (λ i. field_word (x_size i) (y_size n7 i)) ∙ sym (plain n7 ∙ field_node _ _ _ _ r.kind e first (second_fields e))

        pub size_argument : 12 ≤ r.kind → (r.kind ≡ field_kind → ⊥) → q ≡ known x y 0 → q ≡ size
        size_argument l ne q-is =
            let e : r.kind ≡ argument_kind = omega (arith, ok.kind_high, ne) in
            let n7 : r.kind ≡ 7 → ⊥ = λ z. omega arith in
            q-is ∙ (λ i. known (x_size i) (y_size n7 i) 0) ∙ sym (plain n7 ∙ argument_node _ _ _ _ r.kind e)

-- The fifth word is a function of the unfolded type, in one table or in two
pub same_size : (w w' : List ℕ) (c c' : ℕ) → Table w c → Table w' c' → SameSizes w w' c c'
same_size w w' c c' t t' m n l h l' h' e = t.sizes m l h ∙ ap size_word e ∙ sym (t'.sizes n l' h')
