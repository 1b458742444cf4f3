-- `write_type` calls itself at most 20 deep: of two parts the one with the shorter text is written by a call, and its row has two bytes or more
-- of its own where it has two parts.
use Prim.Native.Nat.{ℕ, zero, suc, ◌+◌, ◌*◌, ◌≤◌, ◌<◌, max}
use native.Mathlib.Omega.{arith}
use native.Mathlib.Nat.{max-le}
use native.Mathlib.Decide.{dec_le}
use mathlib.Core.Path.{◌≡◌, sym, ap, ◌∙◌, subst}
use mathlib.Core.Bool.{Bool, true, false, cond}
use mathlib.Core.List.{List, [], ◌++◌}
use borrow.Author.Tests.{ne_eqb, lt-ltb, le-ltb}
use lib.ListN.{length, length-append}
use lib.Dec.{eqb, ltb}
use Rattle.types.specs.Ty.{Ty, end, node, unknown_kind, void_kind, bool_kind, u16_kind, i16_kind, pointer_kind, array_kind}
use Rattle.types.specs.Ty.{struct_kind, function_kind, alias_kind, distinct_kind, field_kind, argument_kind}
use Rattle.text.specs.Text.{ascii, decimal}
use Rattle.text.specs.Length.{longest}
use Rattle.display.specs.Display.{NameTexts, is_end, joined, type_text}
use Rattle.display.specs.Parts.{first_in, second_in}

-- How deep calls nest in a row, by how deep they do in its first and in its second part: the shorter of them is written by a call
abbrev pub turn : (shorter : Bool) → (first second : ℕ) → ℕ
turn true first second = max (suc first) second
turn false first second = max (suc second) first

-- How deep the calls of `write_type` nest below the one that writes a type; no call is made for no row
unfoldable pub nesting : NameTexts → Ty → ℕ
nesting names end = 0
nesting names (node k a b s n) =
    turn
    (ltb (length (type_text names (first_in (node k a b s n)))) (length (type_text names (second_in (node k a b s n)))))
    (cond (ltb k pointer_kind) 0 (cond (eqb k function_kind) (nesting names b) (cond (eqb k distinct_kind) 0 (nesting names a))))
    (cond (eqb k function_kind) (nesting names a) (cond (ltb k field_kind) 0 (nesting names b)))

-- 2, 4, 8, ..
unfoldable power : ℕ → ℕ
power zero = 2
power (suc d) = 2 * power d

-- A text that is so short
abbrev Below : (long nests : ℕ) → Type 0
Below long nests = (d : ℕ) → long + 2 < power (suc d) → nests ≤ suc d

-- A row with no second part, or with none
one_part : (f first long : ℕ) → Below f first → f ≤ long → Below long (turn (ltb f 0) first 0)
unfolding power
one_part f first long below low d short = rw (le-ltb f 0 (omega arith)) (max-le (omega arith) (below d (omega arith)))

-- A row with two parts
two_parts : (f g first second long : ℕ) → Below f first → Below g second → f + g + 2 ≤ long → Below long (turn (ltb f g) first second)
unfolding power
two_parts f g first second long below-f below-g own zero short = absurd (omega arith)
two_parts f g first second long below-f below-g own (suc d) short = elim (dec_le g f) [
  | yes h ↦ rw (le-ltb f g h) (max-le (let n = below-g d (omega arith) in omega arith) (below-f (suc d) (omega arith)))
  | no h ↦ rw (lt-ltb f g (omega arith)) (max-le (let n = below-f d (omega arith) in omega arith) (below-g (suc d) (omega arith)))
]

-- A field or an argument: `own` is its text without the rest of the list
cell : (names : NameTexts) (own : List ℕ) (f first : ℕ) → Below f first → f ≤ length own
    → (b : Ty) → Below (length (type_text names b)) (nesting names b)
    → Below (length (own ++ joined (is_end b) (type_text names b))) (turn (ltb f (length (type_text names b))) first (nesting names b))
unfolding type_text nesting
cell names own f first below low end below-b = let l = length-append own [] in one_part f first (length (own ++ [])) below (omega arith)
cell names own f first below low (node k a b s n) below-b =
    let l = length-append own (ascii ", " ++ type_text names (node k a b s n)) in
    let m = length-append (ascii ", ") (type_text names (node k a b s n)) in
    two_parts f (length (type_text names (node k a b s n))) first (nesting names (node k a b s n))
    (length (own ++ (ascii ", " ++ type_text names (node k a b s n)))) below below-b (omega arith)

three : (x y z : List ℕ) → length (x ++ y ++ z) ≡ length x + length y + length z
three x y z = length-append (x ++ y) z ∙ ap (λ (i : ℕ). i + length z) (length-append x y)

module _ (names : NameTexts) (a b : Ty) (s n : ℕ)
    (below-a : Below (length (type_text names a)) (nesting names a)) (below-b : Below (length (type_text names b)) (nesting names b)) where
  no_parts : (t : List ℕ) → Below (length t) (turn (ltb 0 0) 0 0)
  no_parts t = one_part 0 0 (length t) (λ d h. omega arith) (omega arith)

  first_alone : (t : List ℕ) → length (type_text names a) ≤ length t → Below (length t) (turn (ltb (length (type_text names a)) 0) (nesting names a) 0)
  first_alone t low = one_part (length (type_text names a)) (nesting names a) (length t) below-a low

  -- a number that is no kind prints as an argument does
  far_text : (k : ℕ) → argument_kind < k → type_text names (node k a b s n) ≡ type_text names (node argument_kind a b s n)
  unfolding type_text
  far_text k h = simp (
    ne_eqb k unknown_kind (λ e. omega arith),
    ne_eqb k void_kind (λ e. omega arith),
    ne_eqb k bool_kind (λ e. omega arith),
    ne_eqb k u16_kind (λ e. omega arith),
    ne_eqb k i16_kind (λ e. omega arith),
    ne_eqb k pointer_kind (λ e. omega arith),
    ne_eqb k array_kind (λ e. omega arith),
    ne_eqb k struct_kind (λ e. omega arith),
    ne_eqb k function_kind (λ e. omega arith),
    ne_eqb k alias_kind (λ e. omega arith),
    ne_eqb k distinct_kind (λ e. omega arith),
    ne_eqb k field_kind (λ e. omega arith),
  )

  far_nesting : (k : ℕ) → argument_kind < k → nesting names (node k a b s n) ≡ nesting names (node argument_kind a b s n)
  unfolding nesting
  far_nesting k h = simp (
    ne_eqb k function_kind (λ e. omega arith),
    ne_eqb k distinct_kind (λ e. omega arith),
    le-ltb k pointer_kind (omega arith),
    le-ltb k field_kind (omega arith),
  )

  by_kind : (k : ℕ) → Below (length (type_text names (node k a b s n))) (nesting names (node k a b s n))
  unfolding type_text nesting
  by_kind zero = no_parts (type_text names a ++ joined (is_end b) (type_text names b))
  by_kind (suc zero) = no_parts (ascii "<unknown>")
  by_kind (suc (suc zero)) = no_parts (ascii "void")
  by_kind (suc (suc (suc zero))) = no_parts (ascii "bool")
  by_kind (suc (suc (suc (suc zero)))) = no_parts (ascii "u16")
  by_kind (suc (suc (suc (suc (suc zero))))) = no_parts (ascii "i16")
  by_kind (suc (suc (suc (suc (suc (suc zero)))))) =
      let l = length-append (ascii "*") (type_text names a) in
      first_alone (ascii "*" ++ type_text names a) (omega arith)
  by_kind (suc (suc (suc (suc (suc (suc (suc zero))))))) =
      let l = length-append (ascii "[" ++ decimal s ++ ascii "]") (type_text names a) in
      first_alone (ascii "[" ++ decimal s ++ ascii "]" ++ type_text names a) (omega arith)
  by_kind (suc (suc (suc (suc (suc (suc (suc (suc zero)))))))) =
      let l = three (ascii "struct { ") (type_text names a) (ascii " }") in
      first_alone (ascii "struct { " ++ type_text names a ++ ascii " }") (omega arith)
  by_kind (suc (suc (suc (suc (suc (suc (suc (suc (suc zero))))))))) =
      let l = three (ascii "fn(") (type_text names b) (ascii ") -> ") in
      let m = length-append (ascii "fn(" ++ type_text names b ++ ascii ") -> ") (type_text names a) in
      two_parts (length (type_text names b)) (length (type_text names a)) (nesting names b) (nesting names a)
      (length (ascii "fn(" ++ type_text names b ++ ascii ") -> " ++ type_text names a)) below-b below-a (omega arith)
  by_kind (suc (suc (suc (suc (suc (suc (suc (suc (suc (suc zero)))))))))) =
      let l = three (names n ++ ascii " (alias for ") (type_text names a) (ascii ")") in
      first_alone (names n ++ ascii " (alias for " ++ type_text names a ++ ascii ")") (omega arith)
  by_kind (suc (suc (suc (suc (suc (suc (suc (suc (suc (suc (suc zero))))))))))) = no_parts (names n)
  by_kind (suc (suc (suc (suc (suc (suc (suc (suc (suc (suc (suc (suc zero)))))))))))) =
      let l = length-append (names n ++ ascii ": ") (type_text names a) in
      cell names (names n ++ ascii ": " ++ type_text names a) (length (type_text names a)) _ below-a (omega arith) b below-b
  by_kind (suc (suc (suc (suc (suc (suc (suc (suc (suc (suc (suc (suc (suc zero))))))))))))) = cell names (type_text names a) (length (type_text names a)) _ below-a (omega arith) b below-b
  by_kind (suc (suc (suc (suc (suc (suc (suc (suc (suc (suc (suc (suc (suc (suc k)))))))))))))) =
      subst (λ (x : ℕ). Below x (nesting names (node (suc (suc (suc (suc (suc (suc (suc (suc (suc (suc (suc (suc (suc (suc k)))))))))))))) a b s n))) (sym (ap length (far_text (suc (suc (suc (suc (suc (suc (suc (suc (suc (suc (suc (suc (suc (suc k)))))))))))))) (omega arith))))
      (subst (λ (x : ℕ). Below (length (type_text names (node argument_kind a b s n))) x) (sym (far_nesting (suc (suc (suc (suc (suc (suc (suc (suc (suc (suc (suc (suc (suc (suc k)))))))))))))) (omega arith)))
      (cell names (type_text names a) (length (type_text names a)) _ below-a (omega arith) b below-b))

nests : (names : NameTexts) (t : Ty) → Below (length (type_text names t)) (nesting names t)
unfolding nesting
nests names end = λ d short. omega arith
nests names (node k a b s n) = by_kind names a b s n (nests names a) (nests names b) k

pub nests_at_most_20 : (names : NameTexts) (t : Ty) → length (type_text names t) ≤ longest → nesting names t ≤ 20
unfolding power
nests_at_most_20 names t short = nests names t 19 (omega arith)
