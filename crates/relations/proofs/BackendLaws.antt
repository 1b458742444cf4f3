-- Laws of backend types: of what a cast or an assignment looks through, and of what prevents one.
use Prim.Native.Nat.{ℕ, zero, suc, ◌-◌, ◌≤◌, ◌<◌}
use mathlib.Core.Path.{◌≡◌, refl, sym, ap, ◌∙◌, subst}
use mathlib.Core.List.{List}
use mathlib.Core.Bool.{Bool, true, false, cond, ◌&&◌, ◌||◌, or-false, false≢true}
use mathlib.Core.Option.{Option, none, some, map}
use mathlib.Core.Logic.{⊎_elim}
use native.Mathlib.Omega.{arith}
use borrow.Author.Tests.{eqb-true}
use lib.Dec.{eqb}
use Rattle.types.specs.Ty.{Ty, end, node, is, kind_of, first_of, second_of, size_of, same, desugar, unknown_kind, void_kind, bool_kind, u16_kind, i16_kind}
use Rattle.types.specs.Ty.{pointer_kind, array_kind, struct_kind, function_kind, alias_kind, distinct_kind, field_kind, argument_kind}
use Rattle.types.specs.Table.{words, row_at, build, unfolded, first_part, second_part, PartOk, Table}
use Rattle.types.specs.WordSize.{IrType, array, struct, function, more, join, ir_type_of, to_ir_type}
use Rattle.types.proofs.Laws.{either, same_true, unfolded_zero, unfolded_row, row_ok}
use Rattle.types.proofs.Fixed.{each_below}
use Rattle.relations.specs.Relations.{types_are_assignable}
use Rattle.relations.specs.Footprint.{contains_unknown, is_missing, UnknownPrevents}
use Rattle.relations.proofs.AssignLaws.{turn, assign_turn}

-- By the kind
pub kind_ir : (t : Ty) (j : ℕ) → 1 ≤ j → kind_of t ≡ j → to_ir_type t ≡ ir_type_of j (to_ir_type (first_of t)) (to_ir_type (second_of t)) (size_of t)
unfolding to_ir_type
kind_ir end j l e = absurd (omega arith)
kind_ir (node k a b s n) j l e = ap (λ (x : ℕ). ir_type_of x (to_ir_type a) (to_ir_type b) s) e

-- A transparent alias has the backend type of what it stands for
pub desugar_ir : (t : Ty) → to_ir_type (desugar t) ≡ to_ir_type t
unfolding desugar
desugar_ir end = refl
desugar_ir (node k a b s n) = go (eqb k alias_kind) refl (desugar_ir a)
  where
    go : (c : Bool) → eqb k alias_kind ≡ c → to_ir_type (desugar a) ≡ to_ir_type a → to_ir_type (cond c (desugar a) (node k a b s n)) ≡ to_ir_type (node k a b s n)
    go true e inner = inner ∙ sym (kind_ir (node k a b s n) alias_kind (omega arith) (eqb-true k alias_kind e))
    go false e inner = refl

-- Two pointers have one backend type, whatever they point to
pub pointers_ir : (t s : Ty) → kind_of t ≡ pointer_kind → kind_of s ≡ pointer_kind → to_ir_type t ≡ to_ir_type s
pointers_ir t s p q = kind_ir t pointer_kind (omega arith) p ∙ sym (kind_ir s pointer_kind (omega arith) q)

first_two : (a b c d : Bool) → (a && b && c && d) ≡ true → (a ≡ true) × (b ≡ true)
first_two true true c d e = (refl, refl)
first_two true false c d e = absurd (false≢true e)
first_two false b c d e = absurd (false≢true e)

-- Where one of two types is assignable to the other as they stand, they are equal or both pointers
pub turn_cases : (P : Type 0) (t s : Ty) → turn t s ≡ true → (t ≡ s → P) → (kind_of t ≡ pointer_kind → kind_of s ≡ pointer_kind → P) → P
turn_cases P t s e equal pointers =
    ⊎_elim
    (λ q. equal (same_true t s q))
    (λ q. let both = first_two (is pointer_kind t) (is pointer_kind s) (is array_kind (first_of s)) (types_are_assignable (first_of t) (first_of (first_of s))) q in
    pointers (eqb-true (kind_of t) pointer_kind both.0) (eqb-true (kind_of s) pointer_kind both.1))
    (either (same t s) _ e)

-- A source assignable to a target has its backend type, or neither has one
pub assigned_ir : (t s : Ty) → types_are_assignable t s ≡ true → to_ir_type t ≡ to_ir_type s
assigned_ir t s e =
    sym (desugar_ir t)
    ∙ turn_cases (to_ir_type (desugar t) ≡ to_ir_type (desugar s)) (desugar t) (desugar s) (sym (assign_turn t s) ∙ e) (ap to_ir_type) (pointers_ir (desugar t) (desugar s))
    ∙ desugar_ir s

-- A backend type is missing where that of its one part is, or of one of its two
one_missing : (f : IrType → IrType) (o : Option IrType) → is_missing o ≡ is_missing (map f o)
one_missing f none = refl
one_missing f (some t) = refl

two_missing : (f : IrType → IrType → IrType) (o p : Option IrType) → (is_missing o || is_missing p) ≡ is_missing (join f o p)
two_missing f none p = refl
two_missing f (some t) none = refl
two_missing f (some t) (some u) = refl

-- A row lacks a backend type by an Unknown alone, if that is so of the rows that it points to
module _ (w : List ℕ) (m : ℕ) (look : ℕ → Ty) (zero_is : look 0 ≡ end) (parts : (n : ℕ) → n ≤ m → UnknownPrevents (look n)) where
  no_row : (n : ℕ) → n ≡ 0 → contains_unknown (look n) ≡ false
  unfolding contains_unknown
  no_row n e = ap (λ (i : ℕ). contains_unknown (look i)) e ∙ ap contains_unknown zero_is

  no_parts : (x y : ℕ) → x ≡ 0 → y ≡ 0 → (contains_unknown (look x) || contains_unknown (look y)) ≡ false
  no_parts x y p q = rw (no_row x p, no_row y q)

  one_part : (x y : ℕ) → x ≤ m → y ≡ 0 → (contains_unknown (look x) || contains_unknown (look y)) ≡ is_missing (to_ir_type (look x))
  one_part x y h q = rw (no_row y q) (or-false (contains_unknown (look x)) ∙ parts x h)

  two_parts : (f : IrType → IrType → IrType) (x y : ℕ) → x ≤ m → y ≤ m
      → (contains_unknown (look x) || contains_unknown (look y)) ≡ is_missing (join f (to_ir_type (look x)) (to_ir_type (look y)))
  two_parts f x y p q = (λ i. parts x p i || parts y q i) ∙ two_missing f (to_ir_type (look x)) (to_ir_type (look y))

  -- Of each kind
  abbrev OfKind : (k : ℕ) → Type 0
  OfKind k = (x y z : ℕ) → PartOk w m (first_part k) x → PartOk w m (second_part k) y → UnknownPrevents (build (words k x y z) look)

  of_unknown : OfKind unknown_kind
  unfolding contains_unknown to_ir_type
  of_unknown x y z p q = refl

  of_void : OfKind void_kind
  unfolding contains_unknown to_ir_type
  of_void x y z p q = no_parts x y p q

  of_bool : OfKind bool_kind
  unfolding contains_unknown to_ir_type
  of_bool x y z p q = no_parts x y p q

  of_u16_lem : OfKind u16_kind
  unfolding contains_unknown to_ir_type
  of_u16_lem x y z p q = no_parts x y p q

  of_i16_lem : OfKind i16_kind
  unfolding contains_unknown to_ir_type
  of_i16_lem x y z p q = no_parts x y p q

  of_pointer : OfKind pointer_kind
  unfolding contains_unknown to_ir_type
  of_pointer x y z p q = refl

  of_array : OfKind array_kind
  unfolding contains_unknown to_ir_type
  of_array x y z p q = or-false (contains_unknown (look x)) ∙ parts x p.high ∙ one_missing (λ t. array t y) (to_ir_type (look x))

  of_struct : OfKind struct_kind
  unfolding contains_unknown to_ir_type
  of_struct x y z p q = one_part x y p.high q ∙ one_missing struct (to_ir_type (look x))

  of_function : OfKind function_kind
  unfolding contains_unknown to_ir_type
  of_function x y z p q = two_parts function x y p.high q.high

  of_alias_lem : OfKind alias_kind
  unfolding contains_unknown to_ir_type
  of_alias_lem x y z p q = one_part x y p.high q

  of_distinct : OfKind distinct_kind
  unfolding contains_unknown to_ir_type
  of_distinct x y z p q = one_part x y p.high q

  of_field : OfKind field_kind
  unfolding contains_unknown to_ir_type
  of_field x y z p q = two_parts more x y p.high q.high

  of_argument : OfKind argument_kind
  unfolding contains_unknown to_ir_type
  of_argument x y z p q = two_parts more x y p.high q.high

  of_kinds : (k : ℕ) → k < 14 → 1 ≤ k → OfKind k
  of_kinds =
      each_below 14 (λ (k : ℕ). 1 ≤ k → OfKind k)
      (λ l. of_argument, (λ l. of_field, (λ l. of_distinct, (λ l. of_alias_lem, (λ l. of_function, (λ l. of_struct, (λ l. of_array, (λ l. of_pointer, (λ l. of_i16_lem, (λ l. of_u16_lem, (λ l. of_bool, (λ l. of_void, (λ l. of_unknown, (λ l. absurd (omega arith), tt))))))))))))))

-- Of any row of a table, cells included
module _ (w : List ℕ) (count : ℕ) (table : Table w count) where
  prevents_step : (n : ℕ) → ((i : ℕ) → i < n → UnknownPrevents (unfolded w i)) → n ≤ count → UnknownPrevents (unfolded w n)
  unfolding contains_unknown to_ir_type
  prevents_step zero lower h = rw (unfolded_zero w)
  prevents_step (suc n) lower h =
      let l : 1 ≤ suc n = omega arith in
      let r = row_at w (suc n) in
      let ok = row_ok w count table (suc n) l h in
      let of-kind = of_kinds w (suc n - 1) (unfolded w) (unfolded_zero w) (λ i low. lower i (omega arith)) r.kind (omega (arith, ok.kind_high)) ok.kind_low in
      subst UnknownPrevents (sym (unfolded_row w count table (suc n) l h)) (of-kind r.first r.second r.name ok.first ok.second)

  prevents_below : (b n : ℕ) → n < b → n ≤ count → UnknownPrevents (unfolded w n)
  prevents_below zero n h low = absurd (omega arith)
  prevents_below (suc b) n h low = prevents_step n (λ i l. prevents_below b i (omega arith) (omega arith)) low

  pub unknown_prevents : (n : ℕ) → n ≤ count → UnknownPrevents (unfolded w n)
  unknown_prevents n = prevents_below (suc n) n (omega arith)
