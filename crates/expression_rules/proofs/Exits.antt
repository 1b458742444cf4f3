-- The rules, a law for each exit. Assumes nothing.
use Prim.Native.Nat.{ℕ, ◌+◌, ◌-◌}
use mathlib.Core.Path.{◌≡◌, refl, sym, ap, ◌∙◌, subst}
use mathlib.Core.Bool.{Bool, true, false, not, or-false, true≢false}
use mathlib.Core.List.{List}
use mathlib.Core.Option.{Option}
use native.Mathlib.Omega.{arith}
use lib.Dec.{eqb}
use lib.ListN.{take, drop}
use borrow.Author.Tests.{eq-eqb, ne_eqb}
use Rattle.types.specs.Ty.{Ty, kind_of, first_of, is, is_integral, same, desugar, field_named, bool_kind, u16_kind, pointer_kind, array_kind}
use Rattle.types.specs.Table.{unfolded}
use Rattle.types.specs.Post.{TypePart, FoundType}
use Rattle.types.proofs.Fixed.{fixed_is, bool_row_lem}
use Rattle.relations.specs.TypeRows.{OneType, TwoTypes}
use Rattle.relations.specs.Relations.{is_integral_kind, types_are_assignable, is_castable_to}
use Rattle.relations.proofs.CastLaws.{same_rows}
use Rattle.std.specs.Prelude as code
use Rattle.literal.specs.Literal.{from_str_radix, parsed_value}
use Rattle.record_bytes.specs.Bytes.{Read, half_at, word_at}
use Rattle.trees.specs.Record.{location_at}
use Rattle.fallible.specs.declared.Error.{Error}
use Rattle.fallible.specs.Operands.{is_type_operand, operand_sort}
use Rattle.meaning.specs.TypeError.{row, error, unused, unless}
use Rattle.meaning.specs.Context.{is_some, or_unknown}
use Rattle.meaning.specs.Expression.{part_of, computes}
use Rattle.walk.specs.declared.State.{State}
use Rattle.walk.specs.declared.Typed.{Typed}
use Rattle.walk.specs.Represents.{Shows, SpellsOperand}
use Rattle.walk.specs.Post.{Reported, Tells}
use Rattle.walk.proofs.Telling.{tells_one, tells_then, tells_rows}
use Rattle.convert.specs.Post.{error_for}
use Rattle.expression_rules.specs.Words.{or_unknown_row, resolved_word}
use Rattle.expression_rules.specs.Rules.{ReportedUnless, Identifier, literal_error, Integer, digits_at, UnaryKept, Binary, Arithmetic, Cast, CheckAssignable}
use Rattle.expression_rules.proofs.Laws.{spells_at, tells_unless, tells_row, reported_none, reported_one}
use Rattle.expression_rules.proofs.Found.{unknown_shown, found_test, found_shown}

-- `part_of`
module _ (w : List ℕ) (c kind ty k : ℕ) (one : OneType w c ty) (ek : k ≡ kind_of (unfolded w ty)) where
  pub part_none : (k ≡ kind → ⊥) → Shows w c 1 (part_of kind (unfolded w ty))
  part_none q = rw (ne_eqb (kind_of (unfolded w ty)) kind (λ z. q (ek ∙ z))) (unknown_shown w c one.table)

-- `computes`

integral_no_pointer : (k : ℕ) → is_integral_kind k ≡ true → eqb k 6 ≡ false
integral_no_pointer k q = ne_eqb k 6 (λ z. true≢false (sym q ∙ ap (λ (n : ℕ). is_integral_kind n) z))

module _ (w : List ℕ) (c left right : ℕ) (two : TwoTypes w c left right) (k : ℕ) (ek : k ≡ kind_of (unfolded w left)) (b : Bool) (eb : b ≡ is_integral_kind k) where
  pub computes_integers : b ≡ true → eqb left right ≡ computes (unfolded w left) (unfolded w right)
  computes_integers p =
      let q : is_integral_kind (kind_of (unfolded w left)) ≡ true = ap (λ (n : ℕ). is_integral_kind n) (sym ek) ∙ sym eb ∙ p in
      same_rows w c left right two ∙ rw (q, integral_no_pointer (kind_of (unfolded w left)) q) (sym (or-false (same (unfolded w left) (unfolded w right))))

-- Operators on one operand
module _ (s : List ℕ) (at ty : ℕ) (w e e' : List ℕ) (st st' : State) (one : OneType w st.rows ty) where
  own : Shows w st.rows ty (unfolded w ty)
  own = record { is = one.type; type = refl }

  pub dereferenced : (k : ℕ) → k ≡ kind_of (unfolded w ty) → ReportedUnless (eqb k 6) (error_for s at 16 ty 0 0) e st e' st'
      → (r : ℕ) → Shows w st.rows r (part_of pointer_kind (unfolded w ty)) → UnaryKept 40 s at ty w e st e' (record { ty = r; state = st' })
  unfolding is_type_operand operand_sort
  dereferenced k ek rep r sh =
      record { shows = sh; tells = tells_row s at ty own 16 refl refl refl (is pointer_kind (unfolded w ty)) (ap (λ (n : ℕ). eqb n 6) ek) rep }

  pub bits_inverted : (k : ℕ) → k ≡ kind_of (unfolded w ty) → (b : Bool) → b ≡ is_integral_kind k → ReportedUnless b (error_for s at 19 ty 0 0) e st e' st'
      → UnaryKept 42 s at ty w e st e' (record { ty = ty; state = st' })
  unfolding is_type_operand operand_sort
  bits_inverted k ek b eb rep =
      record { shows = own; tells = tells_row s at ty own 19 refl refl refl (is_integral (unfolded w ty)) (eb ∙ ap (λ (n : ℕ). is_integral_kind n) ek) rep }

  pub truth_inverted : (k : ℕ) → k ≡ kind_of (unfolded w ty) → ReportedUnless (eqb k 3) (error_for s at 20 ty 0 0) e st e' st'
      → UnaryKept 43 s at ty w e st e' (record { ty = ty; state = st' })
  unfolding is_type_operand operand_sort
  truth_inverted k ek rep =
      record { shows = own; tells = tells_row s at ty own 20 refl refl refl (is bool_kind (unfolded w ty)) (ap (λ (n : ℕ). eqb n 3) ek) rep }

  -- A field, of what is left when the transparent aliases are stripped
  module _ (bare : ℕ) (part : TypePart w st.rows (ty + 1) (desugar (unfolded w ty)) bare) (k : ℕ) (ek : k ≡ kind_of (unfolded w bare)) where
    kind_bare : k ≡ kind_of (desugar (unfolded w ty))
    kind_bare = ek ∙ ap kind_of part.type

    pub no_struct : (k ≡ 8 → ⊥) → (x : Error) → x ≡ error_for s at 17 ty 0 0 → Reported e st x e' st' → UnaryKept 41 s at ty w e st e' (record { ty = 1; state = st' })
    unfolding SpellsOperand is_type_operand operand_sort
    no_struct q x ex rep =
        rw (ne_eqb (kind_of (desugar (unfolded w ty))) 8 (λ z. q (kind_bare ∙ z)))
        (record {
          shows = unknown_shown w st.rows one.table;
          tells = tells_one (spells_at s at 17 (refl, own) (refl, refl) (refl, refl)) (subst (λ (z : Error). Reported e st z e' st') ex rep);
        })

    pub field_found : k ≡ 8 → (name : ℕ) → name ≡ word_at s (at + 20) → (field : ℕ) → FoundType w st.rows (field_named name (first_of (unfolded w bare))) field
        → ReportedUnless (not (eqb field 0)) (error_for s at 18 ty name 0) e st e' st' → (r : ℕ) → r ≡ or_unknown_row field → UnaryKept 41 s at ty w e st e' (record { ty = r; state = st' })
    unfolding SpellsOperand is_type_operand operand_sort
    field_found q name en field f rep r er =
        rw (eq-eqb (kind_of (desugar (unfolded w ty))) 8 (sym kind_bare ∙ q))
        (record {
          shows = subst (λ (v : ℕ). Shows w st.rows v (or_unknown sought)) (sym er) (found_shown w st.rows one.table sought field found);
          tells = tells_unless (is_some sought) (found_test w st.rows sought field found) rep (spells_at s at 18 (refl, own) (refl, en) (refl, refl));
        })
      where
        sought : Option Ty
        sought = field_named (word_at s (at + 20)) (first_of (desugar (unfolded w ty)))

        found : FoundType w st.rows sought field
        found =
            subst (λ (n : ℕ). FoundType w st.rows (field_named n (first_of (desugar (unfolded w ty)))) field) en
            (subst (λ (t : Ty). FoundType w st.rows (field_named name (first_of t)) field) part.type f)

-- Operators on two operands
module _ (s : List ℕ) (at left place right : ℕ) (w e e' : List ℕ) (st st' : State) (two : TwoTypes w st.rows left right) where
  left_own : Shows w st.rows left (unfolded w left)
  left_own = record { is = two.first; type = refl }

  right_own : Shows w st.rows right (unfolded w right)
  right_own = record { is = two.second; type = refl }

  pub indexed : (k : ℕ) → k ≡ kind_of (unfolded w right) → ReportedUnless (eqb k 4) (error_for s place 14 right 0 0) e st e' st'
      → (r : ℕ) → Shows w st.rows r (part_of array_kind (unfolded w left)) → Binary 37 s at left place right w e st e' (record { ty = r; state = st' })
  unfolding is_type_operand operand_sort
  indexed k ek rep r sh =
      record { shows = sh; tells = tells_row s place right right_own 14 refl refl refl (is u16_kind (unfolded w right)) (ap (λ (n : ℕ). eqb n 4) ek) rep }

  pub conjoined : (k : ℕ) → k ≡ kind_of (unfolded w left) → (k' : ℕ) → k' ≡ kind_of (unfolded w right) → (e₁ : List ℕ) (st₁ : State)
      → ReportedUnless (eqb k 3) (error_for s at 21 left 0 0) e st e₁ st₁ → ReportedUnless (eqb k' 3) (error_for s at 22 right 0 0) e₁ st₁ e' st'
      → Binary 44 s at left place right w e st e' (record { ty = left; state = st' })
  unfolding is_type_operand operand_sort
  conjoined k ek k' ek' e₁ st₁ rep rep' =
      let first = tells_row s at left left_own 21 refl refl refl (is bool_kind (unfolded w left)) (ap (λ (n : ℕ). eqb n 3) ek) rep in
      let later = subst (λ (n : ℕ). Shows w n right (unfolded w right)) (sym (tells_rows first)) right_own in
      record { shows = left_own; tells = tells_then first (tells_row s at right later 22 refl refl refl (is bool_kind (unfolded w right)) (ap (λ (n : ℕ). eqb n 3) ek') rep') }

  pub computed : (operator l r : ℕ) → TypePart w st.rows (left + 1) (desugar (unfolded w left)) l → TypePart w st.rows (right + 1) (desugar (unfolded w right)) r
      → (b : Bool) → b ≡ computes (unfolded w l) (unfolded w r) → ReportedUnless b (error_for s at 24 operator l r) e st e' st'
      → Arithmetic s at operator left right w e st e' (record { ty = l; state = st' })
  unfolding SpellsOperand is_type_operand operand_sort
  computed operator l r pl pr b eb rep =
      let ls : Shows w st.rows l (desugar (unfolded w left)) = record { is = pl.is; type = pl.type } in
      let rs : Shows w st.rows r (desugar (unfolded w right)) = record { is = pr.is; type = pr.type } in
      record {
        shows = ls;
        tells = tells_unless (computes (desugar (unfolded w left)) (desugar (unfolded w right)))
            (eb ∙ ap (λ (u : Ty). computes u (unfolded w r)) pl.type ∙ ap (λ (u : Ty). computes (desugar (unfolded w left)) u) pr.type)
            rep (spells_at s at 24 (refl, refl) (refl, ls) (refl, rs));
      }

  -- Two rows that are named in an error, and a test of their types
  tells_pair : (k : ℕ) → is_type_operand k 0 ≡ true → is_type_operand k 1 ≡ true → is_type_operand k 2 ≡ false → (test b : Bool) → b ≡ test → ReportedUnless b (error_for s at k left right 0) e st e' st'
      → Tells w (unless test (error k (location_at s at) (row (unfolded w left)) (row (unfolded w right)) unused)) e st e' st'
  unfolding SpellsOperand
  tells_pair k k0 k1 k2 test b eb rep = tells_unless test eb rep (spells_at s at k (k0, left_own) (k1, right_own) (k2, refl))

  pub casted : (b : Bool) → b ≡ is_castable_to (unfolded w left) (unfolded w right) → ReportedUnless b (error_for s at 15 left right 0) e st e' st' → Cast s at left right w e st e' st'
  unfolding is_type_operand operand_sort
  casted b eb rep = tells_pair 15 refl refl refl (is_castable_to (unfolded w left) (unfolded w right)) b eb rep

  pub assigned : (b : Bool) → b ≡ types_are_assignable (unfolded w left) (unfolded w right) → ReportedUnless b (error_for s at 8 left right 0) e st e' st'
      → CheckAssignable s at left right w e st e' st'
  unfolding is_type_operand operand_sort
  assigned b eb rep = tells_pair 8 refl refl refl (types_are_assignable (unfolded w left) (unfolded w right)) b eb rep

module _ (kind : ℕ) (s : List ℕ) (at left place right : ℕ) (w e e' : List ℕ) (st : State) (r : Typed) where
  pub compared : (kind ≡ 37 → ⊥) → (kind ≡ 44 → ⊥) → (kind ≡ 45 → ⊥) → TwoTypes w st.rows left right → Arithmetic s at 9 left right w e st e' r
      → Binary kind s at left place right w e st e' (record { ty = 3; state = r.state })
  compared n37 n44 n45 two a =
      rw (ne_eqb kind 37 n37, ne_eqb kind 44 n44, ne_eqb kind 45 n45)
      (record { shows = record { is = fixed_is w st.rows two.table 3 (omega arith) (omega arith); type = bool_row_lem w st.rows two.table }; tells = a.tells })

-- An identifier
pub identified : (s work : List ℕ) (at : ℕ) (e e' : List ℕ) (st st' : State) → (name : ℕ) → Read (word_at s (at + 20)) 32 name
    → (found : ℕ) → found ≡ resolved_word work name → ReportedUnless (not (eqb found 0)) (error_for s at 10 name 0 0) e st e' st' → (r : ℕ) → r ≡ or_unknown_row found
    → Identifier s work at e st e' (record { ty = r; state = st' })
unfolding SpellsOperand is_type_operand operand_sort
identified s work at e e' st st' name en found ef rep r er =
    let there = ef ∙ ap (λ (n : ℕ). resolved_word work n) en.is in
    record {
      row = er ∙ ap or_unknown_row there;
      tells = λ w. tells_unless (not (eqb (resolved_word work (word_at s (at + 20))) 0)) (ap (λ (v : ℕ). not (eqb v 0)) there) rep (spells_at s at 10 (refl, en.is) (refl, refl) (refl, refl));
    }

-- A literal. The first is cited by nothing here now
pub literal_error_lem : (s : List ℕ) (at f l col p : ℕ) → Read (half_at s (at + 6)) 16 f → Read (word_at s (at + 8)) 32 l → Read (word_at s (at + 12)) 32 col → p ≡ at
    → record { kind = 23; file = f; line = l; column = col; first = 0; second = 0; third = 0; place = p } ≡ literal_error s at
literal_error_lem s at f l col p rf rl rc ep =
    λ i. record { kind = 23; file = rf.is i; line = rl.is i; column = rc.is i; first = 0; second = 0; third = 0; place = ep i }

module _ (s : List ℕ) (at base : ℕ) (eb : Read (word_at s (at + 20)) 32 base) (len : ℕ) (el : Read (word_at s at) 32 len)
    (parsed : code.Option ℕ) (ep : parsed_value parsed ≡ from_str_radix base (take (at + len - (at + 24)) (drop (at + 24) s))) (e : List ℕ) (st : State) where
  read : parsed_value parsed ≡ from_str_radix (word_at s (at + 20)) (digits_at s at)
  read =
      ep ∙ ap (λ (n : ℕ). from_str_radix n (take (at + len - (at + 24)) (drop (at + 24) s))) eb.is
      ∙ ap (λ (n : ℕ). from_str_radix (word_at s (at + 20)) (take (at + n - (at + 24)) (drop (at + 24) s))) el.is

  judged : (b : Bool) → b ≡ is_some (parsed_value parsed) → (e' : List ℕ) (st' : State) → ReportedUnless b (literal_error s at) e st e' st' → Integer s at e st e' (record { ty = 4; state = st' })
  unfolding SpellsOperand is_type_operand operand_sort
  judged b q e' st' rep =
      record {
        row = refl;
        tells = λ w.
            tells_unless (is_some (from_str_radix (word_at s (at + 20)) (digits_at s at))) (q ∙ ap is_some read) rep
            (record { kind = refl; file = refl; line = refl; column = refl; first = (refl, refl); second = (refl, refl); third = (refl, refl); place = refl });
      }

  pub literal_read : (v : ℕ) → parsed ≡ code.Some v → Integer s at e st e (record { ty = 4; state = st })
  literal_read v q = judged true (sym (ap (λ (p : code.Option ℕ). is_some (parsed_value p)) q)) e st (reported_none true (literal_error s at) e st refl)

  pub literal_none : parsed ≡ code.None → (x : Error) → x ≡ literal_error s at → (e' : List ℕ) (st' : State) → Reported e st x e' st' → Integer s at e st e' (record { ty = 4; state = st' })
  literal_none q x ex e' st' rep =
      judged false (sym (ap (λ (p : code.Option ℕ). is_some (parsed_value p)) q)) e' st' (reported_one false (literal_error s at) e st refl x ex e' st' rep)
