-- What is promised in words, as an effect on what the lent words stand for: what callers use of the rules. Assumes nothing.
use Prim.Native.Nat.{ℕ, ◌+◌, ◌*◌, ◌≤◌}
use mathlib.Core.Path.{◌≡◌, refl, sym, ap, subst}
use mathlib.Core.Bool.{Bool, true, false}
use mathlib.Core.List.{List}
use native.Mathlib.Omega.{arith}
use lib.Dec.{eqb}
use lib.ListN.{length}
use borrow.Author.Tests.{eqb-true, eqb-false, ne_eqb}
use Rattle.types.specs.Ty.{Ty, pointer, u16}
use Rattle.types.specs.Table.{IsType}
use Rattle.types.proofs.Grow.{extends_type}
use Rattle.types.proofs.Fixed.{fixed_is}
use Rattle.record_bytes.specs.Bytes.{word_at}
use Rattle.trees.specs.Record.{location_at}
use Rattle.meaning.specs.TypeError.{TypeError, unless, unknown_identifier}
use Rattle.meaning.specs.Context.{or_unknown, resolve_identifier}
use Rattle.meaning.specs.Expression.{check_assignable}
use Rattle.walk.specs.declared.State.{State}
use Rattle.walk.specs.declared.Typed.{Typed}
use Rattle.walk.specs.Effect.{reporting}
use Rattle.walk.specs.Represents.{Lent, lent, Good, Shows, Scope}
use Rattle.walk.specs.Post.{Makes, Tells, WalkedTo}
use Rattle.walk.proofs.Laws.{typing_later}
use Rattle.walk.proofs.Walks.{typing_u16, walked_make, walked_to_room, made_type}
use Rattle.walk.proofs.Telling.{tells_rows, walked_tells}
use Rattle.types.specs.declared.Row.TheVariants.{Pointer}
use Rattle.expression_rules.specs.Words.{resolved_word}
use Rattle.expression_rules.specs.Rules.{Operands, identifier_errors, integer_errors, digits_at, unary_type, unary_errors, unary_effect, binary_type, binary_errors, cast_errors, row_types}
use Rattle.expression_rules.specs.Rules.{GivesRow, Identifier, Integer, Unary, UnaryKept, Binary, Cast, CheckAssignable, One, Two, Gives, Checks}
use Rattle.expression_rules.proofs.Found.{found_test, found_shown, resolved_is, resolved_found}

-- A promise in words is one for whatever is given: what the rows show is what is given, if there is room
module _ {X : Type 0} {Given : Lent → X → Type 0} {w e e' : List ℕ} {st : State} where
  checks_told : {st' : State} {told : List TypeError} → Tells w told e st e' st' → (errors : X → List TypeError)
      → ((work o ix : List ℕ) (x : X) → Given (lent work o e w ix st) x → st.full ≡ false → told ≡ errors x) → Checks Given errors w e st e' st'
  checks_told t errors is = record { kept = tells_rows t; walked = λ work o ix from to g. walked_tells t g errors (is work o ix) }

  gives_row : {r : Typed} {type : Ty} {told : List TypeError} → GivesRow type told w e st e' r → (types : X → Ty) (errors : X → List TypeError)
      → ((work o ix : List ℕ) (x : X) → Given (lent work o e w ix st) x → st.full ≡ false → type ≡ types x)
      → ((work o ix : List ℕ) (x : X) → Given (lent work o e w ix st) x → st.full ≡ false → told ≡ errors x) → Gives Given types (λ x. reporting (errors x)) w e st e' r
  gives_row {r} h types errors et ee =
      record {
        walked = λ work o ix from to g.
            let step = walked_tells h.tells g errors (ee work o ix) in
            record {
              walked = step;
              is = extends_type w w st.rows r.state.rows step.grew.extends r.ty h.shows.is;
              typing = λ x given. typing_later step.grew (record { shows = λ p. subst (Shows w st.rows r.ty) (et work o ix x given p) h.shows });
            };
      }

-- Two operands
module _ {w e : List ℕ} {st : State} (left right : ℕ) where
  -- A function of the rows' types, at the types given
  two_given : {A : Type 0} (f : Operands → A) (work o ix : List ℕ) (t : Operands) → Two left right (lent work o e w ix st) t → st.full ≡ false → f (row_types w left right) ≡ f t
  two_given f work o ix t y p =
      let l = (y.left.shows p).type in
      let r = (y.right.shows p).type in
      ap f (λ i. record { left = l i; right = r i })

  module _ (s : List ℕ) (at : ℕ) {e' : List ℕ} where
    pub cast_checks : {st' : State} → Cast s at left right w e st e' st' → Checks (Two left right) (λ t. cast_errors (location_at s at) t) w e st e' st'
    cast_checks c = checks_told c (λ t. cast_errors (location_at s at) t) (two_given (λ t. cast_errors (location_at s at) t))

    pub assignable_checks : {st' : State} → CheckAssignable s at left right w e st e' st'
        → Checks (Two left right) (λ t. check_assignable (location_at s at) t.left t.right) w e st e' st'
    assignable_checks c =
        checks_told c (λ t. check_assignable (location_at s at) t.left t.right) (two_given (λ t. check_assignable (location_at s at) t.left t.right))

    pub binary_gives : (kind place : ℕ) {r : Typed} → Binary kind s at left place right w e st e' r
        → Gives (Two left right) (λ t. binary_type kind t) (λ t. reporting (binary_errors kind (location_at s at) (location_at s place) (word_at s (at + 20)) t)) w e st e' r
    binary_gives kind place b =
        gives_row b (λ t. binary_type kind t) (λ t. binary_errors kind (location_at s at) (location_at s place) (word_at s (at + 20)) t)
        (two_given (λ t. binary_type kind t)) (two_given (λ t. binary_errors kind (location_at s at) (location_at s place) (word_at s (at + 20)) t))

-- One operand
abbrev pub UnaryWalked : (kind : ℕ) (s : List ℕ) (at ty from to : ℕ) (C C' : Lent) (r : ℕ) → Type 0
UnaryWalked kind s at ty from to C C' r =
    WalkedTo (One ty C) (λ t. unary_type kind (word_at s (at + 20)) t) (λ t. unary_effect kind (location_at s at) (word_at s (at + 20)) t) from to C C' r

module _ (kind : ℕ) (s : List ℕ) (at ty : ℕ) {work o w ix e : List ℕ} {st : State} {r : Typed} {from to : ℕ} (g : Good (lent work o e w ix st)) where
  taken_walked : {w' ix' : List ℕ} → kind ≡ 39 → Makes (Pointer ty) w ix st w' ix' r → UnaryWalked kind s at ty from to (lent work o e w ix st) (lent work o e w' ix' r.state) r.ty
  taken_walked q m =
      let made = m.made work o e g in
      rw q
      (record {
        walked = walked_make g (λ t. pointer t) m (λ t y p. ap (λ (u : Ty). pointer u) (y.shows p).type);
        is = made.sort;
        typing = λ t y. record { shows = λ p. record { is = made.sort; type = made_type made (λ z. ap (λ (u : Ty). pointer u) (y.shows z).type) p } };
      })

  kept_walked : {e' : List ℕ} → (kind ≡ 39 → ⊥) → UnaryKept kind s at ty w e st e' r → UnaryWalked kind s at ty from to (lent work o e w ix st) (lent work o e' w ix r.state) r.ty
  kept_walked n u =
      let name = word_at s (at + 20) in
      let gives = gives_row {Given = One ty} u (λ t. unary_type kind name t) (λ t. unary_errors kind (location_at s at) name t)
      (λ work o ix t y p. ap (λ (x : Ty). unary_type kind name x) (y.shows p).type)
      (λ work o ix t y p. ap (λ (x : Ty). unary_errors kind (location_at s at) name x) (y.shows p).type) in
      walked_to_room (gives.walked work o ix from to g) (λ t y p. refl) (λ t y p. rw (ne_eqb kind 39 n) refl)

  pub unary_walked : {w' ix' e' : List ℕ} → Unary kind s at ty w ix e st w' ix' e' r → UnaryWalked kind s at ty from to (lent work o e w ix st) (lent work o e' w' ix' r.state) r.ty
  unary_walked {w'} {ix'} {e'} u = go (eqb kind 39) refl
    where
      Goal : (w' ix' e' : List ℕ) → Type 0
      Goal w' ix' e' = UnaryWalked kind s at ty from to (lent work o e w ix st) (lent work o e' w' ix' r.state) r.ty

      go : (b : Bool) → eqb kind 39 ≡ b → Goal w' ix' e'
      go true q = let t = u.taken (eqb-true kind 39 q) in subst (Goal w' ix') (sym t.1) (taken_walked (eqb-true kind 39 q) t.0)
      go false q =
          let n = eqb-false kind 39 q in
          let k = u.kept n in
          subst (λ (x : List ℕ). Goal x ix' e') (sym k.0) (subst (λ (x : List ℕ). Goal w x e') (sym k.1) (kept_walked n k.2))

-- An identifier, in whatever context the working words hold; a literal, with nothing given
module _ (s : List ℕ) (at : ℕ) {work o w ix e e' : List ℕ} {st : State} {r : Typed} {from to : ℕ} (g : Good (lent work o e w ix st)) where
  pub identifier_walked : 4 * (word_at s (at + 20) + 1) ≤ length work → Identifier s work at e st e' r
      → WalkedTo (Scope (lent work o e w ix st)) (λ ctx. or_unknown (resolve_identifier ctx (word_at s (at + 20))))
      (λ ctx. reporting (identifier_errors ctx (location_at s at) (word_at s (at + 20)))) from to (lent work o e w ix st) (lent work o e' w ix r.state) r.ty
  identifier_walked room h =
      let name = word_at s (at + 20) in
      let step = walked_tells (h.tells w) g (λ ctx. identifier_errors ctx (location_at s at) name)
      (λ ctx y p. ap (λ (b : Bool). unless b (unknown_identifier (location_at s at) name)) (found_test w st.rows (resolve_identifier ctx name) (resolved_word work name) (resolved_found name ctx room p y))) in
      record {
        walked = step;
        is = extends_type w w st.rows r.state.rows step.grew.extends r.ty (subst (IsType w st.rows) (sym h.row) (resolved_is name g));
        typing = λ ctx y. typing_later step.grew (record {
          shows = λ p. subst (λ (v : ℕ). Shows w st.rows v (or_unknown (resolve_identifier ctx name))) (sym h.row)
              (found_shown w st.rows g.table (resolve_identifier ctx name) (resolved_word work name) (resolved_found name ctx room p y));
        });
      }

  pub integer_walked : Integer s at e st e' r
      → WalkedTo (λ (x : Unit {0}). Unit {0}) (λ x. u16) (λ x. reporting (integer_errors (location_at s at) (word_at s (at + 20)) (digits_at s at))) from to
      (lent work o e w ix st) (lent work o e' w ix r.state) r.ty
  integer_walked h =
      let step = walked_tells (h.tells w) g (λ (x : Unit {0}). integer_errors (location_at s at) (word_at s (at + 20)) (digits_at s at)) (λ x y p. refl) in
      subst (λ (v : ℕ). WalkedTo (λ (x : Unit {0}). Unit {0}) (λ x. u16) (λ x. reporting (integer_errors (location_at s at) (word_at s (at + 20)) (digits_at s at))) from to
      (lent work o e w ix st) (lent work o e' w ix r.state) v) (sym h.row)
      (record { walked = step; is = fixed_is w r.state.rows step.grew.good.table 4 (omega arith) (omega arith); typing = λ x y. typing_u16 step.grew.good })
