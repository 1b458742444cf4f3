-- An error unless a test holds: what the rules have in common. Assumes nothing.
use Prim.Native.Nat.{ℕ}
use mathlib.Core.Path.{◌≡◌, refl, sym, ap, ◌∙◌, subst}
use mathlib.Core.Bool.{Bool, true, false, true≢false}
use mathlib.Core.List.{List, [], ◌++◌}
use Rattle.types.specs.Ty.{Ty}
use Rattle.types.specs.Table.{unfolded, IsType}
use Rattle.types.proofs.Grow.{extends_type}
use Rattle.trees.specs.Record.{location_at}
use Rattle.fallible.specs.declared.Error.{Error}
use Rattle.fallible.specs.Operands.{is_type_operand}
use Rattle.meaning.specs.TypeError.{TypeError, Operand, row, error, unused, unless}
use Rattle.walk.specs.declared.State.{State}
use Rattle.walk.specs.Effect.{Effect, reporting}
use Rattle.walk.specs.Represents.{Lent, lent, Good, Grew, Shows, SpellsOperand, Spells, Typing}
use Rattle.walk.specs.Post.{Reported, Tells, Walked}
use Rattle.walk.proofs.Laws.{typing_later}
use Rattle.walk.proofs.Telling.{tells_none, tells_one}
use Rattle.walk.proofs.Walks.{walked_none, walked_then, walked_report, walked_room}
use Rattle.convert.specs.Post.{error_for}
use Rattle.expression_rules.specs.Rules.{Gives, Checks, ReportedUnless}

module _ {X : Type 0} {G : X → Type 0} {from to : ℕ} {work o e w ix : List ℕ} {st : State} (g : Good (lent work o e w ix st)) where
  pub walked_unless : {b : Bool} {x : Error} {e' : List ℕ} {st' : State} (test : X → Bool) (d : X → TypeError) → ReportedUnless b x e st e' st'
      → ((y : X) → G y → st.full ≡ false → b ≡ test y) → ((y : X) → G y → st.full ≡ false → Spells w st.rows (d y) x)
      → Walked G (λ y. reporting (unless (test y) (d y))) from to (lent work o e w ix st) (lent work o e' w ix st')
  walked_unless {b} {x} {e'} {st'} test d r tested sp = go b refl
    where
      effect : X → Bool → Effect
      effect y c = reporting (unless c (d y))

      go : (c : Bool) → b ≡ c → Walked G (λ y. reporting (unless (test y) (d y))) from to (lent work o e w ix st) (lent work o e' w ix st')
      go true q =
          subst (λ (s : State). Walked G (λ y. reporting (unless (test y) (d y))) from to (lent work o e w ix st) (lent work o e' w ix s)) (sym (r.none q).1)
          (subst (λ (l : List ℕ). Walked G (λ y. reporting (unless (test y) (d y))) from to (lent work o e w ix st) (lent work o l w ix st)) (sym (r.none q).0)
          (walked_room (walked_none g) (λ y h p. ap (λ (c : Bool). reporting (unless c (d y))) (sym q ∙ tested y h p))))
      go false q = walked_room (walked_report g d (r.one q) sp) (λ y h p. ap (λ (c : Bool). reporting (unless c (d y))) (sym q ∙ tested y h p))

pub reported_always : {x : Error} {e e' : List ℕ} {st st' : State} → Reported e st x e' st' → ReportedUnless false x e st e' st'
reported_always r = record { none = λ q. absurd (true≢false (sym q)); one = λ q. r }

-- What an error at a record spells
pub spells_at : {w : List ℕ} {c : ℕ} (s : List ℕ) (at k : ℕ) {a b d : Operand} {x y z : ℕ} → SpellsOperand w c k 0 a x → SpellsOperand w c k 1 b y → SpellsOperand w c k 2 d z
    → Spells w c (error k (location_at s at) a b d) (error_for s at k x y z)
spells_at s at k p q r = record { kind = refl; file = refl; line = refl; column = refl; first = p; second = q; third = r; place = refl }

-- The same rows, whether an error was reported or not
pub unless_rows : {b : Bool} {x : Error} {e e' : List ℕ} {st st' : State} → ReportedUnless b x e st e' st' → st'.rows ≡ st.rows
unless_rows {b} {st = st} {st' = st'} r = go b refl
  where
    go : (c : Bool) → b ≡ c → st'.rows ≡ st.rows
    go true q = ap (λ (s : State). s.rows) (r.none q).1
    go false q = ap (λ (s : State). s.rows) (r.one q).rest

-- It is told in words
module _ {w e e' : List ℕ} {st st' : State} where
  pub tells_unless : {b : Bool} {x : Error} {d : TypeError} (test : Bool) → b ≡ test → ReportedUnless b x e st e' st' → Spells w st.rows d x → Tells w (unless test d) e st e' st'
  tells_unless {b} {x} {d} true q r sp =
      subst (λ (s : State). Tells w [] e st e' s) (sym (r.none q).1) (subst (λ (l : List ℕ). Tells w [] e st l st) (sym (r.none q).0) tells_none)
  tells_unless {b} {x} {d} false q r sp = tells_one sp (r.one q)

  -- The error names one row
  pub tells_row : (s : List ℕ) (at ty : ℕ) {t : Ty} → Shows w st.rows ty t → (k : ℕ) → is_type_operand k 0 ≡ true → is_type_operand k 1 ≡ false → is_type_operand k 2 ≡ false
      → (test : Bool) {b : Bool} → b ≡ test → ReportedUnless b (error_for s at k ty 0 0) e st e' st' → Tells w (unless test (error k (location_at s at) (row t) unused unused)) e st e' st'
  unfolding SpellsOperand
  tells_row s at ty sh k k0 k1 k2 test q r = tells_unless test q r (spells_at s at k (k0, sh) (k1, refl) (k2, refl))

module _ {X : Type 0} {Given : Lent → X → Type 0} {w e e' : List ℕ} {st st' : State} where
  -- An error that is reported, unless a test holds of what is given
  pub checks_unless : {b : Bool} {x : Error} (test : X → Bool) (d : X → TypeError) → ReportedUnless b x e st e' st'
      → ((work o ix : List ℕ) (y : X) → Given (lent work o e w ix st) y → st.full ≡ false → b ≡ test y)
      → ((work o ix : List ℕ) (y : X) → Given (lent work o e w ix st) y → st.full ≡ false → Spells w st.rows (d y) x) → Checks Given (λ y. unless (test y) (d y)) w e st e' st'
  checks_unless test d r tested sp = record { kept = unless_rows r; walked = λ work o ix from to g. walked_unless g test d r (tested work o ix) (sp work o ix) }

  -- What is known of the errors only if there is room
  pub checks_room : (told told' : X → List TypeError) → Checks Given told w e st e' st'
      → ((work o ix : List ℕ) (y : X) → Given (lent work o e w ix st) y → st.full ≡ false → told y ≡ told' y) → Checks Given told' w e st e' st'
  checks_room told told' c q = record { kept = c.kept; walked = λ work o ix from to g. walked_room (c.walked work o ix from to g) (λ y h p. ap reporting (q work o ix y h p)) }

  -- One check after another
  pub checks_then : {e₁ : List ℕ} {st₁ : State} (a b : X → List TypeError) → Checks Given a w e st e₁ st₁ → Checks Given b w e₁ st₁ e' st'
      → ((C C' : Lent) (x : X) → Grew C C' → Given C x → Given C' x) → Checks Given (λ x. a x ++ b x) w e st e' st'
  checks_then {e₁} {st₁} a b p q later =
      record {
        kept = q.kept ∙ p.kept;
        walked = λ work o ix from to g.
            let first = p.walked work o ix from to g in
            walked_then first (q.walked work o ix from to first.grew.good) (λ x h. later (lent work o e w ix st) (lent work o e₁ w ix st₁) x first.grew h);
      }

  -- A row that was there shows the type
  pub gives_checked : {r : ℕ} (type : X → Ty) (told : X → List TypeError) → Checks Given told w e st e' st' → IsType w st.rows r
      → ((work o ix : List ℕ) (y : X) → Given (lent work o e w ix st) y → st.full ≡ false → Shows w st.rows r (type y))
      → Gives Given type (λ y. reporting (told y)) w e st e' (record { ty = r; state = st' })
  gives_checked {r} type told c is sh =
      record {
        walked = λ work o ix from to g.
            let step = c.walked work o ix from to g in
            record {
              walked = step;
              is = extends_type w w st.rows st'.rows step.grew.extends r is;
              typing = λ y h. typing_later step.grew (record { shows = λ p. sh work o ix y h p });
            };
      }

  -- The error names one row, and the test is of its type
  module _ (s : List ℕ) (at ty : ℕ) (type : X → Ty) (given : (C : Lent) (x : X) → Given C x → Typing C ty (type x)) where
    pub checks_row : (k : ℕ) → is_type_operand k 0 ≡ true → is_type_operand k 1 ≡ false → is_type_operand k 2 ≡ false
        → (test : Ty → Bool) (b : Bool) → b ≡ test (unfolded w ty) → ReportedUnless b (error_for s at k ty 0 0) e st e' st'
        → Checks Given (λ x. unless (test (type x)) (error k (location_at s at) (row (type x)) unused unused)) w e st e' st'
    unfolding SpellsOperand
    checks_row k k0 k1 k2 test b eb r =
        checks_unless (λ x. test (type x)) (λ x. error k (location_at s at) (row (type x)) unused unused) r
        (λ work o ix x h p. eb ∙ ap test ((given (lent work o e w ix st) x h).shows p).type)
        (λ work o ix x h p. spells_at s at k (k0, (given (lent work o e w ix st) x h).shows p) (k1, refl) (k2, refl))

-- The steps of a report
module _ (holds : Bool) (x : Error) (e : List ℕ) (st : State) where
  pub reported_none : holds ≡ true → ReportedUnless holds x e st e st
  reported_none h = record { none = λ q. (refl, refl); one = λ q. absurd (true≢false (sym h ∙ q)) }

  pub reported_one : holds ≡ false → (y : Error) → y ≡ x → (e' : List ℕ) (st' : State) → Reported e st y e' st' → ReportedUnless holds x e st e' st'
  reported_one h y q e' st' r = record { none = λ z. absurd (true≢false (sym z ∙ h)); one = λ z. subst (λ (y : Error). Reported e st y e' st') q r }
