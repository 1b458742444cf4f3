-- The fields of a struct compound, one after the other. Assumes nothing.
use Prim.Native.Nat.{ℕ, ◌+◌, ◌≤◌, ◌<◌}
use mathlib.Core.Path.{◌≡◌, refl, sym, ap, ◌∙◌, subst}
use mathlib.Core.Bool.{Bool, false}
use mathlib.Core.List.{List, [], ◌∷◌, ◌++◌}
use mathlib.Core.Option.{Option, none, some}
use native.Mathlib.Omega.{arith}
use lib.ListN.{length}
use Rattle.types.specs.Ty.{Ty, unknown, first_of, field_named}
use Rattle.types.specs.Table.{unfolded, IsType}
use Rattle.types.specs.Post.{FoundType}
use Rattle.relations.specs.TypeRows.{OneType}
use Rattle.relations.specs.Relations.{types_are_assignable}
use Rattle.record_bytes.specs.Bytes.{Read, word_at}
use Rattle.layout.specs.Layout.{stop_at}
use Rattle.trees.specs.Record.{location_at}
use Rattle.trees.specs.Tree.{Location, CompoundField}
use Rattle.fallible.specs.declared.Error.{Error}
use Rattle.fallible.specs.Operands.{is_type_operand, operand_sort}
use Rattle.meaning.specs.TypeError.{TypeError, plain, row, unused, unless, no_such_compound_field, field_twice}
use Rattle.meaning.specs.Context.{Context, each}
use Rattle.meaning.specs.Expression.{expression_type, check_assignable}
use Rattle.meaning.specs.Compound.{field_fits}
use Rattle.walk.specs.declared.State.{State}
use Rattle.walk.specs.Represents.{Lent, lent, Grew, SpellsOperand, Typing}
use Rattle.walk.specs.Post.{Reported}
use Rattle.walk.proofs.Laws.{typing_later}
use Rattle.convert.specs.Post.{error_for}
use Rattle.expression_rules.specs.Rules.{CheckAssignable}
use Rattle.expression_rules.proofs.Laws.{spells_at, checks_unless, checks_room, checks_then, reported_always}
use Rattle.expression_rules.proofs.Effects.{assignable_checks}
use Rattle.call_rules.proofs.Chains.{first, first_filled, next_place}
use Rattle.call_rules.proofs.Turns.{checks_at, checks_none}
use Rattle.compound_rules.specs.Fields.{value_place, FilledFields, FieldsAt, ValuesShow, CheckField, field_errors_against, CheckFields}

-- The first field and the others

abbrev pub at_first : (CompoundField → List TypeError) → List CompoundField → List TypeError
at_first f [] = []
at_first f (x ∷ fields) = f x

abbrev pub others : List CompoundField → List CompoundField
others [] = []
others (x ∷ fields) = fields

abbrev first_type : Context → List CompoundField → Ty
first_type ctx [] = unknown
first_type ctx (x ∷ fields) = expression_type ctx x.value

pub each_first : (f : CompoundField → List TypeError) (fields : List CompoundField) → at_first f fields ++ each f (others fields) ≡ each f fields
unfolding each
each_first f [] = refl
each_first f (x ∷ fields) = refl

values_later : (s o : List ℕ) (C C' : Lent) (ctx : Context) (fields : List CompoundField) (at : ℕ) → Grew C C' → ValuesShow s o C ctx fields at → ValuesShow s o C' ctx fields at
unfolding ValuesShow
values_later s o C C' ctx [] at g h = tt
values_later s o C C' ctx (x ∷ fields) at g h = (typing_later g h.0, values_later s o C C' ctx fields (stop_at s at) g h.1)

module _ (s : List ℕ) (stop : ℕ) where
  pub others_at : (fields : List CompoundField) (at : ℕ) → FieldsAt s stop fields at → at < stop → FieldsAt s stop (others fields) (stop_at s at)
  unfolding FieldsAt
  others_at [] at h p = absurd (omega (arith, h))
  others_at (x ∷ fields) at h p = h.2

  first_typing : (o : List ℕ) (C : Lent) (ctx : Context) (fields : List CompoundField) (at : ℕ) → FieldsAt s stop fields at → at < stop → ValuesShow s o C ctx fields at
      → Typing C (word_at o (value_place at)) (first_type ctx fields)
  unfolding FieldsAt ValuesShow
  first_typing o C ctx [] at h p v = absurd (omega (arith, h))
  first_typing o C ctx (x ∷ fields) at h p v = v.0

  others_show : (o : List ℕ) (C : Lent) (ctx : Context) (fields : List CompoundField) (at : ℕ) → FieldsAt s stop fields at → at < stop → ValuesShow s o C ctx fields at
      → ValuesShow s o C ctx (others fields) (stop_at s at)
  unfolding FieldsAt ValuesShow
  others_show o C ctx [] at h p v = absurd (omega (arith, h))
  others_show o C ctx (x ∷ fields) at h p v = v.1

  pub none_left : (fields : List CompoundField) (at : ℕ) → FieldsAt s stop fields at → stop ≤ at → fields ≡ []
  unfolding FieldsAt
  none_left [] at h p = refl
  none_left (x ∷ fields) at h p = absurd (omega (arith, h.0))

-- Errors at a field are errors at its record

fits_at : (l m : Location) → l.file ≡ m.file → l.line ≡ m.line → l.column ≡ m.column → (name : ℕ) (found : Option Ty) (v : Ty) → field_fits l name found v ≡ field_fits m name found v
fits_at l m pf pl pc name none v = λ i. record { kind = 27; file = pf i; line = pl i; column = pc i; first = plain name; second = unused; third = unused; place = 0 } ∷ []
fits_at l m pf pl pc name (some t) v =
    λ i. unless (types_are_assignable t v) (record { kind = 8; file = pf i; line = pl i; column = pc i; first = row t; second = row v; third = unused; place = 0 })

pub twice_at : (l m : Location) → l.file ≡ m.file → l.line ≡ m.line → l.column ≡ m.column → (name : ℕ) (b : Bool) → unless b (field_twice l name) ≡ unless b (field_twice m name)
twice_at l m pf pl pc name b = λ i. unless b (record { kind = 29; file = pf i; line = pl i; column = pc i; first = plain name; second = unused; third = unused; place = 0 })

fits_first : (ctx : Context) (fields : List CompoundField) (at : ℕ) (cells : Ty) (s : List ℕ) (stop : ℕ) → FieldsAt s stop fields at → at < stop
    → field_fits (location_at s at) (word_at s (at + 16)) (field_named (word_at s (at + 16)) cells) (first_type ctx fields)
    ≡ at_first (λ f. field_fits f.location f.name (field_named f.name cells) (expression_type ctx f.value)) fields
unfolding FieldsAt
fits_first ctx [] at cells s stop h p = absurd (omega (arith, h))
fits_first ctx (x ∷ fields) at cells s stop h p =
    ap (λ (n : ℕ). field_fits (location_at s at) n (field_named n cells) (expression_type ctx x.value)) h.1.name
    ∙ fits_at (location_at s at) x.location h.1.file h.1.line h.1.column x.name (field_named x.name cells) (expression_type ctx x.value)

-- `check_field`
module _ (s : List ℕ) (place bare : ℕ) (o w e e' : List ℕ) (st st' : State) (name : ℕ) (en : Read (word_at s (place + 16)) 32 name)
    (field : ℕ) (found : FoundType w st.rows (field_named name (first_of (unfolded w bare))) field) where
  here : (x : Option Ty) → field_named name (first_of (unfolded w bare)) ≡ x → x ≡ field_named (word_at s (place + 16)) (first_of (unfolded w bare))
  here x q = sym q ∙ ap (λ (n : ℕ). field_named n (first_of (unfolded w bare))) en.is

  pub field_missing : field ≡ 0 → (x : Error) → x ≡ error_for s place 27 name 0 0 → Reported e st x e' st' → CheckField s place bare o w e st e' st'
  unfolding SpellsOperand is_type_operand operand_sort
  field_missing q x ex rep =
      checks_room (λ v. no_such_compound_field (location_at s place) (word_at s (place + 16)) ∷ [])
      (λ v. field_fits (location_at s place) (word_at s (place + 16)) (field_named (word_at s (place + 16)) (first_of (unfolded w bare))) v)
      (checks_unless (λ v. false) (λ v. no_such_compound_field (location_at s place) (word_at s (place + 16))) (reported_always (subst (λ (z : Error). Reported e st z e' st') ex rep))
      (λ work output ix v y p. refl) (λ work output ix v y p. spells_at s place 27 (refl, en.is) (refl, refl) (refl, refl)))
      (λ work output ix v y p.
      ap (λ (z : Option Ty). field_fits (location_at s place) (word_at s (place + 16)) z v) (here none (found.absent q)))

  module _ (n : field ≡ 0 → ⊥) (got : ℕ) (eg : Read (word_at o (value_place place)) 32 got) where
    low : 1 ≤ field
    low = omega (arith, n)

    pub field_checked : CheckAssignable s place field got w e st e' st' → CheckField s place bare o w e st e' st'
    field_checked c =
        checks_room (λ v. check_assignable (location_at s place) (unfolded w field) v)
        (λ v. field_fits (location_at s place) (word_at s (place + 16)) (field_named (word_at s (place + 16)) (first_of (unfolded w bare))) v)
        (checks_at (λ v. record { left = unfolded w field; right = v }) (λ t. check_assignable (location_at s place) t.left t.right) (assignable_checks field got s place c)
        (λ work output ix v y.
        record {
          left = record { shows = λ p. record { is = found.is low; type = refl } };
          right = subst (λ (r : ℕ). Typing (lent work output e w ix st) r v) (sym eg.is) y;
        }))
        (λ work output ix v y p.
        ap (λ (z : Option Ty). field_fits (location_at s place) (word_at s (place + 16)) z v) (here (some (unfolded w field)) (found.type low)))

-- `check_fields`
pub record Checking (s : List ℕ) (from stop bare : ℕ) (o w e₀ : List ℕ) (st₀ : State) (place : ℕ) (e : List ℕ) (st : State) : Type 0 where
  pub one : OneType w st.rows bare
  pub filled : FilledFields w st.rows s o place stop
  pub going : (e' : List ℕ) (st' : State) → CheckFields s place stop bare o w e st e' st' → CheckFields s from stop bare o w e₀ st₀ e' st'

module _ (s : List ℕ) (from stop bare : ℕ) (o w e₀ : List ℕ) (st₀ : State) where
  pub checking_start : FilledFields w st₀.rows s o from stop → OneType w st₀.rows bare → Checking s from stop bare o w e₀ st₀ from e₀ st₀
  checking_start f t = record { one = t; filled = f; going = λ e' st' c. c }

  module _ (place : ℕ) (e : List ℕ) (st : State) (i : Checking s from stop bare o w e₀ st₀ place e st) where
    module _ (p : place < stop) where
      pub name_inside : place + 20 ≤ length s
      name_inside = let f = first s place stop i.filled.listed p in omega (arith, f.slot, f.ends, i.filled.listed.long)

      pub value_inside : value_place place + 4 ≤ length o
      value_inside =
          let f = first s place stop i.filled.listed p in
          let v = first_filled w st.rows s o place stop i.filled p in
          omega (arith, v.slot, f.ends, i.filled.room)

      pub value_is : IsType w st.rows (word_at o (value_place place))
      value_is = (first_filled w st.rows s o place stop i.filled p).is

      pub checking_on : (e₁ : List ℕ) (st₁ : State) → CheckField s place bare o w e st e₁ st₁ → (len : ℕ) → Read (word_at s place) 32 len
          → Checking s from stop bare o w e₀ st₀ (place + len) e₁ st₁
      checking_on e₁ st₁ c len el =
          subst (λ (x : ℕ). Checking s from stop bare o w e₀ st₀ x e₁ st₁) (next_place s place stop i.filled.listed p len el)
          (record {
            one = subst (λ (n : ℕ). OneType w n bare) (sym c.kept) i.one;
            filled = subst (λ (n : ℕ). FilledFields w n s o (stop_at s place) stop) (sym c.kept) (first_filled w st.rows s o place stop i.filled p).next;
            going = λ e' st' later. i.going e' st' (turn e' st' later);
          })
        where
          first_fits : (ctx : Context) (fields : List CompoundField) → FieldsAt s stop fields place
              → field_fits (location_at s place) (word_at s (place + 16)) (field_named (word_at s (place + 16)) (first_of (unfolded w bare))) (first_type ctx fields)
              ≡ at_first (λ f. field_fits f.location f.name (field_named f.name (first_of (unfolded w bare))) (expression_type ctx f.value)) fields
          first_fits ctx fields h = fits_first ctx fields place (first_of (unfolded w bare)) s stop h p

          turn : (e' : List ℕ) (st' : State) → CheckFields s (stop_at s place) stop bare o w e₁ st₁ e' st' → CheckFields s place stop bare o w e st e' st'
          turn e' st' later =
              checks_room
              (λ x. field_fits (location_at s place) (word_at s (place + 16)) (field_named (word_at s (place + 16)) (first_of (unfolded w bare))) (first_type x.ctx x.fields)
              ++ field_errors_against (first_of (unfolded w bare)) x.ctx (others x.fields))
              (λ x. field_errors_against (first_of (unfolded w bare)) x.ctx x.fields)
              (checks_then
              (λ x. field_fits (location_at s place) (word_at s (place + 16)) (field_named (word_at s (place + 16)) (first_of (unfolded w bare))) (first_type x.ctx x.fields))
              (λ x. field_errors_against (first_of (unfolded w bare)) x.ctx (others x.fields))
              (checks_at (λ x. first_type x.ctx x.fields)
              (λ v. field_fits (location_at s place) (word_at s (place + 16)) (field_named (word_at s (place + 16)) (first_of (unfolded w bare))) v) c
              (λ work output ix x h. first_typing s stop o (lent work output e w ix st) x.ctx x.fields place h.stand p h.show))
              (checks_at (λ x. record { ctx = x.ctx; target = x.target; fields = others x.fields })
              (λ x. field_errors_against (first_of (unfolded w bare)) x.ctx x.fields) later
              (λ work output ix x h.
              record {
                stand = others_at s stop x.fields place h.stand p;
                show = others_show s stop o (lent work output e₁ w ix st₁) x.ctx x.fields place h.stand p h.show;
              }))
              (λ C C' x g h. record { stand = h.stand; show = values_later s o C C' x.ctx x.fields place g h.show }))
              (λ work output ix x h q.
              ap (λ (l : List TypeError). l ++ field_errors_against (first_of (unfolded w bare)) x.ctx (others x.fields)) (first_fits x.ctx x.fields h.stand)
              ∙ each_first (λ f. field_fits f.location f.name (field_named f.name (first_of (unfolded w bare))) (expression_type x.ctx f.value)) x.fields)

    pub checking_done : stop ≤ place → CheckFields s from stop bare o w e₀ st₀ e st
    unfolding each
    checking_done p =
        i.going e st
        (checks_room (λ x. []) (λ x. field_errors_against (first_of (unfolded w bare)) x.ctx x.fields) checks_none
        (λ work output ix x h q. sym (ap (λ (l : List CompoundField). field_errors_against (first_of (unfolded w bare)) x.ctx l) (none_left s stop x.fields place h.stand p))))
