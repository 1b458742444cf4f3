-- Names that stand more than once, and the whole struct compound. Assumes nothing.
use Prim.Native.Nat.{ℕ, suc, ◌+◌, ◌^◌, ◌≤◌, ◌<◌}
use mathlib.Core.Path.{◌≡◌, refl, sym, ap, ◌∙◌, subst}
use mathlib.Core.Bool.{Bool, true, false, cond}
use mathlib.Core.List.{List, [], ◌∷◌, ◌++◌}
use native.Mathlib.Omega.{arith}
use lib.Dec.{eqb, leb}
use mir.Val.{bool_byte}
use lib.ListN.{length}
use borrow.Author.Tests.{eq-eqb, ne_eqb}
use Rattle.types.specs.Ty.{Ty, kind_of, first_of, desugar, struct_kind}
use Rattle.types.specs.Table.{unfolded}
use Rattle.types.specs.Post.{TypePart}
use Rattle.record_bytes.specs.Bytes.{Read, word_at}
use Rattle.layout.specs.Layout.{stop_at}
use Rattle.trees.specs.Record.{location_at}
use Rattle.trees.specs.Tree.{CompoundField}
use Rattle.fallible.specs.declared.Error.{Error}
use Rattle.fallible.specs.Operands.{is_type_operand, operand_sort}
use Rattle.meaning.specs.TypeError.{TypeError, unless, struct_compound_target, field_twice}
use Rattle.meaning.specs.Context.{each}
use Rattle.meaning.specs.Compound.{struct_errors, occurrences, repeat_errors}
use Rattle.walk.specs.declared.State.{State}
use Rattle.walk.specs.Represents.{Lent, lent, SpellsOperand}
use Rattle.walk.specs.Post.{Reported}
use Rattle.convert.specs.Post.{error_for}
use Rattle.expression_rules.specs.Rules.{Checks, ReportedUnless}
use Rattle.expression_rules.proofs.Laws.{spells_at, checks_unless, checks_room, checks_then, reported_always}
use Rattle.call_rules.specs.Lists.{RecordsListed}
use Rattle.call_rules.proofs.Chains.{first, next_place}
use Rattle.call_rules.proofs.Turns.{checks_at, checks_none}
use Rattle.compound_rules.specs.Fields.{FieldsAt, Compounded, CompoundTyped, field_errors_against, CheckFields, Occurs, Single, CheckRepeats, StructCompound}
use Rattle.compound_rules.proofs.Fields.{at_first, others, each_first, others_at, none_left, twice_at}

-- `occurrences`
pub record Occurring (s : List ℕ) (from stop name at count : ℕ) : Type 0 where
  pub listed : RecordsListed s at stop
  pub few : count ≤ at
  pub total : (fields : List CompoundField) → FieldsAt s stop fields from → (rest : List CompoundField) × FieldsAt s stop rest at × (occurrences name fields ≡ count + occurrences name rest)

module _ (s : List ℕ) (from stop name at count : ℕ) (i : Occurring s from stop name at count) where
  module _ (p : at < stop) where
    pub name_word : at + 16 + 4 ≤ length s
    name_word = let f = first s at stop i.listed p in omega (arith, f.slot, f.ends, i.listed.long)

    -- Cited by nothing here now
    pub occurring_small : count + 1 < 2 ^ 32
    occurring_small = omega (arith, i.few, i.listed.long, i.listed.few)

    one_more : (b : Bool) → bool_byte b ≤ 1
    one_more true = omega arith
    one_more false = omega arith

    pub occurring_on : (word : ℕ) → Read (word_at s (at + 16)) 32 word → (more : ℕ) → more ≡ bool_byte (eqb word name) → (len : ℕ) → Read (word_at s at) 32 len
        → Occurring s from stop name (at + len) (count + more)
    unfolding FieldsAt occurrences
    occurring_on word ew more em len el =
        let f = first s at stop i.listed p in
        let q = next_place s at stop i.listed p len el in
        record {
          listed = subst (λ (x : ℕ). RecordsListed s x stop) q f.next;
          few = let one = one_more (eqb word name) in omega (arith, i.few, f.slot, el.is, em, one);
          total = λ fields h. step fields (i.total fields h);
        }
      where
        tally : (b : Bool) (n : ℕ) → count + cond b (suc n) n ≡ count + bool_byte b + n
        tally true n = omega arith
        tally false n = omega arith

        step : (fields : List CompoundField) → ((rest : List CompoundField) × FieldsAt s stop rest at × (occurrences name fields ≡ count + occurrences name rest))
            → (rest : List CompoundField) × FieldsAt s stop rest (at + len) × (occurrences name fields ≡ count + more + occurrences name rest)
        step fields ([], h, z) = absurd (omega (arith, h))
        step fields (x ∷ rest, h, z) = (
          rest,
          subst (λ (y : ℕ). FieldsAt s stop rest y) (next_place s at stop i.listed p len el) h.2,
          z ∙ tally (eqb x.name name) (occurrences name rest)
              ∙ ap (λ (n : ℕ). count + bool_byte (eqb n name) + occurrences name rest) (sym (ew.is ∙ h.1.name)) ∙ ap (λ (n : ℕ). count + n + occurrences name rest) (sym em),
        )

  pub occurring_done : stop ≤ at → Occurs s from stop name count
  unfolding FieldsAt occurrences
  occurring_done p = record { count = λ fields h. done fields (i.total fields h) }
    where
      done : (fields : List CompoundField) → ((rest : List CompoundField) × FieldsAt s stop rest at × (occurrences name fields ≡ count + occurrences name rest)) → count ≡ occurrences name fields
      done fields ([], h, z) = omega (arith, z)
      done fields (x ∷ rest, h, z) = absurd (omega (arith, h.0))

-- `report_repeats`

-- An error for each of `some` that stands twice among `all`
abbrev repeated_among : (all some : List CompoundField) → List TypeError
repeated_among all some = each (λ f. unless (leb (occurrences f.name all) 1) (field_twice f.location f.name)) some

-- All fields, and those that are left
pub record Repeating : Type 0 where
  pub all : List CompoundField
  pub left : List CompoundField

pub record Standing (s : List ℕ) (from stop at : ℕ) (C : Lent) (x : Repeating) : Type 0 where
  pub whole : FieldsAt s stop x.all from
  pub rest : FieldsAt s stop x.left at

pub record Repeats (s : List ℕ) (from stop : ℕ) (e₀ : List ℕ) (st₀ : State) (at : ℕ) (e : List ℕ) (st : State) : Type 0 where
  pub listed : RecordsListed s at stop
  pub going : (w e' : List ℕ) (st' : State) → Checks (Standing s from stop at) (λ x. repeated_among x.all x.left) w e st e' st'
      → Checks (λ C fields. FieldsAt s stop fields from) (λ fields. repeat_errors fields) w e₀ st₀ e' st'

twice_first : (all fields : List CompoundField) (at : ℕ) (s : List ℕ) (stop : ℕ) → FieldsAt s stop fields at → at < stop
    → unless (leb (occurrences (word_at s (at + 16)) all) 1) (field_twice (location_at s at) (word_at s (at + 16)))
    ≡ at_first (λ f. unless (leb (occurrences f.name all) 1) (field_twice f.location f.name)) fields
unfolding FieldsAt
twice_first all [] at s stop h p = absurd (omega (arith, h))
twice_first all (x ∷ fields) at s stop h p =
    ap (λ (n : ℕ). unless (leb (occurrences n all) 1) (field_twice (location_at s at) n)) h.1.name
    ∙ twice_at (location_at s at) x.location h.1.file h.1.line h.1.column x.name (leb (occurrences x.name all) 1)

module _ (s : List ℕ) (from stop : ℕ) (e₀ : List ℕ) (st₀ : State) where
  pub repeats_start : RecordsListed s from stop → Repeats s from stop e₀ st₀ from e₀ st₀
  repeats_start l =
      record {
        listed = l;
        going = λ w e' st' c. checks_at (λ fields. record { all = fields; left = fields }) (λ x. repeated_among x.all x.left) c (λ work o ix fields h. record { whole = h; rest = h });
      }

  module _ (at : ℕ) (e : List ℕ) (st : State) (i : Repeats s from stop e₀ st₀ at e st) where
    pub repeated_inside : at < stop → at + 16 + 4 ≤ length s
    repeated_inside p = let f = first s at stop i.listed p in omega (arith, f.slot, f.ends, i.listed.long)

    pub repeated_head : at < stop → at + 16 ≤ length s
    repeated_head p = let f = first s at stop i.listed p in omega (arith, f.slot, f.ends, i.listed.long)

    pub repeats_on : at < stop → (name : ℕ) → Read (word_at s (at + 16)) 32 name → (once : Bool) → Single s from stop name once → (e₁ : List ℕ) (st₁ : State)
        → ReportedUnless once (error_for s at 29 name 0 0) e st e₁ st₁ → (len : ℕ) → Read (word_at s at) 32 len → Repeats s from stop e₀ st₀ (at + len) e₁ st₁
    unfolding SpellsOperand is_type_operand operand_sort
    repeats_on p name en once single e₁ st₁ rep len el =
        subst (λ (x : ℕ). Repeats s from stop e₀ st₀ x e₁ st₁) (next_place s at stop i.listed p len el)
        (record { listed = (first s at stop i.listed p).next; going = λ w e' st' later. i.going w e' st' (turn w e' st' later) })
      where
        turn : (w e' : List ℕ) (st' : State) → Checks (Standing s from stop (stop_at s at)) (λ x. repeated_among x.all x.left) w e₁ st₁ e' st'
            → Checks (Standing s from stop at) (λ x. repeated_among x.all x.left) w e st e' st'
        turn w e' st' later =
            checks_room
            (λ x. unless (leb (occurrences (word_at s (at + 16)) x.all) 1) (field_twice (location_at s at) (word_at s (at + 16))) ++ repeated_among x.all (others x.left))
            (λ x. repeated_among x.all x.left)
            (checks_then (λ x. unless (leb (occurrences (word_at s (at + 16)) x.all) 1) (field_twice (location_at s at) (word_at s (at + 16))))
            (λ x. repeated_among x.all (others x.left))
            (checks_unless (λ x. leb (occurrences (word_at s (at + 16)) x.all) 1) (λ x. field_twice (location_at s at) (word_at s (at + 16))) rep
            (λ work o ix x h q. single.is x.all h.whole ∙ ap (λ (m : ℕ). leb (occurrences m x.all) 1) en.is)
            (λ work o ix x h q. spells_at s at 29 (refl, en.is) (refl, refl) (refl, refl)))
            (checks_at (λ x. record { all = x.all; left = others x.left }) (λ x. repeated_among x.all x.left) later
            (λ work o ix x h. record { whole = h.whole; rest = others_at s stop x.left at h.rest p }))
            (λ C C' x g h. record { whole = h.whole; rest = h.rest }))
            (λ work o ix x h q.
            ap (λ (l : List TypeError). l ++ repeated_among x.all (others x.left)) (twice_first x.all x.left at s stop h.rest p)
            ∙ each_first (λ f. unless (leb (occurrences f.name x.all) 1) (field_twice f.location f.name)) x.left)

    pub repeats_done : stop ≤ at → CheckRepeats s from stop e₀ st₀ e st
    unfolding each
    repeats_done p =
        record {
          checked = λ w. i.going w e st
              (checks_room (λ x. []) (λ x. repeated_among x.all x.left) checks_none
              (λ work o ix x h q. sym (ap (λ (l : List CompoundField). repeated_among x.all l) (none_left s stop x.left at h.rest p))));
        }

-- `struct_compound`
module _ (s : List ℕ) (at target from stop : ℕ) (o w e e' : List ℕ) (st st' : State) (bare : ℕ) (strip : TypePart w st.rows (target + 1) (desugar (unfolded w target)) bare)
    (k : ℕ) (ek : k ≡ kind_of (unfolded w bare)) where
  stripped : (work output ix : List ℕ) (x : Compounded) → CompoundTyped s o from stop target (lent work output e w ix st) x → st.full ≡ false → unfolded w bare ≡ desugar x.target
  stripped work output ix x y p = strip.type ∙ ap desugar (y.typing.shows p).type

  pub no_struct : (k ≡ 8 → ⊥) → (x : Error) → x ≡ error_for s at 28 target 0 0 → Reported e st x e' st' → StructCompound s at target from stop o w e st e' st'
  unfolding SpellsOperand is_type_operand operand_sort
  no_struct q x ex rep =
      checks_room (λ x. struct_compound_target (location_at s at) x.target ∷ []) (λ x. struct_errors x.ctx (location_at s at) x.target x.fields)
      (checks_unless (λ x. false) (λ x. struct_compound_target (location_at s at) x.target) (reported_always (subst (λ (z : Error). Reported e st z e' st') ex rep))
      (λ work output ix x y p. refl) (λ work output ix x y p. spells_at s at 28 (refl, y.typing.shows p) (refl, refl) (refl, refl)))
      (λ work output ix x y p.
      let z : eqb (kind_of (desugar x.target)) 8 ≡ false = ne_eqb (kind_of (desugar x.target)) 8 (λ u. q (ek ∙ ap kind_of (stripped work output ix x y p) ∙ u)) in
      rw z refl)

  -- Cited by nothing here now
  pub struct_kind_lem : k ≡ 8 → kind_of (unfolded w bare) ≡ struct_kind
  struct_kind_lem q = sym ek ∙ q

  pub struct_filled : k ≡ 8 → CheckFields s from stop bare o w e st e' st' → StructCompound s at target from stop o w e st e' st'
  struct_filled q c =
      checks_room (λ x. field_errors_against (first_of (unfolded w bare)) x.ctx x.fields) (λ x. struct_errors x.ctx (location_at s at) x.target x.fields)
      (checks_at (λ x. x) (λ x. field_errors_against (first_of (unfolded w bare)) x.ctx x.fields) c (λ work output ix x y. y.fields))
      (λ work output ix x y p.
      let t : unfolded w bare ≡ desugar x.target = stripped work output ix x y p in
      let z : eqb (kind_of (desugar x.target)) 8 ≡ true = eq-eqb (kind_of (desugar x.target)) 8 (sym (ap kind_of t) ∙ sym ek ∙ q) in
      rw z (ap (λ (u : Ty). field_errors_against (first_of u) x.ctx x.fields) t))
