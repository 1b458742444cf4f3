-- Array compounds: the loop over elements, where whatever checks the rest checks the whole, and a law for each exit. Assumes nothing.
use Prim.Native.Nat.{ℕ, ◌+◌, ◌≤◌, ◌<◌}
use mathlib.Core.Path.{◌≡◌, refl, sym, ap, ◌∙◌, subst}
use mathlib.Core.Bool.{true, false, true≢false}
use mathlib.Core.List.{List, [], ◌∷◌, ◌++◌}
use native.Mathlib.Omega.{arith}
use lib.Dec.{eqb}
use lib.ListN.{length}
use borrow.Author.Tests.{eq-eqb, ne_eqb}
use Rattle.types.specs.Ty.{Ty, end, node, is, kind_of, first_of, second_of, size_of, cell_count, desugar, argument_kind}
use Rattle.types.specs.Table.{unfolded, IsType}
use Rattle.types.specs.Post.{TypePart}
use Rattle.relations.specs.TypeRows.{OneType, TwoTypes}
use Rattle.record_bytes.specs.Bytes.{Read, word_at}
use Rattle.layout.specs.Layout.{stop_at}
use Rattle.trees.specs.Record.{location_at}
use Rattle.trees.specs.Tree.{Location}
use Rattle.fallible.specs.declared.Error.{Error}
use Rattle.fallible.specs.Operands.{is_type_operand, operand_sort}
use Rattle.meaning.specs.TypeError.{unless, compound_length, array_compound_target}
use Rattle.meaning.specs.Expression.{check_assignable}
use Rattle.meaning.specs.Compound.{element_errors, array_errors}
use Rattle.walk.specs.declared.State.{State}
use Rattle.walk.specs.Represents.{lent, SpellsOperand, Typing}
use Rattle.walk.specs.Post.{Reported}
use Rattle.convert.specs.Post.{error_for}
use Rattle.expression_rules.specs.Rules.{ReportedUnless, CheckAssignable, Checks, Two}
use Rattle.expression_rules.proofs.Laws.{spells_at, checks_unless, checks_room, checks_then, reported_always}
use Rattle.expression_rules.proofs.Effects.{assignable_checks}
use Rattle.call_rules.specs.Lists.{SlotsFilled, TargetAndCells, BothShown, CountsRecords}
use Rattle.call_rules.proofs.Chains.{first, first_filled, next_place, first_shown, none_shown, shown_later}
use Rattle.call_rules.proofs.Turns.{checks_at, checks_none}
use Rattle.call_rules.proofs.Exits.{both_later, counted}
use Rattle.compound_rules.specs.Elements.{CheckElements, ArrayCompound}

pub record Elements (s : List ℕ) (at from stop element : ℕ) (o w e₀ : List ℕ) (st₀ : State) (place : ℕ) (e : List ℕ) (st : State) : Type 0 where
  pub one : OneType w st.rows element
  pub filled : SlotsFilled w st.rows s o place stop
  pub going : (e' : List ℕ) (st' : State) → CheckElements s at place stop element o w e st e' st' → CheckElements s at from stop element o w e₀ st₀ e' st'

element_turn : (l : Location) (t cells : Ty) → is argument_kind cells ≡ true → check_assignable l t (first_of cells) ++ element_errors l t (second_of cells) ≡ element_errors l t cells
unfolding element_errors
element_turn l t end q = absurd (true≢false (sym q))
element_turn l t (node k a b z n) q = refl

module _ (s : List ℕ) (at from stop element : ℕ) (o w e₀ : List ℕ) (st₀ : State) where
  module _ (place : ℕ) (e : List ℕ) (st : State) (i : Elements s at from stop element o w e₀ st₀ place e st) where
    pub element_inside : place < stop → place + 16 + 4 ≤ length o
    element_inside p = let f = first s place stop i.filled.listed p in omega (arith, f.slot, f.ends, i.filled.room)

    pub element_types : place < stop → (got : ℕ) → Read (word_at o (place + 16)) 32 got → TwoTypes w st.rows element got
    element_types p got eg =
        record { table = i.one.table; first = i.one.type; second = subst (IsType w st.rows) (sym eg.is) (first_filled w st.rows s o place stop i.filled p).is }

    pub elements_on : place < stop → (got : ℕ) → Read (word_at o (place + 16)) 32 got → (e₁ : List ℕ) (st₁ : State) → CheckAssignable s at element got w e st e₁ st₁
        → (len : ℕ) → Read (word_at s place) 32 len → Elements s at from stop element o w e₀ st₀ (place + len) e₁ st₁
    elements_on p got eg e₁ st₁ told len el =
        subst (λ (x : ℕ). Elements s at from stop element o w e₀ st₀ x e₁ st₁) (next_place s place stop i.filled.listed p len el)
        (record {
          one = subst (λ (n : ℕ). OneType w n element) (sym c.kept) i.one;
          filled = subst (λ (n : ℕ). SlotsFilled w n s o (stop_at s place) stop) (sym c.kept) (first_filled w st.rows s o place stop i.filled p).next;
          going = λ e' st' later. i.going e' st' (turn e' st' later);
        })
      where
        c : Checks (Two element got) (λ t. check_assignable (location_at s at) t.left t.right) w e st e₁ st₁
        c = assignable_checks element got s at told

        turn : (e' : List ℕ) (st' : State) → CheckElements s at (stop_at s place) stop element o w e₁ st₁ e' st' → CheckElements s at place stop element o w e st e' st'
        turn e' st' later =
            checks_room (λ cells. check_assignable (location_at s at) (unfolded w element) (first_of cells) ++ element_errors (location_at s at) (unfolded w element) (second_of cells))
            (λ cells. element_errors (location_at s at) (unfolded w element) cells)
            (checks_then (λ cells. check_assignable (location_at s at) (unfolded w element) (first_of cells)) (λ cells. element_errors (location_at s at) (unfolded w element) (second_of cells))
            (checks_at (λ cells. record { left = unfolded w element; right = first_of cells }) (λ t. check_assignable (location_at s at) t.left t.right) c
            (λ work output ix cells h.
            record {
              left = record { shows = λ q. record { is = i.one.type; type = refl } };
              right = subst (λ (v : ℕ). Typing (lent work output e w ix st) v (first_of cells)) (sym eg.is) (first_shown s o stop (lent work output e w ix st) cells place h p).typing;
            }))
            (checks_at second_of (λ cells. element_errors (location_at s at) (unfolded w element) cells) later
            (λ work output ix cells h. (first_shown s o stop (lent work output e₁ w ix st₁) cells place h p).rest))
            (λ C C' cells g h. shown_later s o stop C C' cells place g h))
            (λ work output ix cells h q. element_turn (location_at s at) (unfolded w element) cells (first_shown s o stop (lent work output e w ix st) cells place h p).kind)

    pub elements_done : stop ≤ place → CheckElements s at from stop element o w e₀ st₀ e st
    unfolding element_errors
    elements_done p =
        i.going e st
        (checks_room (λ cells. []) (λ cells. element_errors (location_at s at) (unfolded w element) cells) checks_none
        (λ work output ix cells h q. sym (ap (λ (t : Ty). element_errors (location_at s at) (unfolded w element) t) (none_shown s o stop (lent work output e w ix st) cells place h p))))

-- `array_compound`
module _ (s : List ℕ) (at target from stop : ℕ) (o w e e' : List ℕ) (st st' : State) (bare : ℕ) (strip : TypePart w st.rows (target + 1) (desugar (unfolded w target)) bare)
    (k : ℕ) (ek : k ≡ kind_of (unfolded w bare)) where
  stripped : (work output ix : List ℕ) (x : TargetAndCells) → BothShown target s o from stop (lent work output e w ix st) x → st.full ≡ false → unfolded w bare ≡ desugar x.type
  stripped work output ix x y p = strip.type ∙ ap desugar (y.typing.shows p).type

  pub no_array : (k ≡ 7 → ⊥) → (x : Error) → x ≡ error_for s at 26 target 0 0 → Reported e st x e' st' → ArrayCompound s at target from stop o w e st e' st'
  unfolding SpellsOperand is_type_operand operand_sort
  no_array q x ex rep =
      checks_room (λ x. array_compound_target (location_at s at) x.type ∷ []) (λ x. array_errors (location_at s at) x.type x.cells)
      (checks_unless (λ x. false) (λ x. array_compound_target (location_at s at) x.type) (reported_always (subst (λ (z : Error). Reported e st z e' st') ex rep))
      (λ work output ix x y p. refl) (λ work output ix x y p. spells_at s at 26 (refl, y.typing.shows p) (refl, refl) (refl, refl)))
      (λ work output ix x y p.
      let z : eqb (kind_of (desugar x.type)) 7 ≡ false = ne_eqb (kind_of (desugar x.type)) 7 (λ u. q (ek ∙ ap kind_of (stripped work output ix x y p) ∙ u)) in
      rw z refl)

  pub array_filled : k ≡ 7 → SlotsFilled w st.rows s o from stop → (expected : ℕ) → expected ≡ size_of (unfolded w bare) → (got : ℕ) → CountsRecords s from stop got
      → (element : ℕ) → TypePart w st.rows bare (first_of (unfolded w bare)) element → (e₁ : List ℕ) (st₁ : State)
      → ReportedUnless (eqb expected got) (error_for s at 25 expected got 0) e st e₁ st₁ → CheckElements s at from stop element o w e₁ st₁ e' st' → ArrayCompound s at target from stop o w e st e' st'
  unfolding SpellsOperand is_type_operand operand_sort
  array_filled q f expected ee got n element part e₁ st₁ rep c =
      checks_room
      (λ x. unless (eqb expected (cell_count x.cells)) (compound_length (location_at s at) expected (cell_count x.cells)) ++ element_errors (location_at s at) (unfolded w element) x.cells)
      (λ x. array_errors (location_at s at) x.type x.cells)
      (checks_then (λ x. unless (eqb expected (cell_count x.cells)) (compound_length (location_at s at) expected (cell_count x.cells)))
      (λ x. element_errors (location_at s at) (unfolded w element) x.cells)
      (checks_unless (λ x. eqb expected (cell_count x.cells)) (λ x. compound_length (location_at s at) expected (cell_count x.cells)) rep
      (λ work output ix x y p. ap (eqb expected) (counted s o from stop f got n (lent work output e w ix st) x.cells y.shown))
      (λ work output ix x y p. spells_at s at 25 (refl, refl) (refl, counted s o from stop f got n (lent work output e w ix st) x.cells y.shown) (refl, refl)))
      (checks_at (λ x. x.cells) (λ cells. element_errors (location_at s at) (unfolded w element) cells) c (λ work output ix x y. y.shown))
      both_later)
      (λ work output ix x y p.
      let t : unfolded w bare ≡ desugar x.type = stripped work output ix x y p in
      let z : eqb (kind_of (desugar x.type)) 7 ≡ true = eq-eqb (kind_of (desugar x.type)) 7 (sym (ap kind_of t) ∙ sym ek ∙ q) in
      let many : expected ≡ size_of (desugar x.type) = ee ∙ ap size_of t in
      let each : unfolded w element ≡ first_of (desugar x.type) = part.type ∙ ap first_of t in
      rw (z, many, each) refl)
