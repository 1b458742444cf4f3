-- Calls, a law for each exit. Assumes nothing.
use Prim.Native.Nat.{ℕ}
use mathlib.Core.Path.{◌≡◌, refl, sym, ap, ◌∙◌, subst}
use mathlib.Core.Bool.{Bool, true, false}
use mathlib.Core.List.{List, [], ◌∷◌, ◌++◌}
use lib.Dec.{eqb}
use borrow.Author.Tests.{eq-eqb, ne_eqb}
use Rattle.types.specs.Ty.{Ty, kind_of, second_of, cell_count, function_kind}
use Rattle.types.specs.Table.{unfolded, Table}
use Rattle.types.specs.Post.{TypePart, CellPart}
use Rattle.relations.specs.TypeRows.{OneType}
use Rattle.trees.specs.Record.{location_at}
use Rattle.fallible.specs.declared.Error.{Error}
use Rattle.fallible.specs.Operands.{is_type_operand, operand_sort}
use Rattle.meaning.specs.TypeError.{unless, argument_count, not_callable}
use Rattle.meaning.specs.Expression.{part_of, argument_errors, call_errors}
use Rattle.walk.specs.declared.State.{State}
use Rattle.walk.specs.Represents.{Lent, lent, Grew, Shows, SpellsOperand}
use Rattle.walk.specs.Post.{Reported}
use Rattle.walk.proofs.Laws.{typing_later}
use Rattle.convert.specs.Post.{error_for}
use Rattle.expression_rules.specs.Rules.{ReportedUnless}
use Rattle.expression_rules.proofs.Laws.{spells_at, checks_unless, checks_room, checks_then, gives_checked, reported_always, unless_rows}
use Rattle.expression_rules.proofs.Found.{unknown_shown}
use Rattle.call_rules.specs.Lists.{SlotsFilled, TargetAndCells, BothShown, ListShown, CountsRecords, CheckArguments, Call}
use Rattle.call_rules.proofs.Chains.{shown_later, cells_counted}
use Rattle.call_rules.proofs.Turns.{checks_at}

pub both_later : {ty : ℕ} {s o : List ℕ} {from stop : ℕ} (C C' : Lent) (x : TargetAndCells) → Grew C C' → BothShown ty s o from stop C x → BothShown ty s o from stop C' x
both_later {s = s} {o = o} {from = from} {stop = stop} C C' x g y = record { typing = typing_later g y.typing; shown = shown_later s o stop C C' x.cells from g y.shown }

-- What was counted is the number of cells
pub counted : (s o : List ℕ) (from stop : ℕ) {w : List ℕ} {c : ℕ} → SlotsFilled w c s o from stop → (got : ℕ) → CountsRecords s from stop got → (C : Lent) (cells : Ty) → ListShown s o from stop C cells → got ≡ cell_count cells
counted s o from stop f got n C cells h = n.count f.listed.many f.listed.chain ∙ sym (cells_counted s o stop C cells f.listed.many from h f.listed.chain)

-- The same requirements after an error was reported or not
module _ (b : Bool) (x : Error) (e e₁ : List ℕ) (st st₁ : State) (rep : ReportedUnless b x e st e₁ st₁) (w : List ℕ) where
  pub filled_after : (s o : List ℕ) (from stop : ℕ) → SlotsFilled w st.rows s o from stop → SlotsFilled w st₁.rows s o from stop
  filled_after s o from stop = subst (λ (c : ℕ). SlotsFilled w c s o from stop) (sym (unless_rows rep))

  pub part_after : Table w st.rows → (n v : ℕ) (t : Ty) → TypePart w st.rows n t v → OneType w st₁.rows v
  part_after tb n v t p = subst (λ (c : ℕ). OneType w c v) (sym (unless_rows rep)) (record { table = tb; type = p.is })

-- `call_result`
module _ (s : List ℕ) (at ty from stop : ℕ) (o w e e' : List ℕ) (st st' : State) (one : OneType w st.rows ty) (k : ℕ) (ek : k ≡ kind_of (unfolded w ty)) where
  pub not_called : (k ≡ 9 → ⊥) → (x : Error) → x ≡ error_for s at 13 ty 0 0 → Reported e st x e' st' → Call s at ty from stop o w e st e' (record { ty = 1; state = st' })
  unfolding SpellsOperand is_type_operand operand_sort
  not_called q x ex rep =
      gives_checked (λ x. part_of function_kind x.type) (λ x. call_errors (location_at s at) x.type x.cells)
      (checks_room (λ x. not_callable (location_at s at) x.type ∷ []) (λ x. call_errors (location_at s at) x.type x.cells)
      (checks_unless (λ x. false) (λ x. not_callable (location_at s at) x.type) (reported_always (subst (λ (z : Error). Reported e st z e' st') ex rep))
      (λ work output ix x y p. refl) (λ work output ix x y p. spells_at s at 13 (refl, y.typing.shows p) (refl, refl) (refl, refl)))
      (λ work output ix x y p. let z : eqb (kind_of x.type) 9 ≡ false = other work output ix x y p in rw z refl))
      (unknown_shown w st.rows one.table).is
      (λ work output ix x y p. let z : eqb (kind_of x.type) 9 ≡ false = other work output ix x y p in rw z (unknown_shown w st.rows one.table))
    where
      other : (work output ix : List ℕ) (x : TargetAndCells) → BothShown ty s o from stop (lent work output e w ix st) x → st.full ≡ false → eqb (kind_of x.type) 9 ≡ false
      other work output ix x y p = ne_eqb (kind_of x.type) 9 (λ z. q (ek ∙ ap kind_of (y.typing.shows p).type ∙ z))

  pub called : k ≡ 9 → SlotsFilled w st.rows s o from stop → (cells : ℕ) → CellPart w st.rows ty 13 (second_of (unfolded w ty)) cells → (expected : ℕ) → expected ≡ cell_count (unfolded w cells)
      → (got : ℕ) → CountsRecords s from stop got → (e₁ : List ℕ) (st₁ : State) → ReportedUnless (eqb expected got) (error_for s at 11 expected got 0) e st e₁ st₁
      → CheckArguments s at from stop cells o w e₁ st₁ e' st' → (r : ℕ) → Shows w st.rows r (part_of function_kind (unfolded w ty)) → Call s at ty from stop o w e st e' (record { ty = r; state = st' })
  unfolding SpellsOperand is_type_operand operand_sort
  called q f cells part expected ee got n e₁ st₁ rep c r sh =
      gives_checked (λ x. part_of function_kind x.type) (λ x. call_errors (location_at s at) x.type x.cells)
      (checks_room
      (λ x. unless (eqb expected (cell_count x.cells)) (argument_count (location_at s at) expected (cell_count x.cells)) ++ argument_errors (location_at s at) 1 (unfolded w cells) x.cells)
      (λ x. call_errors (location_at s at) x.type x.cells)
      (checks_then (λ x. unless (eqb expected (cell_count x.cells)) (argument_count (location_at s at) expected (cell_count x.cells)))
      (λ x. argument_errors (location_at s at) 1 (unfolded w cells) x.cells)
      (checks_unless (λ x. eqb expected (cell_count x.cells)) (λ x. argument_count (location_at s at) expected (cell_count x.cells)) rep
      (λ work output ix x y p. ap (eqb expected) (counted s o from stop f got n (lent work output e w ix st) x.cells y.shown))
      (λ work output ix x y p. spells_at s at 11 (refl, refl) (refl, counted s o from stop f got n (lent work output e w ix st) x.cells y.shown) (refl, refl)))
      (checks_at (λ x. x.cells) (λ arguments. argument_errors (location_at s at) 1 (unfolded w cells) arguments) c (λ work output ix x y. y.shown))
      both_later)
      (λ work output ix x y p.
      let t : unfolded w ty ≡ x.type = (y.typing.shows p).type in
      let z : eqb (kind_of x.type) 9 ≡ true = eq-eqb (kind_of x.type) 9 (sym (ap kind_of t) ∙ sym ek ∙ q) in
      let parameters : unfolded w cells ≡ second_of x.type = part.type ∙ ap second_of t in
      let many : expected ≡ cell_count (second_of x.type) = ee ∙ ap cell_count parameters in
      rw (z, many, parameters) refl))
      sh.is
      (λ work output ix x y p. record { is = sh.is; type = sh.type ∙ ap (λ (t : Ty). part_of function_kind t) (y.typing.shows p).type })
