-- The loop over arguments: whatever checks the rest checks the whole. Assumes nothing.
use Prim.Native.Nat.{ℕ, ◌+◌, ◌^◌, ◌≤◌, ◌<◌}
use mathlib.Core.Path.{◌≡◌, refl, sym, ap, ◌∙◌, subst}
use mathlib.Core.Bool.{Bool, true}
use mathlib.Core.List.{List, [], ◌++◌}
use native.Mathlib.Omega.{arith}
use lib.ListN.{length}
use Rattle.types.specs.Ty.{Ty, end, node, is, kind_of, first_of, second_of, argument_kind}
use Rattle.types.specs.Table.{unfolded, Table, IsType, IsCell}
use Rattle.types.specs.Post.{TypePart, CellPart, HasTypePart}
use Rattle.types.proofs.Laws.{unfolded_zero}
use Rattle.types.proofs.Query.{cell_kind}
use Rattle.relations.specs.TypeRows.{TwoTypes}
use Rattle.relations.specs.Relations.{types_are_assignable}
use Rattle.record_bytes.specs.Bytes.{Read, word_at}
use Rattle.layout.specs.Layout.{stop_at}
use Rattle.trees.specs.Record.{location_at}
use Rattle.trees.specs.Tree.{Location}
use Rattle.fallible.specs.Operands.{is_type_operand, operand_sort}
use Rattle.meaning.specs.TypeError.{TypeError, unless, invalid_argument}
use Rattle.meaning.specs.Expression.{argument_errors}
use Rattle.walk.specs.declared.State.{State}
use Rattle.walk.specs.Represents.{Lent, lent, SpellsOperand, Typing}
use Rattle.walk.proofs.Walks.{walked_none}
use Rattle.convert.specs.Post.{error_for}
use Rattle.expression_rules.specs.Rules.{Checks, ReportedUnless}
use Rattle.expression_rules.proofs.Laws.{spells_at, checks_unless, checks_room, checks_then, unless_rows}
use Rattle.call_rules.specs.Lists.{SlotsFilled, ListShown, CheckArguments}
use Rattle.call_rules.proofs.Chains.{first, first_filled, next_place, first_shown, none_shown, shown_later}

-- Checks, of what is known in other words

module _ {X : Type 0} {Given : Lent → X → Type 0} {w e e' : List ℕ} {st st' : State} where
  pub checks_at : {Y : Type 0} {Given' : Lent → Y → Type 0} (f : Y → X) (told : X → List TypeError) → Checks Given told w e st e' st'
      → ((work o ix : List ℕ) (y : Y) → Given' (lent work o e w ix st) y → Given (lent work o e w ix st) (f y)) → Checks Given' (λ y. told (f y)) w e st e' st'
  checks_at f told c g =
      record {
        kept = c.kept;
        walked = λ work o ix from to good.
            let step = c.walked work o ix from to good in
            record { grew = step.grew; frame = step.frame; does = λ y h. step.does (f y) (g work o ix y h) };
      }

pub checks_none : {X : Type 0} {Given : Lent → X → Type 0} {w e : List ℕ} {st : State} → Checks Given (λ x. []) w e st e st
checks_none = record { kept = refl; walked = λ work o ix from to g. walked_none g }

-- Arguments

pub record Arguments (s : List ℕ) (at from stop cells : ℕ) (o w e₀ : List ℕ) (st₀ : State) (place cell position : ℕ) (e : List ℕ) (st : State) : Type 0 where
  pub rows : st.rows ≡ st₀.rows
  pub filled : SlotsFilled w st₀.rows s o place stop
  pub is : IsCell w st₀.rows argument_kind cell
  pub low : position ≤ place + 1
  pub going : (e' : List ℕ) (st' : State) → Checks (ListShown s o place stop) (λ arguments. argument_errors (location_at s at) position (unfolded w cell) arguments) w e st e' st'
      → CheckArguments s at from stop cells o w e₀ st₀ e' st'

argument_turn : (l : Location) (i : ℕ) (p arguments : Ty) → kind_of p ≡ 13 → is argument_kind arguments ≡ true
    → unless (types_are_assignable (first_of p) (first_of arguments)) (invalid_argument l i (first_of p) (first_of arguments)) ++ argument_errors l (i + 1) (second_of p) (second_of arguments)
    ≡ argument_errors l i p arguments
unfolding argument_errors
argument_turn l i end arguments q h = absurd (omega (arith, q))
argument_turn l i (node k t rest z n) arguments q h = rw h refl

argument_none : (l : Location) (i : ℕ) (p : Ty) → argument_errors l i p end ≡ []
unfolding argument_errors
argument_none l i end = refl
argument_none l i (node k t rest z n) = refl

module _ (s : List ℕ) (at from stop cells : ℕ) (o w e₀ : List ℕ) (st₀ : State) (tb : Table w st₀.rows) where
  module _ (place cell position : ℕ) (e : List ℕ) (st : State) (i : Arguments s at from stop cells o w e₀ st₀ place cell position e st) where
    pub arguments_none : cell ≡ 0 → CheckArguments s at from stop cells o w e₀ st₀ e st
    unfolding argument_errors
    arguments_none z =
        i.going e st
        (checks_room (λ arguments. []) (λ arguments. argument_errors (location_at s at) position (unfolded w cell) arguments) checks_none
        (λ work output ix arguments h q. sym (ap (λ (t : Ty). argument_errors (location_at s at) position t arguments) (ap (unfolded w) z ∙ unfolded_zero w))))

    pub arguments_done : stop ≤ place → CheckArguments s at from stop cells o w e₀ st₀ e st
    arguments_done p =
        i.going e st
        (checks_room (λ arguments. []) (λ arguments. argument_errors (location_at s at) position (unfolded w cell) arguments) checks_none
        (λ work output ix arguments h q.
        sym (ap (λ (t : Ty). argument_errors (location_at s at) position (unfolded w cell) t) (none_shown s o stop (lent work output e w ix st) arguments place h p)
        ∙ argument_none (location_at s at) position (unfolded w cell))))

    -- Cited by nothing here now
    pub position_small : place < stop → position + 1 < 2 ^ 32
    position_small p = omega (arith, i.low, i.filled.listed.long, i.filled.listed.few)

    pub argument_inside : place < stop → place + 16 + 4 ≤ length o
    argument_inside p = let f = first s place stop i.filled.listed p in omega (arith, f.slot, f.ends, i.filled.room)

    module _ (n : cell ≡ 0 → ⊥) where
      pub cell_low : 1 ≤ cell
      cell_low = omega (arith, n)

      pub cell_high : cell ≤ st₀.rows
      cell_high = i.is.high

      pub parameter_kind : kind_of (unfolded w cell) ≡ 13
      parameter_kind = cell_kind w st₀.rows tb cell 13 i.is cell_low

      pub cell_part : HasTypePart (unfolded w cell)
      cell_part = let k = parameter_kind in (omega (arith, k), λ z. absurd (omega (arith, k, z)))

      pub cell_rest : 12 ≤ kind_of (unfolded w cell)
      cell_rest = let k = parameter_kind in omega (arith, k)

      module _ (p : place < stop) (ty : ℕ) (part : TypePart w st₀.rows cell (first_of (unfolded w cell)) ty) (got : ℕ) (eg : Read (word_at o (place + 16)) 32 got) where
        pub argument_types : TwoTypes w st₀.rows ty got
        argument_types =
            record { table = tb; first = part.is; second = subst (IsType w st₀.rows) (sym eg.is) (first_filled w st₀.rows s o place stop i.filled p).is }

        pub arguments_on : (b : Bool) → b ≡ types_are_assignable (unfolded w ty) (unfolded w got) → (e₁ : List ℕ) (st₁ : State) → ReportedUnless b (error_for s at 12 position ty got) e st e₁ st₁
            → (cell' : ℕ) → CellPart w st₀.rows cell (kind_of (unfolded w cell)) (second_of (unfolded w cell)) cell' → (len : ℕ) → Read (word_at s place) 32 len
            → Arguments s at from stop cells o w e₀ st₀ (place + len) cell' (position + 1) e₁ st₁
        unfolding SpellsOperand is_type_operand operand_sort
        arguments_on b eb e₁ st₁ rep cell' rest len el =
            subst (λ (x : ℕ). Arguments s at from stop cells o w e₀ st₀ x cell' (position + 1) e₁ st₁) (next_place s place stop i.filled.listed p len el)
            (record {
              rows = unless_rows rep ∙ i.rows;
              filled = (first_filled w st₀.rows s o place stop i.filled p).next;
              is = subst (λ (k : ℕ). IsCell w st₀.rows k cell') parameter_kind rest.is;
              low = let f = first s place stop i.filled.listed p in omega (arith, i.low, f.slot);
              going = λ e' st' later. i.going e' st' (turn e' st' later);
            })
          where
            shown : (work output ix : List ℕ) (arguments : Ty) → ListShown s o place stop (lent work output e w ix st) arguments → Typing (lent work output e w ix st) got (first_of arguments)
            shown work output ix arguments h =
                subst (λ (v : ℕ). Typing (lent work output e w ix st) v (first_of arguments)) (sym eg.is) (first_shown s o stop (lent work output e w ix st) arguments place h p).typing

            turn : (e' : List ℕ) (st' : State)
                → Checks (ListShown s o (stop_at s place) stop) (λ arguments. argument_errors (location_at s at) (position + 1) (unfolded w cell') arguments) w e₁ st₁ e' st'
                → Checks (ListShown s o place stop) (λ arguments. argument_errors (location_at s at) position (unfolded w cell) arguments) w e st e' st'
            turn e' st' later =
                checks_room
                (λ arguments.
                unless (types_are_assignable (first_of (unfolded w cell)) (first_of arguments)) (invalid_argument (location_at s at) position (first_of (unfolded w cell)) (first_of arguments))
                ++ argument_errors (location_at s at) (position + 1) (unfolded w cell') (second_of arguments))
                (λ arguments. argument_errors (location_at s at) position (unfolded w cell) arguments)
                (checks_then
                (λ arguments.
                unless (types_are_assignable (first_of (unfolded w cell)) (first_of arguments)) (invalid_argument (location_at s at) position (first_of (unfolded w cell)) (first_of arguments)))
                (λ arguments. argument_errors (location_at s at) (position + 1) (unfolded w cell') (second_of arguments))
                (checks_unless (λ arguments. types_are_assignable (first_of (unfolded w cell)) (first_of arguments))
                (λ arguments. invalid_argument (location_at s at) position (first_of (unfolded w cell)) (first_of arguments)) rep
                (λ work output ix arguments h q.
                eb ∙ ap (λ (u : Ty). types_are_assignable u (unfolded w got)) part.type
                ∙ ap (λ (u : Ty). types_are_assignable (first_of (unfolded w cell)) u) ((shown work output ix arguments h).shows q).type)
                (λ work output ix arguments h q.
                spells_at s at 12 (refl, refl)
                (refl, record { is = subst (λ (c : ℕ). IsType w c ty) (sym i.rows) part.is; type = part.type })
                (refl, (shown work output ix arguments h).shows q)))
                (checks_at second_of (λ arguments. argument_errors (location_at s at) (position + 1) (unfolded w cell') arguments) later
                (λ work output ix arguments h. (first_shown s o stop (lent work output e₁ w ix st₁) arguments place h p).rest))
                (λ C C' arguments g h. shown_later s o stop C C' arguments place g h))
                (λ work output ix arguments h q.
                ap (λ (t : Ty).
                unless (types_are_assignable (first_of (unfolded w cell)) (first_of arguments)) (invalid_argument (location_at s at) position (first_of (unfolded w cell)) (first_of arguments))
                ++ argument_errors (location_at s at) (position + 1) t (second_of arguments)) rest.type
                ∙ argument_turn (location_at s at) position (unfolded w cell) arguments parameter_kind (first_shown s o stop (lent work output e w ix st) arguments place h p).kind)
