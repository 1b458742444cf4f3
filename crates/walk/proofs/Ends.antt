-- The beginning and the end of a check: what the lent words say of the whole effect. Assumes nothing.
use Prim.Native.Nat.{ℕ, zero, suc, ◌+◌, ◌*◌, ◌^◌, ◌≤◌, ◌<◌, min}
use mathlib.Core.Path.{◌≡◌, refl, sym, ap, ◌∙◌, subst}
use mathlib.Core.Bool.{Bool, true, false}
use mathlib.Core.List.{List, [], ◌∷◌, map}
use mathlib.Core.List.Permᴰ
use mathlib.Core.Logic.{inl, ⊎_elim}
use native.Mathlib.Omega.{arith}
use lib.Dec.{ltb}
use lib.ListN.{length, get_or}
use borrow.Author.Tests.{lt-ltb, le-ltb, ltb-true, ltb-false}
use Rattle.types.specs.Ty.{distinct_count}
use Rattle.types.specs.Table.{row_width, Table, IsType}
use Rattle.types.specs.Post.{FixedStored}
use Rattle.types.proofs.Count.{row_count}
use Rattle.fallible.specs.declared.Error.{Error}
use Rattle.fallible.specs.Errors.{error_width, error_at, ErrorList, error_list, room, push_all, HoldsErrors}
use Rattle.fallible.specs.Operands.{is_type_operand}
use Rattle.fallible.proofs.Laws.{all_counted, all_listed, push_all_error}
use Rattle.row_index.specs.Index.{Indexed}
use Rattle.meaning.specs.TypeError.{TypeError, Operand, plain, row}
use Rattle.meaning.specs.Context.{each}
use Rattle.meaning.specs.Promise.{operand_of, unfold_error, error_list_of, OperandsExist}
use Rattle.walk.specs.Effect.{Effect, nothing, needed}
use Rattle.walk.specs.Represents.{Lent, lent, Good, Written, SpellsOperand, Spells, SpellsAll, Told, Represents}
use Rattle.walk.proofs.Sets.{both}
use Rattle.walk.proofs.Making.{state}

-- The fixed rows alone stand for nothing done
module _ {w w' b' : List ℕ} (f : FixedStored w w') where
  pub begin_good : (work o e : List ℕ) → Indexed w' 7 b' → ((i : ℕ) → get_or work i 0 ≡ 0) → Good (lent work o e w' b' (state 0 7 false))
  begin_good work o e ix zeros = record { table = f.table; indexed = ix; words = λ i. record { either = inl (zeros i) } }

  pub begin : (work o e : List ℕ) → Represents o e (lent work o e w' b' (state 0 7 false)) nothing
  unfolding needed each Written SpellsAll push_all
  begin work o e =
      record {
        fits = λ p.
            record {
              types = f.types;
              few = omega arith;
              stored = record { order = []; same = Permᴰ.nil; written = refl };
              told = record { told = []; spells = tt; pushed = refl };
            };
        lacks = λ p. both p refl;
      }

-- The rows

module _ {o e : List ℕ} {C : Lent} (effect : Effect) (tb : Table C.rows C.state.rows) (h : Represents o e C effect) where
  pub end_rows : C.state.full ≡ false → C.state.rows ≡ distinct_count (needed effect)
  end_rows p = row_count C.rows C.state.rows (needed effect) (h.fits p).types tb

  -- Refusal 6: a row found no room exactly if there are more rows needed than whole rows lent
  pub end_full : effect.steps + 8 < 2 ^ 32 → ltb (length C.rows) (row_width * distinct_count (needed effect)) ≡ C.state.full
  end_full few = go C.state.full refl
    where
      go : (b : Bool) → C.state.full ≡ b → ltb (length C.rows) (row_width * distinct_count (needed effect)) ≡ b
      go false p = le-ltb (length C.rows) (row_width * distinct_count (needed effect)) (omega (arith, end_rows p, tb.room))
      go true p =
          lt-ltb (length C.rows) (row_width * distinct_count (needed effect))
          (⊎_elim (λ (q : length C.rows < row_width * distinct_count (needed effect)). q) (λ (q : 2 ^ 32 ≤ 7 + effect.steps + 1). absurd (omega arith)) (h.lacks p))

-- The errors

module _ (w : List ℕ) (c : ℕ) where
  read_operand : (k p : ℕ) (x : Operand) (v : ℕ) → SpellsOperand w c k p x v → operand_of w k p v ≡ x
  unfolding SpellsOperand
  read_operand k p (plain n) v s = rw s.0 (ap plain s.1)
  read_operand k p (row t) v s = rw s.0 (ap row s.1.type)

  operand_is : (k p : ℕ) (x : Operand) (v : ℕ) → SpellsOperand w c k p x v → is_type_operand k p ≡ true → IsType w c v
  unfolding SpellsOperand
  operand_is k p (plain n) v s q = both q s.0
  operand_is k p (row t) v s q = s.1.is

  read_error : (d : TypeError) (x : Error) → Spells w c d x → unfold_error w x ≡ d
  read_error d x s =
      let k = s.kind in
      let a = ap (λ (j : ℕ). operand_of w j 0 x.first) k ∙ read_operand d.kind 0 d.first x.first s.first in
      let b = ap (λ (j : ℕ). operand_of w j 1 x.second) k ∙ read_operand d.kind 1 d.second x.second s.second in
      let z = ap (λ (j : ℕ). operand_of w j 2 x.third) k ∙ read_operand d.kind 2 d.third x.third s.third in
      λ i. record { kind = k i; file = s.file i; line = s.line i; column = s.column i; first = a i; second = b i; third = z i; place = s.place i }

  read_all : (ds : List TypeError) (xs : List Error) → SpellsAll w c ds xs → map (unfold_error w) xs ≡ ds
  unfolding SpellsAll
  read_all [] [] s = refl
  read_all [] (x ∷ xs) s = absurd s
  read_all (d ∷ ds) [] s = absurd s
  read_all (d ∷ ds) (x ∷ xs) s = let p = read_error d x s.0 in let q = read_all ds xs s.1 in λ i. p i ∷ q i

  same_many : (ds : List TypeError) (xs : List Error) → SpellsAll w c ds xs → length xs ≡ length ds
  unfolding SpellsAll
  same_many [] [] s = refl
  same_many [] (x ∷ xs) s = absurd s
  same_many (d ∷ ds) [] s = absurd s
  same_many (d ∷ ds) (x ∷ xs) s = ap suc (same_many ds xs s.1)

  exist : (d : TypeError) (x : Error) → Spells w c d x → OperandsExist w c x
  exist d x s =
      let k = s.kind in
      record {
        first = λ q. operand_is d.kind 0 d.first x.first s.first (ap (λ (j : ℕ). is_type_operand j 0) (sym k) ∙ q);
        second = λ q. operand_is d.kind 1 d.second x.second s.second (ap (λ (j : ℕ). is_type_operand j 1) (sym k) ∙ q);
        third = λ q. operand_is d.kind 2 d.third x.third s.third (ap (λ (j : ℕ). is_type_operand j 2) (sym k) ∙ q);
      }

  all_exist : (ds : List TypeError) (xs : List Error) → SpellsAll w c ds xs → (i : ℕ) (z : Error) → i < length xs → OperandsExist w c (get_or xs i z)
  unfolding SpellsAll
  all_exist [] [] s i z l = absurd (omega arith)
  all_exist [] (x ∷ xs) s i z l = absurd s
  all_exist (d ∷ ds) [] s i z l = absurd s
  all_exist (d ∷ ds) (x ∷ xs) s zero z l = exist d x s.0
  all_exist (d ∷ ds) (x ∷ xs) s (suc i) z l = all_exist ds xs s.1 i z (omega arith)

module _ {w : List ℕ} {c : ℕ} {ds : List TypeError} {words words' : List ℕ} {n : ℕ} (h : Told w c ds (error_list words 0) (error_list words' n)) where
  many : length h.told ≡ length ds
  many = same_many w c ds h.told h.spells

  pub end_count : n ≡ min (length ds) (room words + 1)
  end_count = ap (λ (l : ErrorList). l.count) h.pushed ∙ all_counted h.told words ∙ ap (λ (m : ℕ). min m (room words + 1)) many

  -- Refusal 7: the count is past the room exactly if there are more errors than whole records lent
  pub end_crowded : ltb (length words) (error_width * length ds) ≡ ltb (room words) n
  end_crowded = go (ltb (room words) (length ds)) refl
    where
      go : (b : Bool) → ltb (room words) (length ds) ≡ b → ltb (length words) (error_width * length ds) ≡ ltb (room words) n
      go true q =
          let p : room words < length ds = ltb-true (room words) (length ds) q in
          lt-ltb (length words) (error_width * length ds) (omega arith) ∙ sym (lt-ltb (room words) n (omega (arith, end_count)))
      go false q =
          let p : length ds ≤ room words = ltb-false (room words) (length ds) q in
          le-ltb (length words) (error_width * length ds) (omega arith) ∙ sym (le-ltb (room words) n (omega (arith, end_count)))

  -- Where they fit, they are read back
  module _ (fits : length ds ≤ room words) where
    listed : HoldsErrors words h.told (error_list words' n)
    listed = subst (HoldsErrors words h.told) (sym h.pushed) (all_listed h.told words (omega (arith, many)))

    pub end_errors : n ≡ length ds
    end_errors = listed.count ∙ many

    pub end_listed : error_list_of w words' n ≡ ds
    end_listed =
        ap (λ (m : ℕ). error_list_of w words' m) listed.count ∙ ap (map (unfold_error w)) listed.listed ∙ read_all w c ds h.told h.spells

    pub end_operands : (i : ℕ) → i < n → OperandsExist w c (error_at words' i)
    end_operands i l =
        let m : i < length h.told = omega (arith, listed.count) in
        let z : i ≡ 0 + i = omega arith in
        let here : error_at words' i ≡ get_or h.told i (error_at words' i) =
        ap (λ (x : ErrorList). error_at x.words i) h.pushed ∙ ap (error_at (push_all (error_list words 0) h.told).words) z ∙ push_all_error h.told words 0 i (error_at words' i) (omega (arith, many)) m in
        subst (OperandsExist w c) (sym here) (all_exist w c ds h.told h.spells i (error_at words' i) m)

    pub end_past : (i : ℕ) → error_width * n ≤ i → get_or words' i 0 ≡ get_or words i 0
    end_past i l = listed.past i (omega (arith, listed.count))
