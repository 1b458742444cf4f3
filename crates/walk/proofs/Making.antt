-- `make`: a row is found, added, or finds no room. Assumes nothing.
use Prim.Native.Nat.{ℕ, ◌+◌, ◌*◌, ◌^◌, ◌≤◌, ◌<◌}
use mathlib.Core.Path.{◌≡◌, refl, sym, ap, ◌∙◌, subst}
use mathlib.Core.Bool.{Bool, true, false, cond, ◌||◌, or_comm}
use mathlib.Core.List.{List, [], ◌∷◌, ◌++◌, append-nil}
use mathlib.Core.Logic.{inl, inr, ⊎_elim}
use native.Mathlib.Omega.{arith}
use lib.ListN.{length}
use Rattle.types.specs.Ty.{Ty, member, parts}
use Rattle.types.specs.Table.{row_width, unfolded, has_type, Table, IsType, IsCell}
use Rattle.types.specs.Post.{type_of_row, PartsOk, Sort, Added, NoRoom, InternPost}
use Rattle.types.specs.declared.Row.{Row}
use Rattle.types.specs.declared.Row.TheVariants.{Pointer, Array, Struct, Function, Alias, DistinctAlias, Field, Argument}
use Rattle.types.specs.declared.Interned.{Interned}
use Rattle.std.specs.Prelude.{Some, None}
use Rattle.row_index.specs.Index.{with_rows}
use Rattle.row_index.proofs.Additions.{rows_none}
use Rattle.types.proofs.Grow.{extends_refl, extends_indexed}
use Rattle.types.proofs.Fixed.{fixed_is}
use Rattle.types.proofs.Count.{rows_exceeded}
use Rattle.types.proofs.Parts.{member_append, met_members}
use Rattle.meaning.specs.Context.{each}
use Rattle.walk.specs.declared.State.{State}
use Rattle.walk.specs.Effect.{Effect, ◌then◌, meeting, needed}
use Rattle.walk.specs.Represents.{lent, Good, TooMany, Represents, Does}
use Rattle.walk.specs.Post.{substitute_for, Made, Makes}
use Rattle.walk.proofs.Sets.{both, own_part}
use Rattle.walk.proofs.Laws.{good_later, needed_then, needed_within, too_many_then, meet_last, stored_later, told_later}

abbrev pub state : (errors rows : ℕ) → (full : Bool) → State
state errors rows full = record { errors = errors; rows = rows; full = full }

-- What stands for a row without room is of the row's sort
substitute_sort : (w : List ℕ) (c : ℕ) → Table w c → (row : Row) → Sort w c row (substitute_for row)
substitute_sort w c tb row = go row
  where
    unknown_is : IsType w c 1
    unknown_is = fixed_is w c tb 1 (omega arith) (omega arith)

    no_cells : (k : ℕ) → IsCell w c k 0
    no_cells k = record { high = omega arith; kind = inl refl }

    go : (row : Row) → Sort w c row (substitute_for row)
    go (Pointer t) = unknown_is
    go (Array t size) = unknown_is
    go (Struct fields) = unknown_is
    go (Function returned arguments) = unknown_is
    go (Alias t name) = unknown_is
    go (DistinctAlias t name) = unknown_is
    go (Field t rest name) = no_cells 12
    go (Argument t rest) = no_cells 13

at_most_one : (b : Bool) (c : ℕ) → cond b c (c + 1) ≤ c + 1
at_most_one true c = omega arith
at_most_one false c = omega arith

module _ (w : List ℕ) (b : List ℕ) (st : State) (row : Row) (tb : Table w st.rows) (ok : PartsOk w st.rows row) where
  abbrev type : Ty
  type = type_of_row row (unfolded w)

  -- The type and its parts are what the effect needs in addition
  type_added : (before : Effect) (u : Ty) → member u (parts type ++ needed before) ≡ member u (needed (before then meeting (type ∷ []) 1))
  unfolding each
  type_added before u =
      member_append u (parts type) (needed before)
      ∙ or_comm (member u (parts type)) (member u (needed before))
      ∙ sym (needed_then u before (meeting (type ∷ []) 1) ∙ ap (λ (l : List Ty). member u (needed before) || member u l) (append-nil (parts type)))

  type_needed : (before : Effect) → member type (needed (before then meeting (type ∷ []) 1)) ≡ true
  type_needed before =
      sym (type_added before type) ∙ member_append type (parts type) (needed before) ∙ ap (λ (b : Bool). b || member type (needed before)) (own_part row (unfolded w))

  module _ (w' : List ℕ) {b' : List ℕ} (n c : ℕ) (a : Added w st.rows type w' n c) (ix : b' ≡ with_rows b w' st.rows c) (sort : Sort w' c row n) (work o e : List ℕ) (g : Good (lent work o e w b st)) where
    row_does : Does (meeting (type ∷ []) 1) (lent work o e w b st) (lent work o e w' b' (state st.errors c st.full))
    unfolding needed
    row_does =
        record {
          does = λ o₀ e₀ before h. subst (Represents o₀ e₀ (lent work o e w' b' (state st.errors c st.full))) (meet_last before (type ∷ []) 1)
              (record {
                fits = λ p.
                    let f = h.fits p in
                    let more = at_most_one (has_type w st.rows type) st.rows in
                    record {
                      types = λ u. met_members w st.rows (needed before) f.types type w' n c a u ∙ type_added before u;
                      few = omega (arith, f.few, a.counted);
                      stored = stored_later w w' st.rows c a.extends f.stored;
                      told = told_later w w' st.rows c a.extends f.told;
                    };
                lacks = λ p. subst (λ (m : ℕ). TooMany m (before then meeting (type ∷ []) 1)) (sym a.extends.long) (too_many_then (length w) before (meeting (type ∷ []) 1) (h.lacks p));
              });
        }

    row_made : Made row (lent work o e w b st) (lent work o e w' b' (state st.errors c st.full)) n
    row_made =
        record {
          grew = record {
            good = good_later g a.table (extends_indexed w w' st.rows c a.extends g.indexed ix) a.extends;
            extends = a.extends;
            linked = ix;
            sticky = λ p. p;
          };
          sort = sort;
          type = λ p. a.type;
          does = row_does;
        }

  module _ (w' : List ℕ) {b' : List ℕ} (a : NoRoom w st.rows type w') (ix : b' ≡ with_rows b w' st.rows st.rows) (work o e : List ℕ) (g : Good (lent work o e w b st)) where
    lack : {o₀ e₀ : List ℕ} (before : Effect) (x : Bool) → st.full ≡ x → Represents o₀ e₀ (lent work o e w b st) before → TooMany (length w) (before then meeting (type ∷ []) 1)
    lack before true q h = too_many_then (length w) before (meeting (type ∷ []) 1) (h.lacks q)
    lack before false q h =
        let f = h.fits q in
        let after = needed (before then meeting (type ∷ []) 1) in
        let more = rows_exceeded w st.rows tb after (λ u k. needed_within before (meeting (type ∷ []) 1) u (sym (f.types u) ∙ k)) type a.absent (type_needed before) in
        ⊎_elim (λ (p : length w < row_width * (st.rows + 1)). inl (omega arith)) (λ (p : 2 ^ 32 ≤ st.rows + 1). inr (omega (arith, f.few))) a.full

    full_made : Made row (lent work o e w b st) (lent work o e w' b' (state st.errors st.rows true)) (substitute_for row)
    full_made =
        let same = ix ∙ rows_none b w' st.rows in
        subst (λ (x : List ℕ). Made row (lent work o e w b st) (lent work o e w' x (state st.errors st.rows true)) (substitute_for row)) (sym same)
        (subst (λ (x : List ℕ). Made row (lent work o e w b st) (lent work o e x b (state st.errors st.rows true)) (substitute_for row)) (sym a.kept)
        (record {
          grew = record {
            good = good_later g tb g.indexed (extends_refl w st.rows);
            extends = extends_refl w st.rows;
            linked = sym (rows_none b w st.rows);
            sticky = λ p. refl;
          };
          sort = substitute_sort w st.rows tb row;
          type = λ p. both refl p;
          does = record { does = λ o₀ e₀ before h. record { fits = λ p. both refl p; lacks = λ p. lack before st.full refl h } };
        }))

  pub make_at : (w' b' : List ℕ) (i : Interned) → InternPost w st.rows row w' (Some i) → b' ≡ with_rows b w' st.rows i.count
      → Makes row w b st w' b' (record { ty = i.number; state = state st.errors i.count st.full })
  make_at w' b' i a later =
      record { answer = Some i; interned = a; result = refl; linked = later; made = λ work o e g. row_made w' i.number i.count a.0 later a.1 work o e g }

  pub make_full : (w' b' : List ℕ) (n : ℕ) → InternPost w st.rows row w' None → b' ≡ with_rows b w' st.rows st.rows
      → n ≡ substitute_for row → Makes row w b st w' b' (record { ty = n; state = state st.errors st.rows true })
  make_full w' b' n a later s =
      subst (λ (x : ℕ). Makes row w b st w' b' (record { ty = x; state = state st.errors st.rows true })) (sym s)
      (record { answer = None; interned = a; result = refl; linked = later; made = λ work o e g. full_made w' a later work o e g })
