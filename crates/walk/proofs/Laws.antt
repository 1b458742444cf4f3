-- What the steps do to what the lent words stand for. Assumes nothing.
use Prim.Native.Nat.{ℕ, ◌+◌, ◌*◌, ◌^◌, ◌≤◌, ◌<◌}
use mathlib.Core.Path.{◌≡◌, refl, sym, ap, ◌∙◌, subst}
use mathlib.Core.Bool.{Bool, true, false, ◌||◌}
use mathlib.Core.List.Permᴰ
use mathlib.Core.List.{List, [], ◌∷◌, ◌++◌, append-nil, append_assoc}
use mathlib.Core.Logic.{inl, inr, ⊎_elim}
use mathlib.Core.Option.{Option, none, some}
use native.Mathlib.Omega.{arith}
use lib.ListN.{length, get_or}
use lib.Seq.{length-sets}
use Rattle.types.specs.Ty.{Ty, member, distinct_count, parts, fixed_types}
use Rattle.types.specs.Table.{row_width, has_type, Table, Extends, IsType}
use Rattle.types.proofs.Grow.{extends_refl, extends_trans, extends_unfolded, extends_type, extends_cell, extends_linked}
use Rattle.types.proofs.Parts.{member_append}
use Rattle.row_index.specs.Index.{Indexed}
use Rattle.row_index.proofs.Additions.{rows_none}
use Rattle.fallible.specs.declared.Error.{Error}
use Rattle.fallible.specs.Errors.{ErrorList, error_list, pushed}
use Rattle.fallible.proofs.Laws.{push_all_last}
use Rattle.fallible.proofs.Stores.{get_d_sets_before, get_d_sets_after}
use Rattle.meaning.specs.TypeError.{TypeError, Operand, plain, row}
use Rattle.meaning.specs.Context.{Context, each}
use Rattle.walk.specs.declared.State.{State}
use Rattle.walk.specs.Effect.{Store, store, Effect, nothing, ◌then◌, storing, reporting, meeting, needed, Shown}
use Rattle.walk.specs.Words.{word_bytes, slot_place, slot_stored, word_place, map_at, slot_end}
use Rattle.walk.specs.Represents.{Lent, lent, WordOk, Good, Grew, Frame, Shows, ShowsCells, Written, Stored, SpellsOperand, Spells, SpellsAll, Told, TooMany, Represents, Does, Typing, TypingCells, Holds, Scope}
use Rattle.walk.specs.Post.{counted, Reported}
use Rattle.walk.proofs.Sets.{both, each_append, Within, count_within, count_same}

-- A table that has grown shows what it showed
module _ (w w' : List ℕ) (c c' : ℕ) (e : Extends w c w' c') where
  pub shows_later : {v : ℕ} {t : Ty} → Shows w c v t → Shows w' c' v t
  shows_later {v} h = record { is = extends_type w w' c c' e v h.is; type = extends_unfolded w w' c c' e v h.is.high ∙ h.type }

  pub cells_later : {k v : ℕ} {t : Ty} → ShowsCells w c k v t → ShowsCells w' c' k v t
  cells_later {k} {v} h = record { is = extends_cell w w' c c' e k v h.is; type = extends_unfolded w w' c c' e v h.is.high ∙ h.type }

  written_later : (stores : List Store) (o o' : List ℕ) → Written w c stores o o' → Written w' c' stores o o'
  unfolding Written
  written_later [] o o' h = h
  written_later (s ∷ stores) o o' h = (h.0, shows_later h.1, written_later stores (slot_stored o s.at h.0) o' h.2)

  pub stored_later : {stores : List Store} {o o' : List ℕ} → Stored w c stores o o' → Stored w' c' stores o o'
  stored_later {stores} {o} {o'} h = record { order = h.order; same = h.same; written = written_later h.order o o' h.written }

  operand_later : (k p : ℕ) (x : Operand) (v : ℕ) → SpellsOperand w c k p x v → SpellsOperand w' c' k p x v
  unfolding SpellsOperand
  operand_later k p (plain n) v h = h
  operand_later k p (row t) v h = (h.0, shows_later h.1)

  spells_later : (es : List TypeError) (xs : List Error) → SpellsAll w c es xs → SpellsAll w' c' es xs
  unfolding SpellsAll
  spells_later [] [] h = tt
  spells_later [] (x ∷ xs) h = h
  spells_later (e ∷ es) [] h = h
  spells_later (e ∷ es) (x ∷ xs) h = (
    record {
      kind = h.0.kind;
      file = h.0.file;
      line = h.0.line;
      column = h.0.column;
      first = operand_later e.kind 0 e.first x.first h.0.first;
      second = operand_later e.kind 1 e.second x.second h.0.second;
      third = operand_later e.kind 2 e.third x.third h.0.third;
      place = h.0.place;
    },
    spells_later es xs h.1,
  )

  pub told_later : {es : List TypeError} {a b : ErrorList} → Told w c es a b → Told w' c' es a b
  told_later {es} h = record { told = h.told; spells = spells_later es h.told h.spells; pushed = h.pushed }

  pub holds_later : (v : ℕ) (x : Option Ty) → Holds w c v x → Holds w' c' v x
  unfolding Holds
  holds_later v none h = h
  holds_later v (some t) h = shows_later h

  word_later : (v : ℕ) → WordOk w c v → WordOk w' c' v
  word_later v h = record { either = ⊎_elim (λ (z : v ≡ 0). inl z) (λ (z : IsType w c v). inr (extends_type w w' c c' e v z)) h.either }

-- One store more, one error more
module _ (w : List ℕ) (c : ℕ) where
  written_more : (stores : List Store) (o o' : List ℕ) (at v : ℕ) (t : Ty) → Shows w c v t → Written w c stores o o' → Written w c (stores ++ (store at t ∷ [])) o (slot_stored o' at v)
  unfolding Written
  written_more [] o o' at v t s h = (v, s, ap (λ (l : List ℕ). slot_stored l at v) h)
  written_more (x ∷ stores) o o' at v t s h = (h.0, h.1, written_more stores (slot_stored o x.at h.0) o' at v t s h.2)

  stored_more : {stores : List Store} {o o' : List ℕ} (at v : ℕ) (t : Ty) → Shows w c v t → Stored w c stores o o' → Stored w c (stores ++ (store at t ∷ [])) o (slot_stored o' at v)
  stored_more {stores} {o} {o'} at v t s h =
      record { order = h.order ++ (store at t ∷ []); same = Permᴰ.append_right (store at t ∷ []) h.same; written = written_more h.order o o' at v t s h.written }

  spells_more : (es : List TypeError) (xs : List Error) (e : TypeError) (x : Error) → Spells w c e x → SpellsAll w c es xs → SpellsAll w c (es ++ (e ∷ [])) (xs ++ (x ∷ []))
  unfolding SpellsAll
  spells_more [] [] e x s h = (s, tt)
  spells_more [] (y ∷ xs) e x s h = absurd h
  spells_more (d ∷ es) [] e x s h = absurd h
  spells_more (d ∷ es) (y ∷ xs) e x s h = (h.0, spells_more es xs e x s h.1)

  told_more : {es : List TypeError} {a b : ErrorList} (e : TypeError) (x : Error) → Spells w c e x → Told w c es a b → Told w c (es ++ (e ∷ [])) a (pushed b x)
  told_more {es} {a} {b} e x s h =
      record {
        told = h.told ++ (x ∷ []);
        spells = spells_more es h.told e x s h.spells;
        pushed = ap (λ (l : ErrorList). pushed l x) h.pushed ∙ sym (push_all_last h.told x a);
      }

-- Growth

pub good_later : {work : List ℕ} {o e w o' e' w' b b' : List ℕ} {st st' : State} → Good (lent work o e w b st) → Table w' st'.rows → Indexed w' st'.rows b' → Extends w st.rows w' st'.rows → Good (lent work o' e' w' b' st')
good_later {work} {w = w} {w' = w'} {st = st} {st' = st'} g tb ix e =
    record { table = tb; indexed = ix; words = λ i. word_later w w' st.rows st'.rows e (get_or work i 0) (g.words i) }

-- Where no row is made
pub grew_same : {work o e w b : List ℕ} {st : State} (o' e' : List ℕ) (n : ℕ) → Good (lent work o e w b st) → Grew (lent work o e w b st) (lent work o' e' w b (counted st n))
grew_same {work} {o} {e} {w} {b} {st} o' e' n g =
    let x = extends_refl w st.rows in
    record { good = good_later g g.table g.indexed x; extends = x; linked = sym (rows_none b w st.rows); sticky = λ p. p }

pub grew_then : {A B C : Lent} → Grew A B → Grew B C → Grew A C
grew_then {A} {B} {C} a b =
    record {
      good = b.good;
      extends = extends_trans A.rows B.rows C.rows A.state.rows B.state.rows C.state.rows a.extends b.extends;
      linked = extends_linked A.rows B.rows C.rows A.state.rows B.state.rows C.state.rows a.extends b.extends A.index a.linked b.linked;
      sticky = λ p. b.sticky (a.sticky p);
    }

-- With room at the end there was room before
pub had_room : {A B : Lent} → Grew A B → B.state.full ≡ false → A.state.full ≡ false
had_room {A} {B} g p = go A.state.full refl
  where
    go : (b : Bool) → A.state.full ≡ b → A.state.full ≡ false
    go true q = both (g.sticky q) p
    go false q = q

pub typing_later : {A B : Lent} {r : ℕ} {t : Ty} → Grew A B → Typing A r t → Typing B r t
typing_later {A} {B} g h = record { shows = λ p. shows_later A.rows B.rows A.state.rows B.state.rows g.extends (h.shows (had_room g p)) }

pub typing_cells_later : {A B : Lent} {k r : ℕ} {t : Ty} → Grew A B → TypingCells A k r t → TypingCells B k r t
typing_cells_later {A} {B} g h = record { shows = λ p. cells_later A.rows B.rows A.state.rows B.state.rows g.extends (h.shows (had_room g p)) }

-- Where no working word is changed
pub scope_later : {work o e w o' e' w' b b' : List ℕ} {st st' : State} {ctx : Context} → Grew (lent work o e w b st) (lent work o' e' w' b' st') → Scope (lent work o e w b st) ctx → Scope (lent work o' e' w' b' st') ctx
scope_later {work} {w = w} {w' = w'} {st = st} {st' = st'} {ctx = ctx} g s =
    record {
      holds = λ p name which l h. holds_later w w' st.rows st'.rows g.extends (get_or work (word_place name which) 0) (map_at ctx which name) (s.holds (had_room g p) name which l h);
    }

-- Frames

pub frame_none : {from to : ℕ} {o : List ℕ} → Frame from to o o
frame_none = record { long = refl; before = λ i h. refl; past = λ i h. refl }

pub frame_then : {from to : ℕ} {o o₁ o₂ : List ℕ} → Frame from to o o₁ → Frame from to o₁ o₂ → Frame from to o o₂
frame_then a b = record { long = b.long ∙ a.long; before = λ i h. b.before i h ∙ a.before i h; past = λ i h. b.past i h ∙ a.past i h }

pub frame_wider : {from to from' to' : ℕ} {o o₁ : List ℕ} → from' ≤ from → to ≤ to' → Frame from to o o₁ → Frame from' to' o o₁
frame_wider l m a = record { long = a.long; before = λ i h. a.before i (omega arith); past = λ i h. a.past i (omega arith) }

pub frame_slot : (from to at v : ℕ) (o : List ℕ) → from ≤ slot_place at → slot_end at ≤ to → Frame from to o (slot_stored o at v)
frame_slot from to at v o l m =
    record {
      long = length-sets o (slot_place at) (word_bytes v);
      before = λ i h. get_d_sets_before 0 (word_bytes v) o (slot_place at) i (omega arith);
      past = λ i h. get_d_sets_after 0 (word_bytes v) o (slot_place at) i (omega arith);
    }

-- Effects

pub then_assoc : (a b c : Effect) → a then b then c ≡ a then (b then c)
then_assoc a b c =
    let s = append_assoc a.stores b.stores c.stores in
    let e = append_assoc a.errors b.errors c.errors in
    let m = append_assoc a.met b.met c.met in
    let n : a.steps + b.steps + c.steps ≡ a.steps + (b.steps + c.steps) = omega arith in
    λ i. record { stores = s i; errors = e i; met = m i; steps = n i }

pub then_nothing : (a : Effect) → a then nothing ≡ a
then_nothing a =
    let s = append-nil a.stores in
    let e = append-nil a.errors in
    let m = append-nil a.met in
    let n : a.steps + 0 ≡ a.steps = omega arith in
    λ i. record { stores = s i; errors = e i; met = m i; steps = n i }

pub needed_then : (t : Ty) (a b : Effect) → member t (needed (a then b)) ≡ (member t (needed a) || member t (each parts b.met))
unfolding needed
needed_then t a b =
    ap (λ (l : List Ty). member t (fixed_types ++ l)) (each_append parts a.met b.met)
    ∙ ap (member t) (sym (append_assoc fixed_types (each parts a.met) (each parts b.met)))
    ∙ member_append t (fixed_types ++ each parts a.met) (each parts b.met)

pub needed_within : (a b : Effect) → Within (needed a) (needed (a then b))
needed_within a b t p = needed_then t a b ∙ ap (λ (x : Bool). x || member t (each parts b.met)) p

pub too_many_then : (n : ℕ) (a b : Effect) → TooMany n a → TooMany n (a then b)
too_many_then n a b h =
    let c = count_within (needed a) (needed (a then b)) (needed_within a b) in
    ⊎_elim (λ (p : n < row_width * distinct_count (needed a)). inl (omega arith)) (λ (p : 2 ^ 32 ≤ 7 + a.steps + 1). inr (omega arith)) h

shown_needed : (a b : Effect) → Shown a b → (t : Ty) → member t (needed a) ≡ member t (needed b)
unfolding needed
shown_needed a b s t =
    member_append t fixed_types (each parts a.met) ∙ ap (λ (x : Bool). member t fixed_types || x) (s.met t) ∙ sym (member_append t fixed_types (each parts b.met))

shown_after : (before a b : Effect) → Shown a b → Shown (before then a) (before then b)
shown_after before a b s =
    record {
      stores = Permᴰ.append_left before.stores s.stores;
      errors = ap (λ (l : List TypeError). before.errors ++ l) s.errors;
      met = λ t. met_then t a ∙ ap (λ (x : Bool). member t (each parts before.met) || x) (s.met t) ∙ sym (met_then t b);
      steps = omega (arith, s.steps);
    }
  where
    met_then : (t : Ty) (x : Effect) → member t (each parts (before.met ++ x.met)) ≡ (member t (each parts before.met) || member t (each parts x.met))
    met_then t x = ap (member t) (each_append parts before.met x.met) ∙ member_append t (each parts before.met) (each parts x.met)

represents_as : {o e : List ℕ} {C : Lent} (a b : Effect) → Shown a b → Represents o e C a → Represents o e C b
represents_as {o} {e} {C} a b s h =
    record {
      fits = λ p.
          let f = h.fits p in
          record {
            types = λ t. f.types t ∙ shown_needed a b s t;
            few = omega (arith, f.few, s.steps);
            stored = record { order = f.stored.order; same = Permᴰ.trans f.stored.same s.stores; written = f.stored.written };
            told = subst (λ (l : List TypeError). Told C.rows C.state.rows l (error_list e 0) (error_list C.errors C.state.errors)) s.errors f.told;
          };
      lacks = λ p.
          let c = count_same (needed a) (needed b) (shown_needed a b s) in
          ⊎_elim (λ (q : length C.rows < row_width * distinct_count (needed a)). inl (omega arith)) (λ (q : 2 ^ 32 ≤ 7 + a.steps + 1). inr (omega (arith, s.steps))) (h.lacks p);
    }

-- Doing

pub does_as : {a b : Effect} {C C' : Lent} → Shown a b → Does a C C' → Does b C C'
does_as {a} {b} s d = record { does = λ o e before h. represents_as (before then a) (before then b) (shown_after before a b s) (d.does o e before h) }

pub does_none : {C : Lent} → Does nothing C C
does_none {C} = record { does = λ o e before h. subst (Represents o e C) (sym (then_nothing before)) h }

pub does_then : {a b : Effect} {A B C : Lent} → Does a A B → Does b B C → Does (a then b) A C
does_then {a} {b} {C = C} p q =
    record { does = λ o e before h. subst (Represents o e C) (then_assoc before a b) (q.does o e (before then a) (p.does o e before h)) }

-- Past a lack of room nothing is to be shown
pub does_if_room : {a : Effect} {C C' : Lent} → Grew C C' → (C.state.full ≡ false → Does a C C') → Does a C C'
does_if_room {a} {C} {C'} g d = record { does = λ o e before h. go C.state.full refl o e before h }
  where
    go : (b : Bool) → C.state.full ≡ b → (o e : List ℕ) (before : Effect) → Represents o e C before → Represents o e C' (before then a)
    go false q o e before h = (d q).does o e before h
    go true q o e before h =
        record {
          fits = λ p. both (g.sticky q) p;
          lacks = λ p. subst (λ (n : ℕ). TooMany n (before then a)) (sym g.extends.long) (too_many_then (length C.rows) before a (h.lacks q));
        }

-- The steps, after whatever was done before
store_last : (a : Effect) (at : ℕ) (t : Ty) → record { stores = a.stores ++ (store at t ∷ []); errors = a.errors; met = a.met; steps = a.steps } ≡ a then storing at t
store_last a at t =
    let e = append-nil a.errors in
    let m = append-nil a.met in
    let n : a.steps + 0 ≡ a.steps = omega arith in
    λ i. record { stores = a.stores ++ (store at t ∷ []); errors = sym e i; met = sym m i; steps = sym n i }

pub report_last : (a : Effect) (errors : List TypeError) → record { stores = a.stores; errors = a.errors ++ errors; met = a.met; steps = a.steps } ≡ a then reporting errors
report_last a errors =
    let s = append-nil a.stores in
    let m = append-nil a.met in
    let n : a.steps + 0 ≡ a.steps = omega arith in
    λ i. record { stores = sym s i; errors = a.errors ++ errors; met = sym m i; steps = sym n i }

pub meet_last : (a : Effect) (types : List Ty) (n : ℕ) → record { stores = a.stores; errors = a.errors; met = a.met ++ types; steps = a.steps + n } ≡ a then meeting types n
meet_last a types n =
    let s = append-nil a.stores in
    let e = append-nil a.errors in
    λ i. record { stores = sym s i; errors = sym e i; met = a.met ++ types; steps = a.steps + n }

module _ {work o e w b : List ℕ} {st : State} where
  pub does_store : (at r : ℕ) (t : Ty) → Typing (lent work o e w b st) r t → Does (storing at t) (lent work o e w b st) (lent work (slot_stored o at r) e w b st)
  unfolding needed
  does_store at r t ty =
      record {
        does = λ o₀ e₀ before h. subst (Represents o₀ e₀ (lent work (slot_stored o at r) e w b st)) (store_last before at t)
            (record {
              fits = λ p.
                  let f = h.fits p in
                  record { types = f.types; few = f.few; stored = stored_more w st.rows at r t (ty.shows p) f.stored; told = f.told };
              lacks = h.lacks;
            });
      }

  pub does_report : (d : TypeError) (x : Error) (e' : List ℕ) (st' : State) → (st.full ≡ false → Spells w st.rows d x) → Reported e st x e' st'
      → Does (reporting (d ∷ [])) (lent work o e w b st) (lent work o e' w b st')
  unfolding needed
  does_report d x e' st' sp r =
      subst (λ (s : State). Does (reporting (d ∷ [])) (lent work o e w b st) (lent work o e' w b s)) (sym r.rest)
      (record {
        does = λ o₀ e₀ before h. subst (Represents o₀ e₀ (lent work o e' w b (counted st st'.errors))) (report_last before (d ∷ []))
            (record {
              fits = λ p.
                  let f = h.fits p in
                  let more = told_more w st.rows d x (sp p) f.told in
                  record {
                    types = f.types;
                    few = f.few;
                    stored = f.stored;
                    told = subst (Told w st.rows (before.errors ++ (d ∷ [])) (error_list e₀ 0)) (sym r.list) more;
                  };
              lacks = h.lacks;
            });
      })

  pub grew_report : {x : Error} {e' : List ℕ} {st' : State} → Good (lent work o e w b st) → Reported e st x e' st' → Grew (lent work o e w b st) (lent work o e' w b st')
  grew_report {x} {e'} {st'} g r = subst (λ (s : State). Grew (lent work o e w b st) (lent work o e' w b s)) (sym r.rest) (grew_same o e' st'.errors g)

  -- Types whose rows are there already are met
  pub does_known : (types : List Ty) → (st.full ≡ false → (t : Ty) → member t (each parts types) ≡ true → has_type w st.rows t ≡ true)
      → Does (meeting types 0) (lent work o e w b st) (lent work o e w b st)
  unfolding needed
  does_known types k =
      record {
        does = λ o₀ e₀ before h. subst (Represents o₀ e₀ (lent work o e w b st)) (meet_last before types 0)
            (record {
              fits = λ p.
                  let f = h.fits p in
                  record {
                    types = λ t. f.types t ∙ absorbed (needed before) t (λ q. sym (f.types t) ∙ k p t q) ∙ sym (needed_then t before (meeting types 0));
                    few = omega (arith, f.few);
                    stored = f.stored;
                    told = f.told;
                  };
              lacks = λ p. too_many_then (length w) before (meeting types 0) (h.lacks p);
            });
      }
    where
      absorbed : (a : List Ty) (t : Ty) → (member t (each parts types) ≡ true → member t a ≡ true) → member t a ≡ (member t a || member t (each parts types))
      absorbed a t q = go (member t a) (member t (each parts types)) q
        where
          go : (x y : Bool) → (y ≡ true → x ≡ true) → x ≡ (x || y)
          go true y q = refl
          go false true q = q refl
          go false false q = refl
