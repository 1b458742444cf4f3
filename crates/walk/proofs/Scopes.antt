-- The working words: what they hold, and what a name's word set does. Assumes nothing.
use Prim.Native.Nat.{ℕ, zero, suc, ◌≤◌, ◌<◌}
use mathlib.Core.Path.{◌≡◌, refl, sym, ap, ◌∙◌, subst}
use mathlib.Core.Bool.{Bool, true, false}
use mathlib.Core.List.{List}
use mathlib.Core.Option.{Option, none, some}
use native.Mathlib.Omega.{arith}
use lib.Dec.{eqb}
use lib.ListN.{length, get_or, set, length-set}
use lib.Seq.{get_or-set_same, get_or-set_other}
use borrow.Author.Tests.{eq-eqb, eqb-true, eqb-false}
use Rattle.types.specs.Ty.{Ty}
use Rattle.types.proofs.Grow.{extends_refl}
use Rattle.row_index.proofs.Additions.{rows_none}
use Rattle.meaning.specs.Context.{TypeMap, entry, insert, Context, context, blank}
use Rattle.meaning.specs.Statement.{with_local}
use Rattle.meaning.proofs.Maps.{insert_other}
use Rattle.walk.specs.declared.State.{State}
use Rattle.walk.specs.Effect.{nothing}
use Rattle.walk.specs.Words.{word_place, map_at}
use Rattle.walk.specs.Represents.{Lent, lent, WordOk, Good, Grew, Shows, Does, Typing, Holds, Scope, Represents}
use Rattle.walk.specs.Post.{Walked}
use Rattle.walk.proofs.Laws.{then_nothing, frame_none}

-- What is read

module _ (w : List ℕ) (c : ℕ) where
  pub holds_none : (v : ℕ) (x : Option Ty) → v < 1 → Holds w c v x → x ≡ none
  unfolding Holds
  holds_none v none l h = refl
  holds_none v (some t) l h = absurd (omega (arith, h.is.low))

  pub holds_some : (v : ℕ) (x : Option Ty) → 1 ≤ v → Holds w c v x → (t : Ty) × (x ≡ some t) × Shows w c v t
  unfolding Holds
  holds_some v none l h = absurd (omega arith)
  holds_some v (some t) l h = (t, refl, h)

-- What is set

module _ {work o e w b : List ℕ} {st : State} (name which v : ℕ) (l : word_place name which < length work) where
  pub good_set : Good (lent work o e w b st) → WordOk w st.rows v → Good (lent (set work (word_place name which) v) o e w b st)
  good_set g ok = record { table = g.table; indexed = g.indexed; words = λ i. word i (eqb i (word_place name which)) refl }
    where
      word : (i : ℕ) (b : Bool) → eqb i (word_place name which) ≡ b → WordOk w st.rows (get_or (set work (word_place name which) v) i 0)
      word i true q =
          let there : i ≡ word_place name which = eqb-true i (word_place name which) q in
          subst (WordOk w st.rows) (sym (ap (λ (j : ℕ). get_or (set work (word_place name which) v) j 0) there ∙ get_or-set_same work (word_place name which) v 0 l)) ok
      word i false q = subst (WordOk w st.rows) (sym (get_or-set_other work (word_place name which) i v 0 (eqb-false i (word_place name which) q))) (g.words i)

  pub grew_set : Good (lent work o e w b st) → WordOk w st.rows v → Grew (lent work o e w b st) (lent (set work (word_place name which) v) o e w b st)
  grew_set g ok = record { good = good_set g ok; extends = extends_refl w st.rows; linked = sym (rows_none b w st.rows); sticky = λ p. p }

  -- What a word holds after it was set to what the new context has there
  pub scope_set : (ctx ctx' : Context) → which < 4 → ((n k : ℕ) → ((n ≡ name) × (k ≡ which) → ⊥) → map_at ctx' k n ≡ map_at ctx k n)
      → (st.full ≡ false → Holds w st.rows v (map_at ctx' which name)) → Scope (lent work o e w b st) ctx → Scope (lent (set work (word_place name which) v) o e w b st) ctx'
  scope_set ctx ctx' lw same new s =
      record { holds = λ p n k lk h. at p n k lk (rw (length-set work (word_place name which) v) at h) (eqb (word_place n k) (word_place name which)) refl }
    where
      at : st.full ≡ false → (n k : ℕ) → k < 4 → word_place n k < length work → (b : Bool) → eqb (word_place n k) (word_place name which) ≡ b
          → Holds w st.rows (get_or (set work (word_place name which) v) (word_place n k) 0) (map_at ctx' k n)
      at p n k lk h true q =
          let there : word_place n k ≡ word_place name which = eqb-true (word_place n k) (word_place name which) q in
          let en : name ≡ n = omega arith in
          let ek : which ≡ k = omega arith in
          subst (λ (x : ℕ). Holds w st.rows x (map_at ctx' k n)) (sym (ap (λ (j : ℕ). get_or (set work (word_place name which) v) j 0) there ∙ get_or-set_same work (word_place name which) v 0 l))
          (subst (λ (j : ℕ). Holds w st.rows v (map_at ctx' j n)) ek (subst (λ (m : ℕ). Holds w st.rows v (map_at ctx' which m)) en (new p)))
      at p n k lk h false q =
          let away = eqb-false (word_place n k) (word_place name which) q in
          subst (λ (x : ℕ). Holds w st.rows x (map_at ctx' k n)) (sym (get_or-set_other work (word_place name which) (word_place n k) v 0 away))
          (subst (Holds w st.rows (get_or work (word_place n k) 0)) (sym (same n k (λ both. away (λ i. word_place (both.0 i) (both.1 i))))) (s.holds p n k lk h))

-- Setting a word is no effect
pub does_work : {work o e w b : List ℕ} {st : State} (work' : List ℕ) → Does nothing (lent work o e w b st) (lent work' o e w b st)
does_work {o = o} {e = e} {w = w} {b = b} {st = st} work' =
    record {
      does = λ o₀ e₀ before h. subst (Represents o₀ e₀ (lent work' o e w b st)) (sym (then_nothing before))
          (record { fits = λ p. let f = h.fits p in record { types = f.types; few = f.few; stored = f.stored; told = f.told }; lacks = h.lacks });
    }

pub walked_set : {X : Type 0} {G : X → Type 0} {from to : ℕ} {work o e w b : List ℕ} {st : State} (name which v : ℕ) → word_place name which < length work → Good (lent work o e w b st)
    → WordOk w st.rows v → Walked G (λ x. nothing) from to (lent work o e w b st) (lent (set work (word_place name which) v) o e w b st)
walked_set {work = work} name which v l g ok =
    record { grew = grew_set name which v l g ok; frame = frame_none; does = λ x h. does_work (set work (word_place name which) v) }

-- The contexts that have one entry more

abbrev pub with_global : (name : ℕ) → Ty → Context → Context
with_global name t ctx =
    context
    (record { built_ins = ctx.in_module.built_ins; type_aliases = ctx.in_module.type_aliases; globals = insert (entry name t) ctx.in_module.globals })
    ctx.in_function

abbrev pub with_alias : (name : ℕ) → Ty → Context → Context
with_alias name t ctx =
    context
    (record { built_ins = ctx.in_module.built_ins; type_aliases = insert (entry name t) ctx.in_module.type_aliases; globals = ctx.in_module.globals })
    ctx.in_function

abbrev pub with_argument : (name : ℕ) → Ty → Context → Context
with_argument name t ctx =
    context
    ctx.in_module
    (record { variables = ctx.in_function.variables; arguments = insert (entry name t) ctx.in_function.arguments; return_type = ctx.in_function.return_type })

insert_here : (name : ℕ) (t : Ty) (map : TypeMap) → insert (entry name t) map name ≡ some t
insert_here name t map = rw (eq-eqb name name refl)

module _ {work o e w b : List ℕ} {st : State} (name r : ℕ) (t : Ty) (ctx : Context) (s : Scope (lent work o e w b st) ctx) (ty : Typing (lent work o e w b st) r t) where
  holds_here : (map : TypeMap) → st.full ≡ false → Holds w st.rows r (insert (entry name t) map name)
  unfolding Holds
  holds_here map p = subst (Holds w st.rows r) (sym (insert_here name t map)) (ty.shows p)

  pub scope_global : word_place name 0 < length work → Scope (lent (set work (word_place name 0) r) o e w b st) (with_global name t ctx)
  scope_global l = scope_set name 0 r l ctx (with_global name t ctx) (omega arith) same (holds_here ctx.in_module.globals) s
    where
      same : (n k : ℕ) → ((n ≡ name) × (k ≡ 0) → ⊥) → map_at (with_global name t ctx) k n ≡ map_at ctx k n
      same n zero ne = insert_other (entry name t) ctx.in_module.globals n (λ q. ne (q, refl))
      same n (suc k) ne = refl

  pub scope_alias : word_place name 1 < length work → Scope (lent (set work (word_place name 1) r) o e w b st) (with_alias name t ctx)
  scope_alias l = scope_set name 1 r l ctx (with_alias name t ctx) (omega arith) same (holds_here ctx.in_module.type_aliases) s
    where
      same : (n k : ℕ) → ((n ≡ name) × (k ≡ 1) → ⊥) → map_at (with_alias name t ctx) k n ≡ map_at ctx k n
      same n zero ne = refl
      same n (suc zero) ne = insert_other (entry name t) ctx.in_module.type_aliases n (λ q. ne (q, refl))
      same n (suc (suc k)) ne = refl

  pub scope_local : word_place name 2 < length work → Scope (lent (set work (word_place name 2) r) o e w b st) (with_local (entry name t) ctx)
  scope_local l = scope_set name 2 r l ctx (with_local (entry name t) ctx) (omega arith) same (holds_here ctx.in_function.variables) s
    where
      same : (n k : ℕ) → ((n ≡ name) × (k ≡ 2) → ⊥) → map_at (with_local (entry name t) ctx) k n ≡ map_at ctx k n
      same n zero ne = refl
      same n (suc zero) ne = refl
      same n (suc (suc zero)) ne = insert_other (entry name t) ctx.in_function.variables n (λ q. ne (q, refl))
      same n (suc (suc (suc k))) ne = refl

  pub scope_argument : word_place name 3 < length work → Scope (lent (set work (word_place name 3) r) o e w b st) (with_argument name t ctx)
  scope_argument l = scope_set name 3 r l ctx (with_argument name t ctx) (omega arith) same (holds_here ctx.in_function.arguments) s
    where
      same : (n k : ℕ) → ((n ≡ name) × (k ≡ 3) → ⊥) → map_at (with_argument name t ctx) k n ≡ map_at ctx k n
      same n zero ne = refl
      same n (suc zero) ne = refl
      same n (suc (suc zero)) ne = refl
      same n (suc (suc (suc zero))) ne = insert_other (entry name t) ctx.in_function.arguments n (λ q. ne (q, refl))
      same n (suc (suc (suc (suc k)))) ne = refl

-- What the words hold matters only if there was room
pub scope_if_room : {C : Lent} {ctx : Context} → (C.state.full ≡ false → Scope C ctx) → Scope C ctx
scope_if_room f = record { holds = λ p. (f p).holds p }

-- A context of the same maps
pub scope_same : {C : Lent} (ctx ctx' : Context) → ((n k : ℕ) → map_at ctx' k n ≡ map_at ctx k n) → Scope C ctx → Scope C ctx'
scope_same {C} ctx ctx' same s =
    record { holds = λ p n k lk h. subst (Holds C.rows C.state.rows (get_or C.work (word_place n k) 0)) (sym (same n k)) (s.holds p n k lk h) }

-- The words of locals and arguments are cleared: outside of functions
pub scope_blank : {work o e w b : List ℕ} {st : State} {ctx : Context} (work' : List ℕ) → length work' ≡ length work
    → ((n k : ℕ) → k < 2 → get_or work' (word_place n k) 0 ≡ get_or work (word_place n k) 0) → ((n k : ℕ) → 2 ≤ k → k < 4 → get_or work' (word_place n k) 0 ≡ 0)
    → Scope (lent work o e w b st) ctx → Scope (lent work' o e w b st) (context ctx.in_module blank)
unfolding Holds
scope_blank {work} {w = w} {st = st} {ctx = ctx} work' long kept zeros s = record { holds = at }
  where
    at : st.full ≡ false → (n k : ℕ) → k < 4 → word_place n k < length work' → Holds w st.rows (get_or work' (word_place n k) 0) (map_at (context ctx.in_module blank) k n)
    at p n zero lk h = subst (λ (v : ℕ). Holds w st.rows v (ctx.in_module.globals n)) (sym (kept n 0 (omega arith))) (s.holds p n 0 lk (rw long at h))
    at p n (suc zero) lk h = subst (λ (v : ℕ). Holds w st.rows v (ctx.in_module.type_aliases n)) (sym (kept n 1 (omega arith))) (s.holds p n 1 lk (rw long at h))
    at p n (suc (suc zero)) lk h = zeros n 2 (omega arith) lk
    at p n (suc (suc (suc zero))) lk h = zeros n 3 (omega arith) lk
    at p n (suc (suc (suc (suc k)))) lk h = absurd (omega arith)
