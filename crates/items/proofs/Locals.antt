-- The words of locals and arguments are cleared. Assumes nothing.
use Prim.Native.Nat.{ℕ, zero, suc, ◌+◌, ◌%◌, ◌≤◌, ◌<◌}
use mathlib.Core.Path.{◌≡◌, refl, sym, ap, ◌∙◌, subst}
use mathlib.Core.Bool.{Bool, true, false}
use mathlib.Core.List.{List, []}
use mathlib.Core.Logic.{◌⊎◌, inl, inr, ⊎_elim}
use mathlib.Core.Option.{Option, none}
use native.Mathlib.Omega.{arith}
use lib.Dec.{eqb, ltb}
use lib.ListN.{length, get_or, set, length-set, get_or-eq_default}
use lib.Seq.{get_or-set_same, get_or-set_other}
use borrow.Author.Tests.{eqb-true, eqb-false, ltb-true, ltb-false}
use Rattle.types.proofs.Grow.{extends_refl}
use Rattle.row_index.proofs.Additions.{rows_none}
use Rattle.trees.specs.Tree.{Statement}
use Rattle.trees.specs.Record.{statement_at, body_at}
use Rattle.meaning.specs.Context.{Context, context, blank}
use Rattle.walk.specs.declared.State.{State}
use Rattle.walk.specs.Effect.{nothing}
use Rattle.walk.specs.Words.{word_place, map_at}
use Rattle.walk.specs.Represents.{lent, WordOk, Good, Holds, Scope}
use Rattle.walk.specs.Post.{Walked}
use Rattle.walk.proofs.Laws.{frame_none}
use Rattle.walk.proofs.Scopes.{does_work, scope_blank}
use Rattle.meaning.specs.Statement.{declared_names}
use Rattle.clear_locals.specs.Cleared.{body_names, is_one_of, cleared_words}
use Rattle.clear_locals.proofs.Names.{either_then, cleared_wide, cleared_either, cleared_other, cleared_stays, cleared_zero}
use Rattle.items.specs.Post.{BodyLeft, Cleared, FunctionCleared}
use Rattle.items.proofs.Bodies.{no_body, there}

-- The words before `i` are done
pub record Clearing (work : List ℕ) (i : ℕ) (work' : List ℕ) : Type 0 where
  pub wide : length work' ≡ length work
  pub kept : (j : ℕ) → j % 4 < 2 → get_or work' j 0 ≡ get_or work j 0
  pub zeros : (j : ℕ) → j < i → 2 ≤ j % 4 → get_or work' j 0 ≡ 0

-- One by one. Cited by nothing here now
pub clearing_start : (work : List ℕ) → Clearing work 2 work
clearing_start work = record { wide = refl; kept = λ j h. refl; zeros = λ j h l. absurd (omega arith) }

module _ {work work₁ : List ℕ} {i : ℕ} (c : Clearing work i work₁) where
  -- The word of a local or an argument
  clearing_set : i < length work₁ → 2 ≤ i % 4 → {work' : List ℕ} → work' ≡ set work₁ i 0 → Clearing work (i + 1) work'
  clearing_set l h e =
      subst (Clearing work (i + 1)) (sym e)
      (record {
        wide = length-set work₁ i 0 ∙ c.wide;
        kept = λ j k. get_or-set_other work₁ i j 0 0 (λ q. let z : j % 4 ≡ i % 4 = ap (λ (x : ℕ). x % 4) q in omega arith) ∙ c.kept j k;
        zeros = λ j b k. zero j b k (eqb j i) refl;
      })
    where
      zero : (j : ℕ) → j < i + 1 → 2 ≤ j % 4 → (b : Bool) → eqb j i ≡ b → get_or (set work₁ i 0) j 0 ≡ 0
      zero j b k true q = ap (λ (x : ℕ). get_or (set work₁ i 0) x 0) (eqb-true j i q) ∙ get_or-set_same work₁ i 0 0 l
      zero j b k false q = let ne = eqb-false j i q in get_or-set_other work₁ i j 0 0 ne ∙ c.zeros j (omega arith) k

  -- another word
  clearing_skip : i % 4 < 2 → Clearing work (i + 1) work₁
  clearing_skip h = record { wide = c.wide; kept = c.kept; zeros = λ j b k. zero j b k (eqb j i) refl }
    where
      zero : (j : ℕ) → j < i + 1 → 2 ≤ j % 4 → (b : Bool) → eqb j i ≡ b → get_or work₁ j 0 ≡ 0
      zero j b k true q = let z : j % 4 ≡ i % 4 = ap (λ (x : ℕ). x % 4) (eqb-true j i q) in absurd (omega arith)
      zero j b k false q = let ne = eqb-false j i q in c.zeros j (omega arith) k

  pub clearing_done : length work₁ ≤ i → Cleared work work₁
  clearing_done l = record { wide = c.wide; kept = c.kept; zeros = λ j k. zero j k (ltb j i) refl }
    where
      zero : (j : ℕ) → 2 ≤ j % 4 → (b : Bool) → ltb j i ≡ b → get_or work₁ j 0 ≡ 0
      zero j k true q = c.zeros j (ltb-true j i q) k
      zero j k false q = let z : i ≤ j = ltb-false j i q in get_or-eq_default work₁ 0 (omega arith)

-- The words of a name's local and argument, then those of the next name's global and alias
module _ {work work₁ : List ℕ} {i : ℕ} (c : Clearing work i work₁) (h : i % 4 ≡ 2) where
  pub clearing_pair : i + 1 < length work₁ → Clearing work (i + 4) (set (set work₁ i 0) (i + 1) 0)
  clearing_pair p =
      let l : length (set work₁ i 0) ≡ length work₁ = length-set work₁ i 0 in
      let two = clearing_set (clearing_set c (omega arith) (omega arith) refl) (omega arith) (omega arith) refl in
      subst (λ (k : ℕ). Clearing work k (set (set work₁ i 0) (i + 1) 0)) (omega arith) (clearing_skip (clearing_skip two (omega arith)) (omega arith))

  -- the last word, if it is a local's
  pub clearing_last : i < length work₁ → length work₁ ≤ i + 1 → Cleared work (set work₁ i 0)
  clearing_last p q =
      let l : length (set work₁ i 0) ≡ length work₁ = length-set work₁ i 0 in
      clearing_done (clearing_set c p (omega arith) refl) (omega arith)

-- All words of locals and arguments are cleared
pub all_cleared : {arguments locals work work' : List ℕ} → Cleared work work' → FunctionCleared arguments locals work work'
all_cleared {work = work} {work' = work'} c =
    record {
      wide = c.wide;
      either = λ i. word i (ltb (i % 4) 2) refl;
      kept = λ n k h. c.kept (word_place n k) (omega arith);
      no_locals = λ n h. c.zeros (word_place n 2) (omega arith);
      no_arguments = λ n h. c.zeros (word_place n 3) (omega arith);
    }
  where
    word : (i : ℕ) (b : Bool) → ltb (i % 4) 2 ≡ b → (get_or work' i 0 ≡ 0) ⊎ (get_or work' i 0 ≡ get_or work i 0)
    word i true q = inr (c.kept i (ltb-true (i % 4) 2 q))
    word i false q = inl (c.zeros i (ltb-false (i % 4) 2 q))

-- Those of the names declared are cleared
both_cleared : (arguments locals work : List ℕ) → FunctionCleared arguments locals work (cleared_words 2 locals (cleared_words 3 arguments work))
both_cleared arguments locals work =
    let middle = cleared_words 3 arguments work in
    record {
      wide = cleared_wide 2 locals middle ∙ cleared_wide 3 arguments work;
      either = λ i. either_then (cleared_either 3 arguments work i) (cleared_either 2 locals middle i);
      kept = λ n k h. cleared_other 2 locals middle (word_place n k) (λ m e. omega arith) ∙ cleared_other 3 arguments work (word_place n k) (λ m e. omega arith);
      no_locals = λ n h. cleared_zero 2 n locals middle h;
      no_arguments = λ n h. cleared_stays 2 locals middle (word_place n 3) (cleared_zero 3 n arguments work h);
    }

declared_cleared : {arguments locals : List ℕ} (work : List ℕ) {work₁ work' : List ℕ} → work₁ ≡ cleared_words 3 arguments work → work' ≡ cleared_words 2 locals work₁ → FunctionCleared arguments locals work work'
declared_cleared {arguments} {locals} work first second =
    subst (FunctionCleared arguments locals work) (sym (second ∙ ap (cleared_words 2 locals) first)) (both_cleared arguments locals work)

module _ {s : List ℕ} {d body stop : ℕ} (left : BodyLeft s d body stop) {arguments : List ℕ} (work : List ℕ) {work₁ : List ℕ} (first : work₁ ≡ cleared_words 3 arguments work) where
  -- no body
  pub parameters_cleared : stop ≤ body → FunctionCleared arguments (body_names (body_at s d body stop)) work work₁
  unfolding body_names cleared_words
  parameters_cleared p =
      let tree = no_body left p in
      subst (λ (t : Option Statement). FunctionCleared arguments (body_names t) work work₁) (sym tree) (declared_cleared {locals = []} work first refl)

  pub body_cleared : (more : body < stop) {work' : List ℕ} → work' ≡ cleared_words 2 (declared_names (statement_at s d body)) work₁ → FunctionCleared arguments (body_names (body_at s d body stop)) work work'
  unfolding body_names
  body_cleared more {work'} second =
      subst (λ (t : Option Statement). FunctionCleared arguments (body_names t) work work') (sym (there left more).body) (declared_cleared work first second)

-- What is known of words that were cleared
module _ {arguments locals work work' o e w ix : List ℕ} {st : State} (c : FunctionCleared arguments locals work work') where
  good_cleared : Good (lent work o e w ix st) → Good (lent work' o e w ix st)
  good_cleared g =
      record {
        table = g.table;
        indexed = g.indexed;
        words = λ i. ⊎_elim (λ z. record { either = inl z }) (λ q. subst (WordOk w st.rows) (sym q) (g.words i)) (c.either i);
      }

  pub cleared_walked : {X : Type 0} {G : X → Type 0} {from to : ℕ} → Good (lent work o e w ix st) → Walked G (λ x. nothing) from to (lent work o e w ix st) (lent work' o e w ix st)
  cleared_walked g =
      record { grew = record { good = good_cleared g; extends = extends_refl w st.rows; linked = sym (rows_none _ w st.rows); sticky = λ p. p }; frame = frame_none; does = λ x h. does_work work' }

  module _ (ctx : Context) (s : Scope (lent work o e w ix st) ctx) where
    -- A word that stands for no type was 0
    was_zero : st.full ≡ false → (n k : ℕ) → k < 4 → map_at ctx k n ≡ none → get_or work (word_place n k) 0 ≡ 0
    unfolding Holds
    was_zero p n k lk q = go (ltb (word_place n k) (length work)) refl
      where
        go : (b : Bool) → ltb (word_place n k) (length work) ≡ b → get_or work (word_place n k) 0 ≡ 0
        go true l = subst (Holds w st.rows (get_or work (word_place n k) 0)) q (s.holds p n k lk (ltb-true (word_place n k) (length work) l))
        go false l = let z : length work ≤ word_place n k = ltb-false (word_place n k) (length work) l in get_or-eq_default work 0 (omega arith)

    is_zero : st.full ≡ false → (n k : ℕ) → k < 4 → (names : List ℕ) → (is_one_of n names ≡ true → get_or work' (word_place n k) 0 ≡ 0)
        → (is_one_of n names ≡ false → map_at ctx k n ≡ none) → (b : Bool) → is_one_of n names ≡ b → get_or work' (word_place n k) 0 ≡ 0
    is_zero p n k lk names among other true q = among q
    is_zero p n k lk names among other false q = ⊎_elim (λ z. z) (λ z. z ∙ was_zero p n k lk (other q)) (c.either (word_place n k))

    -- No local or argument is left
    pub cleared_scope : ((n : ℕ) → is_one_of n locals ≡ false → ctx.in_function.variables n ≡ none) → ((n : ℕ) → is_one_of n arguments ≡ false → ctx.in_function.arguments n ≡ none)
        → Scope (lent work' o e w ix st) (context ctx.in_module blank)
    cleared_scope no_local noArgument = record { holds = λ p. (scope_blank {ctx = ctx} work' c.wide c.kept (zeros p) s).holds p }
      where
        zeros : st.full ≡ false → (n k : ℕ) → 2 ≤ k → k < 4 → get_or work' (word_place n k) 0 ≡ 0
        zeros p n zero l lk = absurd (omega arith)
        zeros p n (suc zero) l lk = absurd (omega arith)
        zeros p n (suc (suc zero)) l lk = is_zero p n 2 (omega arith) locals (c.no_locals n) (no_local n) (is_one_of n locals) refl
        zeros p n (suc (suc (suc zero))) l lk = is_zero p n 3 (omega arith) arguments (c.no_arguments n) (noArgument n) (is_one_of n arguments) refl
        zeros p n (suc (suc (suc (suc k)))) l lk = absurd (omega arith)
