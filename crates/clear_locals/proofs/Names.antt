-- What clearing does to a word, and what a statement leaves of names that it does not declare. Assumes nothing.
use Prim.Native.Nat.{ℕ, ◌≤◌}
use mathlib.Core.Path.{◌≡◌, refl, sym, ap, ◌∙◌}
use mathlib.Core.Bool.{Bool, true, false, cond, ◌||◌, true≢false}
use mathlib.Core.List.{List, [], ◌∷◌, ◌++◌, map}
use mathlib.Core.Logic.{◌⊎◌, inl, inr, ⊎_elim}
use native.Mathlib.Omega.{arith}
use lib.Dec.{eqb, ltb}
use lib.ListN.{length, get_or, set, length-set, get_or-eq_default}
use lib.Seq.{get_or-set_same, get_or-set_other}
use borrow.Author.Tests.{eqb-true, eqb-false, ltb-true, ltb-false}
use Rattle.types.specs.Ty.{Ty}
use Rattle.trees.specs.Tree.{Parameter, Statement}
use Rattle.meaning.specs.Context.{TypeMap, insert_all, ModuleContext, Context, entry}
use Rattle.meaning.specs.Statement.{is_local, with_local, declare_local, context_after, declared_names}
use Rattle.meaning.specs.Module.{parameter_entry}
use Rattle.meaning.proofs.After.{after}
use Rattle.walk.specs.Words.{word_place}
use Rattle.clear_locals.specs.Cleared.{parameter_names, is_one_of, cleared_words}

-- A word that is 0 or as it was
module _ (work : List ℕ) (i : ℕ) where
  set_here : get_or (set work i 0) i 0 ≡ 0
  set_here = go (ltb i (length work)) refl
    where
      go : (b : Bool) → ltb i (length work) ≡ b → get_or (set work i 0) i 0 ≡ 0
      go true q = get_or-set_same work i 0 0 (ltb-true i (length work) q)
      go false q =
          let z : length work ≤ i = ltb-false i (length work) q in
          let l : length (set work i 0) ≡ length work = length-set work i 0 in
          get_or-eq_default (set work i 0) 0 (omega arith)

  set_either : (j : ℕ) → (get_or (set work i 0) j 0 ≡ 0) ⊎ (get_or (set work i 0) j 0 ≡ get_or work j 0)
  set_either j = go (eqb j i) refl
    where
      go : (b : Bool) → eqb j i ≡ b → (get_or (set work i 0) j 0 ≡ 0) ⊎ (get_or (set work i 0) j 0 ≡ get_or work j 0)
      go true q = inl (ap (λ (x : ℕ). get_or (set work i 0) x 0) (eqb-true j i q) ∙ set_here)
      go false q = inr (get_or-set_other work i j 0 0 (eqb-false j i q))

pub either_then : {a b c : ℕ} → (b ≡ 0) ⊎ (b ≡ a) → (c ≡ 0) ⊎ (c ≡ b) → (c ≡ 0) ⊎ (c ≡ a)
either_then (inl y) (inl z) = inl z
either_then (inl y) (inr z) = inl (z ∙ y)
either_then (inr y) (inl z) = inl z
either_then (inr y) (inr z) = inr (z ∙ y)

-- What is cleared
module _ (which : ℕ) where
  pub cleared_append : (a b work : List ℕ) → cleared_words which (a ++ b) work ≡ cleared_words which b (cleared_words which a work)
  unfolding cleared_words
  cleared_append [] b work = refl
  cleared_append (n ∷ a) b work = cleared_append a b (set work (word_place n which) 0)

  pub cleared_wide : (names work : List ℕ) → length (cleared_words which names work) ≡ length work
  unfolding cleared_words
  cleared_wide [] work = refl
  cleared_wide (n ∷ names) work = cleared_wide names (set work (word_place n which) 0) ∙ length-set work (word_place n which) 0

  pub cleared_either : (names work : List ℕ) (j : ℕ) → (get_or (cleared_words which names work) j 0 ≡ 0) ⊎ (get_or (cleared_words which names work) j 0 ≡ get_or work j 0)
  unfolding cleared_words
  cleared_either [] work j = inr refl
  cleared_either (n ∷ names) work j = either_then (set_either work (word_place n which) j) (cleared_either names (set work (word_place n which) 0) j)

  pub cleared_other : (names work : List ℕ) (j : ℕ) → ((n : ℕ) → j ≡ word_place n which → ⊥) → get_or (cleared_words which names work) j 0 ≡ get_or work j 0
  unfolding cleared_words
  cleared_other [] work j ne = refl
  cleared_other (n ∷ names) work j ne = cleared_other names (set work (word_place n which) 0) j ne ∙ get_or-set_other work (word_place n which) j 0 0 (ne n)

  pub cleared_stays : (names work : List ℕ) (j : ℕ) → get_or work j 0 ≡ 0 → get_or (cleared_words which names work) j 0 ≡ 0
  cleared_stays names work j z = ⊎_elim (λ y. y) (λ y. y ∙ z) (cleared_either names work j)

  zero_step : (n m : ℕ) (names work : List ℕ) → (is_one_of n names ≡ true → get_or (cleared_words which names (set work (word_place m which) 0)) (word_place n which) 0 ≡ 0)
      → (b : Bool) → eqb n m ≡ b → (b || is_one_of n names) ≡ true → get_or (cleared_words which names (set work (word_place m which) 0)) (word_place n which) 0 ≡ 0
  zero_step n m names work rest true q h =
      let words = set work (word_place m which) 0 in
      cleared_stays names words (word_place n which) (ap (λ (x : ℕ). get_or words (word_place x which) 0) (eqb-true n m q) ∙ set_here work (word_place m which))
  zero_step n m names work rest false q h = rest h

  pub cleared_zero : (n : ℕ) (names work : List ℕ) → is_one_of n names ≡ true → get_or (cleared_words which names work) (word_place n which) 0 ≡ 0
  unfolding cleared_words is_one_of
  cleared_zero n [] work h = absurd (true≢false (sym h))
  cleared_zero n (m ∷ names) work h = zero_step n m names work (cleared_zero n names (set work (word_place m which) 0)) (eqb n m) refl h

-- A name that is in neither part
neither : (x y : Bool) → (x || y) ≡ false → (x ≡ false) × (y ≡ false)
neither true y h = absurd (true≢false h)
neither false y h = (refl, h)

among_neither : (n : ℕ) (a b : List ℕ) → is_one_of n (a ++ b) ≡ false → (is_one_of n a ≡ false) × (is_one_of n b ≡ false)
unfolding is_one_of
among_neither n [] b h = (refl, h)
among_neither n (m ∷ a) b h =
    let p = neither (eqb n m) (is_one_of n (a ++ b)) h in
    let q = among_neither n a b p.1 in
    ((λ i. p.0 i || q.0 i), q.1)

-- The second context differs from the first in the locals of these names only
pub record Declares (names : List ℕ) (ctx ctx' : Context) : Type 0 where
  pub in_module : ctx'.in_module ≡ ctx.in_module
  pub arguments : ctx'.in_function.arguments ≡ ctx.in_function.arguments
  pub variables : (n : ℕ) → is_one_of n names ≡ false → ctx'.in_function.variables n ≡ ctx.in_function.variables n

declares_none : {names : List ℕ} {ctx : Context} → Declares names ctx ctx
declares_none = record { in_module = refl; arguments = refl; variables = λ n h. refl }

declares_then : (a b : List ℕ) {x y z : Context} → Declares a x y → Declares b y z → Declares (a ++ b) x z
declares_then a b p q =
    record { in_module = q.in_module ∙ p.in_module; arguments = q.arguments ∙ p.arguments; variables = λ n h. let e = among_neither n a b h in q.variables n e.1 ∙ p.variables n e.0 }

declares_local : (ctx : Context) (name : ℕ) (t : Ty) → Declares (name ∷ []) ctx (declare_local ctx name t)
unfolding is_one_of
declares_local ctx name t = go (is_local ctx name)
  where
    go : (b : Bool) → Declares (name ∷ []) ctx (cond b ctx (with_local (entry name t) ctx))
    go true = declares_none
    go false = record { in_module = refl; arguments = refl; variables = λ n h. rw (neither (eqb n name) false h).0 }

pub after_declares : (t : Statement) (ctx : Context) → Declares (declared_names t) ctx (context_after ctx t)
after_declares = after Declares (λ ctx. declares_none) declares_local (λ k l a b c. declares_then k l)

-- A name that no parameter has
pub no_argument : (m : ModuleContext) (ps : List Parameter) (map₀ : TypeMap) (n : ℕ) → is_one_of n (parameter_names ps) ≡ false → insert_all (map (parameter_entry m) ps) map₀ n ≡ map₀ n
unfolding insert_all parameter_names is_one_of
no_argument m [] map₀ n h = refl
no_argument m (p ∷ ps) map₀ n h =
    let e = neither (eqb n p.name) (is_one_of n (parameter_names ps)) h in
    no_argument m ps (λ x. cond (eqb x p.name) _ (map₀ x)) n e.1 ∙ rw e.0
