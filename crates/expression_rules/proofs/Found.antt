-- Row numbers of which 0 says that there is none. Assumes nothing.
use Prim.Native.Nat.{ℕ, ◌+◌, ◌*◌, ◌≤◌}
use mathlib.Core.Path.{◌≡◌, refl, sym, ap}
use mathlib.Core.Bool.{Bool, true, false, not}
use mathlib.Core.List.{List}
use mathlib.Core.Logic.{⊎_elim}
use mathlib.Core.Option.{Option, none, some}
use native.Mathlib.Omega.{arith}
use lib.Dec.{eqb}
use lib.ListN.{length, get_or}
use borrow.Author.Tests.{eqb-true, eqb-false}
use Rattle.types.specs.Ty.{Ty, unknown}
use Rattle.types.specs.Table.{Table, IsType}
use Rattle.types.specs.Post.{FoundType}
use Rattle.types.proofs.Fixed.{fixed_is, unknown_row}
use Rattle.meaning.specs.Context.{Context, is_some, or_else, or_unknown, resolve_identifier}
use Rattle.walk.specs.declared.State.{State}
use Rattle.walk.specs.Words.{word_place}
use Rattle.walk.specs.Represents.{lent, WordOk, Good, Shows, Holds, Scope}
use Rattle.expression_rules.specs.Words.{or_row, or_unknown_row, resolved_word}

module _ (w : List ℕ) (c : ℕ) where
  pub unknown_shown : Table w c → Shows w c 1 unknown
  unknown_shown t = record { is = fixed_is w c t 1 (omega arith) (omega arith); type = unknown_row w c t }

  -- The number 0 is what none has
  pub found_test : (found : Option Ty) (v : ℕ) → FoundType w c found v → not (eqb v 0) ≡ is_some found
  found_test found v f = go (eqb v 0) refl
    where
      go : (b : Bool) → eqb v 0 ≡ b → not (eqb v 0) ≡ is_some found
      go true q = rw (q, f.absent (eqb-true v 0 q)) refl
      go false q = let l : 1 ≤ v = omega (arith, eqb-false v 0 q) in rw (q, f.type l) refl

  pub found_shown : Table w c → (found : Option Ty) (v : ℕ) → FoundType w c found v → Shows w c (or_unknown_row v) (or_unknown found)
  found_shown t found v f = go (eqb v 0) refl
    where
      go : (b : Bool) → eqb v 0 ≡ b → Shows w c (or_unknown_row v) (or_unknown found)
      go true q = rw (q, f.absent (eqb-true v 0 q)) (unknown_shown t)
      go false q = let l : 1 ≤ v = omega (arith, eqb-false v 0 q) in rw (q, f.type l) (record { is = f.is l; type = refl })

  found_or : (found other : Option Ty) (v u : ℕ) → FoundType w c found v → FoundType w c other u → FoundType w c (or_else found other) (or_row v u)
  found_or found other v u f g = go (eqb v 0) refl
    where
      go : (b : Bool) → eqb v 0 ≡ b → FoundType w c (or_else found other) (or_row v u)
      go true q = rw (q, f.absent (eqb-true v 0 q)) g
      go false q =
          let l : 1 ≤ v = omega (arith, eqb-false v 0 q) in
          rw (q, f.type l) (record { absent = λ z. absurd (omega arith); is = f.is; type = λ m. refl })

  held_found : (found : Option Ty) (v : ℕ) → Holds w c v found → FoundType w c found v
  unfolding Holds
  held_found none v h = record { absent = λ z. refl; is = λ l. absurd (omega (arith, h)); type = λ l. absurd (omega (arith, h)) }
  held_found (some t) v h = record { absent = λ z. absurd (omega (arith, h.is.low)); is = λ l. h.is; type = λ l. ap (λ (u : Ty). some u) (sym h.type) }

  -- A working word, or another
  word_or : (v u : ℕ) → WordOk w c v → WordOk w c u → WordOk w c (or_row v u)
  word_or v u a b = go (eqb v 0) refl
    where
      go : (x : Bool) → eqb v 0 ≡ x → WordOk w c (or_row v u)
      go true q = rw q b
      go false q = rw q a

  word_shown : Table w c → (v : ℕ) → WordOk w c v → IsType w c (or_unknown_row v)
  word_shown t v a = go (eqb v 0) refl
    where
      go : (x : Bool) → eqb v 0 ≡ x → IsType w c (or_unknown_row v)
      go true q = rw q (unknown_shown t).is
      go false q = rw q (⊎_elim (λ (z : v ≡ 0). absurd (eqb-false v 0 q z)) (λ (z : IsType w c v). z) a.either)

module _ {work o e w ix : List ℕ} {st : State} (name : ℕ) where
  pub resolved_is : Good (lent work o e w ix st) → IsType w st.rows (or_unknown_row (resolved_word work name))
  resolved_is g =
      word_shown w st.rows g.table (resolved_word work name)
      (word_or w st.rows (get_or work (word_place name 2) 0) (or_row (get_or work (word_place name 3) 0) (get_or work (word_place name 0) 0)) (g.words (word_place name 2))
      (word_or w st.rows (get_or work (word_place name 3) 0) (get_or work (word_place name 0) 0) (g.words (word_place name 3)) (g.words (word_place name 0))))

  -- What a name stands for is in its working words
  pub resolved_found : (ctx : Context) → 4 * (name + 1) ≤ length work → st.full ≡ false → Scope (lent work o e w ix st) ctx
      → FoundType w st.rows (resolve_identifier ctx name) (resolved_word work name)
  resolved_found ctx room p s =
      found_or w st.rows (ctx.in_function.variables name) (or_else (ctx.in_function.arguments name) (ctx.in_module.globals name)) (get_or work (word_place name 2) 0)
      (or_row (get_or work (word_place name 3) 0) (get_or work (word_place name 0) 0)) (held 2 (ctx.in_function.variables name) (s.holds p name 2 (omega arith) (omega arith)))
      (found_or w st.rows (ctx.in_function.arguments name) (ctx.in_module.globals name) (get_or work (word_place name 3) 0) (get_or work (word_place name 0) 0)
      (held 3 (ctx.in_function.arguments name) (s.holds p name 3 (omega arith) (omega arith))) (held 0 (ctx.in_module.globals name) (s.holds p name 0 (omega arith) (omega arith))))
    where
      held : (which : ℕ) (found : Option Ty) → Holds w st.rows (get_or work (word_place name which) 0) found → FoundType w st.rows found (get_or work (word_place name which) 0)
      held which found h = held_found w st.rows found (get_or work (word_place name which) 0) h
