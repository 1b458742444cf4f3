-- Maps of names to types: an entry changes only its own name, so entries of different names may come in any order.
use Prim.Native.Nat.{ℕ}
use mathlib.Core.Path.{◌≡◌, refl, sym, ◌∙◌, ap, fun_ext}
use mathlib.Core.Logic.{◌≢◌}
use mathlib.Core.Bool.{Bool, true, false}
use mathlib.Core.List.Memᴰ
use mathlib.Core.List.{List, [], ◌∷◌, map, Mem, Disjoint, mem-cons_self, mem-cons_of_mem}
use lib.Dec.{eqb}
use borrow.Author.Tests.{eqb-true, ne_eqb}
use Rattle.meaning.specs.Context.{TypeMap, Entry, insert, insert_all}

-- The names of entries
abbrev pub keys : List Entry → List ℕ
keys entries = map (λ (e : Entry). e.name) entries

pub insert_other : (e : Entry) (m : TypeMap) (name : ℕ) → name ≢ e.name → insert e m name ≡ m name
insert_other e m name h = rw (ne_eqb name e.name h)

pub all_other : (es : List Entry) (m : TypeMap) (name : ℕ) → ¬ Mem name (keys es) → insert_all es m name ≡ m name
unfolding insert_all
all_other [] m name h = refl
all_other (e ∷ es) m name h =
    all_other es (insert e m) name (λ x. h (mem-cons_of_mem e.name x)) ∙ insert_other e m name (λ x. h ∣ Memᴰ.head x ∣₁)

insert_swap : (e f : Entry) (m : TypeMap) → e.name ≢ f.name → insert e (insert f m) ≡ insert f (insert e m)
insert_swap e f m h = fun_ext (λ name. go name (eqb name e.name) (eqb name f.name) refl refl)
  where
    go : (name : ℕ) (x y : Bool) → eqb name e.name ≡ x → eqb name f.name ≡ y → insert e (insert f m) name ≡ insert f (insert e m) name
    go name true true p q = absurd (h (sym (eqb-true name e.name p) ∙ eqb-true name f.name q))
    go name true false p q = rw (p, q)
    go name false true p q = rw (p, q)
    go name false false p q = rw (p, q)

-- One entry past others
insert_past : (e : Entry) (fs : List Entry) (m : TypeMap) → ¬ Mem e.name (keys fs) → insert e (insert_all fs m) ≡ insert_all fs (insert e m)
unfolding insert_all
insert_past e [] m h = refl
insert_past e (f ∷ fs) m h =
    insert_past e fs (insert f m) (λ x. h (mem-cons_of_mem f.name x)) ∙ ap (insert_all fs) (insert_swap e f m (λ x. h ∣ Memᴰ.head x ∣₁))

-- All of some entries past all of others
pub all_past : (es fs : List Entry) (m : TypeMap) → Disjoint (keys es) (keys fs) → insert_all es (insert_all fs m) ≡ insert_all fs (insert_all es m)
unfolding insert_all
all_past [] fs m h = refl
all_past (e ∷ es) fs m h =
    ap (insert_all es) (insert_past e fs m (h e.name mem-cons_self)) ∙ all_past es fs (insert e m) (λ name x. h name (mem-cons_of_mem e.name x))
