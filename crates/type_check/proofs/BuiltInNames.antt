-- The built-in types by the numbers of their names are those by the bytes of the names. Assumes nothing.
use Prim.Native.Nat.{ℕ, ◌<◌}
use mathlib.Core.Path.{◌≡◌, refl, sym, ◌∙◌, ap, subst}
use mathlib.Core.Bool.{Bool, true, false, cond}
use mathlib.Core.List.{List, [], ◌∷◌}
use mathlib.Core.Option.{none, some}
use lib.Dec.{eqb}
use lib.ListN.{get_or}
use borrow.Author.Tests.{eqb-true, eq-eqb}
use Rattle.types.specs.Ty.{u16, i16, bool, string}
use Rattle.names.specs.Names.{names_of, name_count, same_bytes, number_of, built_ins, repeated_name}
use Rattle.std.proofs.Common.{None}
use Rattle.names.proofs.NameLaws.{same_refl, same_true}
use Rattle.names.proofs.NumberLaws.{named, number_of_name}
use Rattle.meaning.specs.Promise.{built_in_types}
use Rattle.convert.specs.Convert.{primitive_of}

module _ (s : List ℕ) (once : repeated_name s ≡ None) (i : ℕ) (known : i < name_count s) where
  -- Where no name is repeated, a name has a text exactly if its number is that of the text
  same_number : (t : List ℕ) → same_bytes (get_or (names_of s) i []) t ≡ eqb i (number_of s t)
  same_number t = go (same_bytes (get_or (names_of s) i []) t) (eqb i (number_of s t)) refl refl
    where
      go : (a b : Bool) → same_bytes (get_or (names_of s) i []) t ≡ a → eqb i (number_of s t) ≡ b → a ≡ b
      go true b p q = sym (eq-eqb i (number_of s t) (sym (number_of_name s t i once known (same_true (get_or (names_of s) i []) t p)))) ∙ q
      go false true p q =
          let e : i ≡ number_of s t = eqb-true i (number_of s t) q in
          let n : get_or (names_of s) i [] ≡ t = ap (λ (j : ℕ). get_or (names_of s) j []) e ∙ named s t (subst (λ (j : ℕ). j < name_count s) e known) in
          sym p ∙ ap (λ (x : List ℕ). same_bytes x t) n ∙ same_refl t
      go false false p q = refl

  pub built_ins_lem : built_in_types (names_of s) i ≡ primitive_of (built_ins s) i
  unfolding built_in_types primitive_of built_ins
  built_ins_lem =
      let a = same_number (117 ∷ 49 ∷ 54 ∷ []) in
      let b = same_number (105 ∷ 49 ∷ 54 ∷ []) in
      let c = same_number (98 ∷ 111 ∷ 111 ∷ 108 ∷ []) in
      let d = same_number (83 ∷ 116 ∷ 114 ∷ 105 ∷ 110 ∷ 103 ∷ []) in
      λ k. cond (a k) (some u16) (cond (b k) (some i16) (cond (c k) (some bool) (cond (d k) (some string) none)))
