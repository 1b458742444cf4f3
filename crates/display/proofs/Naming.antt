-- A name's text, by the place of its record.
use Prim.Native.Nat.{ℕ, zero, suc, ◌+◌, ◌≤◌, ◌<◌}
use native.Mathlib.Omega.{arith}
use mathlib.Core.Path.{◌≡◌, refl, sym, ap, ◌∙◌}
use mathlib.Core.List.{List, [], ◌∷◌, map}
use mathlib.Core.Logic.{⊎_elim}
use borrow.Author.Tests.{eq-eqb, ne_eqb}
use lib.ListN.{length, get_or}
use Rattle.types.specs.Ty.{string_name}
use Rattle.record_bytes.specs.Bytes.{word_at, Read}
use Rattle.names.specs.Names.{name_places, name_count, names_of, name_bytes}
use Rattle.listing.specs.Names.{NameStands, NamesListed}
use Rattle.display.specs.Names.{name_text, NameExists}

-- A member of a list by its number
get_d_map_in : {A B : Type 0} (f : A → B) (l : List A) (n : ℕ) (d : A) (e : B) → n < length l → get_or (map f l) n e ≡ f (get_or l n d)
get_d_map_in f [] n d e p = absurd (omega arith)
get_d_map_in f (x ∷ l) zero d e p = refl
get_d_map_in f (x ∷ l) (suc n) d e p = get_d_map_in f l n d e (omega arith)

pub built_in_name : (s built_in : List ℕ) (name : ℕ) → name ≡ string_name → built_in ≡ name_text s built_in name
unfolding name_text
built_in_name s built_in name e = rw (eq-eqb name string_name e)

module _ (s places : List ℕ) (name : ℕ) (listed : NamesListed s places) (is : NameExists s name) (other : name ≡ string_name → ⊥) where
  in_list : name < name_count s
  in_list = ⊎_elim (λ (e : name ≡ string_name). absurd (other e)) (λ (p : name < name_count s). p) is

  pub in_room : name < length places
  in_room = omega (arith, in_list, listed.room)

  stands : NameStands s (get_or places name 0)
  stands = listed.stands name in_list

  pub head_inside : get_or places name 0 + 4 ≤ length s
  head_inside = let n = stands in omega (arith, n.head, n.whole)

  module _ (long : ℕ) (long_is : Read (word_at s (get_or places name 0)) 32 long) where
    pub whole : ((get_or places name 0 + 16 ≤ get_or places name 0 + long) × (get_or places name 0 + long ≤ length s))
        × (get_or places name 0 + long ≡ get_or places name 0 + word_at s (get_or places name 0))
    whole = let n = stands in ((omega (arith, n.head, long_is.is), omega (arith, n.whole, long_is.is)), ap (λ (m : ℕ). get_or places name 0 + m) long_is.is)

  pub named : (built_in r : List ℕ) → r ≡ name_bytes s (get_or places name 0) → r ≡ name_text s built_in name
  unfolding name_text names_of name_count
  named built_in r f =
      f
      ∙ ap (name_bytes s) (listed.at name in_list)
      ∙ sym (get_d_map_in (name_bytes s) (name_places s) name 0 [] in_list)
      ∙ sym (rw (ne_eqb name string_name other) refl)
