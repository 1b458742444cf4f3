-- One text after the other: written, measured and tested in a loop. The same laws serve the bytes of a line and the errors of a list.
-- Assumes nothing.
use Prim.Native.Nat.{ℕ, ◌+◌, ◌≤◌}
use native.Mathlib.Omega.{arith}
use mathlib.Core.Path.{◌≡◌, refl, sym, ap, ◌∙◌}
use mathlib.Core.List.{List, [], ◌∷◌}
use lib.ListN.{length, length-append}
use lib.Seq.{sets, length-sets}
use Rattle.meaning.specs.Context.{each, All}
use Rattle.text.specs.Length.{longest, too_long, capped}
use Rattle.text.specs.Written.{Fits, Written}
use Rattle.text.proofs.Writing.{sets_append}

-- Once the rest is written, all is
pub record Left {A : Type 0} (f : A → List ℕ) (E : A → Type 0) (all : List A) (before : List ℕ) (from : ℕ) (text : List ℕ) (at : ℕ) (rest : List A) : Type 0 where
  pub exist : All E rest
  pub short : length (each f rest) ≤ longest
  pub room : at + length (each f rest) ≤ length text
  pub long : length text ≡ length before
  pub whole : sets text at (each f rest) ≡ sets before from (each f all)
  pub ends : at + length (each f rest) ≡ from + length (each f all)

module _ {A : Type 0} (f : A → List ℕ) (E : A → Type 0) (all : List A) (before : List ℕ) (from : ℕ) where
  pub left_start : All E all → Fits (each f all) before from → Left f E all before from before from all
  left_start exist fits = record { exist = exist; short = fits.short; room = fits.room; long = refl; whole = refl; ends = refl }

  module _ (text : List ℕ) (at : ℕ) (a : A) (rest : List A) (left : Left f E all before from text at (a ∷ rest)) where
    sum : length (each f (a ∷ rest)) ≡ length (f a) + length (each f rest)
    unfolding each
    sum = length-append (f a) (each f rest)

    pub left_fits : Fits (f a) text at
    left_fits = let s = sum in record { short = omega (arith, left.short); room = omega (arith, left.room) }

    pub left_exists : E a
    unfolding All
    left_exists = left.exist.0

    pub left_more : (text' : List ℕ) (r : ℕ) → Written (f a) text text' at r → Left f E all before from text' r rest
    unfolding All each
    left_more text' r w =
        let s = sum in
        let l = ap length w.stored ∙ length-sets text at (f a) in
        record {
          exist = left.exist.1;
          short = omega (arith, left.short);
          room = omega (arith, left.room, w.next, l);
          long = l ∙ left.long;
          whole = (λ i. sets (w.stored i) (w.next i) (each f rest)) ∙ sym (sets_append (f a) (each f rest) text at) ∙ left.whole;
          ends = omega (arith, left.ends, w.next);
        }

  pub left_done : (text : List ℕ) (at : ℕ) → Left f E all before from text at [] → Written (each f all) before text from at
  unfolding each
  left_done text at left = record { stored = left.whole; next = omega (arith, left.ends) }

-- What is counted and what is left make up the whole, counted no further than one past the longest
pub record Counted {A : Type 0} (f : A → List ℕ) (E : A → Type 0) (all : List A) (total : ℕ) (rest : List A) : Type 0 where
  pub exist : All E rest
  pub sum : capped (total + length (each f rest)) ≡ capped (length (each f all))
  pub small : total ≤ too_long

module _ {A : Type 0} (f : A → List ℕ) (E : A → Type 0) (all : List A) where
  pub count_start : All E all → Counted f E all 0 all
  count_start exist = record { exist = exist; sum = omega arith; small = omega arith }

  module _ (total : ℕ) (a : A) (rest : List A) (c : Counted f E all total (a ∷ rest)) where
    pub count_exists : E a
    unfolding All
    count_exists = c.exist.0

    pub count_more : (n total' : ℕ) → n ≡ capped (length (f a)) → total' ≡ capped (total + n) → Counted f E all total' rest
    unfolding All each
    count_more n total' n-is is =
        let l = length-append (f a) (each f rest) in record { exist = c.exist.1; sum = omega (arith, c.sum); small = omega arith }

  pub count_done : (total : ℕ) → Counted f E all total [] → total ≡ capped (length (each f all))
  unfolding each
  count_done total c = omega (arith, c.sum, c.small)

-- Those tested exist, so that all do exactly if the rest does
pub record Tested {A : Type 0} (E : A → Type 0) (all rest : List A) : Type 0 where
  pub onward : All E all → All E rest
  pub back : All E rest → All E all

module _ {A : Type 0} (E : A → Type 0) (all : List A) where
  pub test_start : Tested E all all
  test_start = record { onward = λ h. h; back = λ h. h }

  module _ (a : A) (rest : List A) (t : Tested E all (a ∷ rest)) where
    pub test_more : E a → Tested E all rest
    unfolding All
    test_more e = record { onward = λ h. (t.onward h).1; back = λ h. t.back (e, h) }

    pub test_no : (E a → ⊥) → All E all → ⊥
    unfolding All
    test_no n h = n (t.onward h).0

  pub test_done : Tested E all [] → All E all
  unfolding All
  test_done t = t.back tt
