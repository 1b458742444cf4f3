-- Bytes written one after the other, and apart from each other.
use Prim.Native.Nat.{ℕ, suc, ◌+◌, ◌-◌, ◌≤◌, ◌<◌}
use native.Mathlib.Omega.{arith}
use mathlib.Core.Path.{◌≡◌, refl, sym, ap, ◌∙◌, subst}
use mathlib.Core.List.{List, [], ◌∷◌, ◌++◌, append_assoc}
use lib.ListN.{length, get_or, take, drop, set, length-append}
use lib.Seq.{sets, sets-eq, length-sets, take-suc, take-length, length-take-le, drop-drop, set_comm}
use borrow.Rule.Slice.PartMut.{put_mid}
use Rattle.text.specs.Written.{Fits, Written}

-- One after the other
pub sets_append : (a b l : List ℕ) (i : ℕ) → sets l i (a ++ b) ≡ sets (sets l i a) (i + length a) b
sets_append [] b l i = let e : i + 0 ≡ i = omega arith in rw e refl
sets_append (x ∷ a) b l i = let e : i + suc (length a) ≡ suc i + length a = omega arith in rw e (sets_append a b (set l i x) (suc i))

-- A byte before a text may be written before or after it
pub set_apart : (a l : List ℕ) (i j x : ℕ) → j < i → set (sets l i a) j x ≡ sets (set l j x) i a
set_apart [] l i j x p = refl
set_apart (y ∷ a) l i j x p =
    set_apart a (set l i y) (suc i) j x (omega arith) ∙ ap (λ (k : List ℕ). sets k (suc i) a) (set_comm l i j y x (λ e. omega arith))

-- Two texts apart, the first before the second, may be written in either order
pub sets_apart : (a b l : List ℕ) (i j : ℕ) → i + length a ≤ j → sets (sets l i a) j b ≡ sets (sets l j b) i a
sets_apart [] b l i j p = refl
sets_apart (x ∷ a) b l i j p =
    sets_apart a b (set l i x) (suc i) j (omega arith) ∙ ap (λ (k : List ℕ). sets k (suc i) a) (sym (set_apart b l j i x (omega arith)))

-- Bytes copied over a part that is as long
pub copied : (s l : List ℕ) (at n : ℕ) → n ≡ at + length s - at → at + length s ≤ length l → put_mid at n l s ≡ sets l at s
copied s l at n long room =
    let same : n ≡ length s = omega arith in
    let rest : drop n (drop at l) ≡ drop (at + length s) l = drop-drop n at l ∙ ap (λ (k : ℕ). drop (at + k) l) same in
    ap (λ (k : List ℕ). take at l ++ (s ++ k)) rest ∙ sym (append_assoc (take at l) s (drop (at + length s) l)) ∙ sym (sets-eq s l at room)

-- What a loop over bytes has written after n of them, one more, and all
pub one_more : (s l : List ℕ) (at n : ℕ) → n < length s → set (sets l at (take n s)) (at + n) (get_or s n 0) ≡ sets l at (take (n + 1) s)
one_more s l at n p =
    let e : n + 1 ≡ suc n = omega arith in
    rw (e, take-suc s n 0 p)
    (sym
    (sets_append (take n s) (get_or s n 0 ∷ []) l at
    ∙ ap (λ (m : ℕ). set (sets l at (take n s)) (at + m) (get_or s n 0)) (length-take-le n s (omega arith))))

pub all_written : (s l : List ℕ) (at n : ℕ) → n ≡ length s → sets l at (take n s) ≡ sets l at s
all_written s l at n e = rw (e, take-length s)

-- Where two texts fit one after the other, the first fits, and the second behind it once the first is written
pub first_fits : (a b text : List ℕ) (at : ℕ) → Fits (a ++ b) text at → Fits a text at
first_fits a b text at fits = let l = length-append a b in record { short = omega (arith, fits.short); room = omega (arith, fits.room) }

module _ (a b text : List ℕ) (at : ℕ) (text' : List ℕ) (next : ℕ) (first : Written a text text' at next) where
  pub second_fits : Fits (a ++ b) text at → Fits b text' next
  second_fits fits =
      let l = length-append a b in
      let k = ap length first.stored ∙ length-sets text at a in
      record { short = omega (arith, fits.short); room = omega (arith, fits.room, first.next) }

  -- both are written then
  pub both_written : (text'' : List ℕ) (r : ℕ) → Written b text' text'' next r → Written (a ++ b) text text'' at r
  both_written text'' r second =
      record {
        stored = second.stored ∙ (λ i. sets (first.stored i) (first.next i) b) ∙ sym (sets_append a b text at);
        next = let l = length-append a b in omega (arith, first.next, second.next);
      }

-- Nothing is written, and a text by another that it equals
pub none_written : (text : List ℕ) (at : ℕ) → Written [] text text at at
none_written text at = record { stored = refl; next = omega arith }

pub fits_as : (t u : List ℕ) → t ≡ u → (text : List ℕ) (at : ℕ) → Fits t text at → Fits u text at
fits_as t u e text at fits = subst (λ (x : List ℕ). Fits x text at) e fits

pub written_as : (t u : List ℕ) → t ≡ u → (text text' : List ℕ) (at r : ℕ) → Written u text text' at r → Written t text text' at r
written_as t u e text text' at r w = subst (λ (x : List ℕ). Written x text text' at r) (sym e) w

-- A text has as many bytes after writing as before
pub written_length : (t text text' : List ℕ) (at r : ℕ) → Written t text text' at r → length text' ≡ length text
written_length t text text' at r w = ap length w.stored ∙ length-sets text at t
