-- What one read adds to those before it. Assumes nothing.
use Rattle.std.proofs.Common.{◌≡◌, ℕ, ◌+◌, ◌-◌, ◌≤◌, List, ◌++◌, length, take, drop, length-drop, Option, None, Some, arith, length-take-le, append_assoc, sym, ap, ◌∙◌, subst}
use Rattle.std.proofs.Math.Seq.{take-append-add}
use Rattle.std.proofs.lemmas.List.{take-append-le}
use Rattle.std.specs.Io.KnownBytes.{Consumes}
use borrow.Rule.Slice.PartMut.{mid_of, put_mid, post_of}

-- Bytes that are read one after the other
read_on : (before between after : Option (List ℕ)) (xs ys : List ℕ) → Consumes before between xs → Consumes between after ys → Consumes before after (xs ++ ys)
read_on None between after xs ys p q = tt
read_on (Some a) None after xs ys p q = absurd p
read_on (Some a) (Some b) None xs ys p q = absurd q
read_on (Some a) (Some b) (Some c) xs ys p q = p ∙ ap (λ (l : List ℕ). xs ++ l) q ∙ sym (append_assoc xs ys c)

-- The first n of the bytes that replace those from a on
taken : (a k n : ℕ) (xs ys : List ℕ) → a ≤ length xs → n ≤ length ys → take (a + n) (put_mid a k xs ys) ≡ take a xs ++ take n ys
taken a k n xs ys p q =
    let e : a ≡ length (take a xs) = sym (length-take-le a xs p) in
    ap (λ (m : ℕ). take (m + n) (put_mid a k xs ys)) e
    ∙ take-append-add (take a xs) (ys ++ post_of a k xs) n
    ∙ ap (λ (l : List ℕ). take a xs ++ l) (take-append-le n ys (post_of a k xs) q)

pub full_step : (before between after : Option (List ℕ)) (a k n : ℕ) (xs ys : List ℕ) → a ≤ length xs → n ≤ length ys → Consumes before between (take a xs) → Consumes between after (take n ys)
    → Consumes before after (take (a + n) (put_mid a k xs ys))
full_step before between after a k n xs ys p q r s = subst (λ (l : List ℕ). Consumes before after l) (sym (taken a k n xs ys p q)) (read_on before between after (take a xs) (take n ys) r s)

-- How much room there is from a on
pub room : (a : ℕ) (xs ys : List ℕ) → a ≤ length xs → length ys ≡ length (mid_of a (length xs - a) xs) → a + length ys ≡ length xs
room a xs ys p e =
    let d : length (drop a xs) ≡ length xs - a = length-drop a xs in
    let t : length (take (length xs - a) (drop a xs)) ≡ length xs - a = length-take-le (length xs - a) (drop a xs) (omega (arith, d)) in
    omega (arith, e, t)
