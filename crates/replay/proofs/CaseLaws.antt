-- What is left of a case whose part behind the length could not be read. Assumes nothing.
use Rattle.std.proofs.Common.{◌≡◌, ℕ, suc, Bool, true, ◌+◌, ◌-◌, ◌≤◌, ◌<◌, List, [], ◌∷◌, ◌++◌, cond, leb, length, take, drop, length-take-le, Option, arith, refl, sym, ap, ◌∙◌, subst}
use Rattle.std.proofs.lemmas.Slice.{drop-append-drop}
use borrow.Author.Tests.{le-leb}
use borrow.Rule.Slice.PartMut.{mid_of, put_mid, post_of, same_len_mid}
use Rattle.std.specs.Io.KnownBytes.{Consumes}
use Rattle.record_bytes.specs.Bytes.{half_at, word_at}
use Rattle.program_support.specs.Input.{ReadFull, ReadSome}
use Rattle.program_support.proofs.InputLaws.{full_step}
use Rattle.replay.specs.Cases.{part_end, ReadSomeOfCase}

-- The length is in the first four bytes
same_word : (a b c d : ℕ) (l m : List ℕ) → word_at (a ∷ b ∷ c ∷ d ∷ l) 0 ≡ word_at (a ∷ b ∷ c ∷ d ∷ m) 0
unfolding word_at half_at
same_word a b c d l m = refl

module _ (before between after : Option (List ℕ)) (n total : ℕ) (zs : List ℕ) (some : ReadSome between after zs) (p : 4 ≤ n) (q : 4 ≤ total) where
  four_read : (a b c d x y z w : ℕ) (rest : List ℕ) → ReadFull before between n (a ∷ b ∷ c ∷ d ∷ []) → n ≤ 4 → total ≡ word_at (a ∷ b ∷ c ∷ d ∷ rest) 0 → total ≤ 4 + length rest
      → length zs ≡ length (take (total - 4) rest) → ReadSomeOfCase before after (x ∷ y ∷ z ∷ w ∷ rest) (put_mid 4 (total - 4) (a ∷ b ∷ c ∷ d ∷ rest) zs)
  four_read a b c d x y z w rest full most is room long =
      let old = a ∷ b ∷ c ∷ d ∷ rest in
      let new = put_mid 4 (total - 4) old zs in
      let four : n ≡ 4 = omega arith in
      let first : Consumes before between (take 4 old) = subst (λ (m : ℕ). Consumes before between (take m (a ∷ b ∷ c ∷ d ∷ []))) four full.read in
      let whole : length zs ≡ total - 4 = long ∙ length-take-le (total - 4) rest (omega arith) in
      let there : leb 4 (4 + some.count) ≡ true = le-leb 4 (4 + some.count) (omega arith) in
      let end : part_end new (4 + some.count) ≡ total = ap (λ (t : Bool). cond t (word_at new 0) 4) there ∙ same_word a b c d _ _ ∙ sym is in
      let size : length new ≡ length old = same_len_mid 4 (total - 4) old zs long in
      let behind : drop (total - 4) (zs ++ drop (total - 4) rest) ≡ drop (total - 4) rest = drop-append-drop (total - 4) rest zs (total - 4) (omega arith) whole in
      let split : total ≡ suc (suc (suc (suc (total - 4)))) = omega arith in
      let kept : drop total new ≡ drop total (x ∷ y ∷ z ∷ w ∷ rest) = subst (λ (m : ℕ). drop m new ≡ drop m (x ∷ y ∷ z ∷ w ∷ rest)) (sym split) behind in
      record {
        count = 4 + some.count;
        short = subst (λ (m : ℕ). 4 + some.count < m) (sym end) (omega (arith, some.short, whole));
        inside = subst (λ (m : ℕ). m ≤ length new) (sym end) (omega (arith, size));
        read = full_step before between after 4 (total - 4) some.count old zs (omega arith) (omega (arith, some.short)) first some.read;
        kept = subst (λ (m : ℕ). drop m new ≡ drop m (x ∷ y ∷ z ∷ w ∷ rest)) (sym end) kept;
      }

  -- The length was read, and the rest was not
  pub rest_failed : (old ys : List ℕ) → 4 ≤ length old → length ys ≡ length (mid_of 0 4 old) → ReadFull before between n ys → n ≤ length ys → total ≡ word_at (ys ++ post_of 0 4 old) 0
      → total ≤ length (ys ++ post_of 0 4 old) → length zs ≡ length (mid_of 4 (total - 4) (ys ++ post_of 0 4 old))
      → ReadSomeOfCase before after old (put_mid 4 (total - 4) (ys ++ post_of 0 4 old) zs)
  rest_failed (x ∷ y ∷ z ∷ w ∷ rest) (a ∷ b ∷ c ∷ d ∷ []) r e full most is room long = four_read a b c d x y z w rest full most is (omega arith) long
  rest_failed (x ∷ y ∷ z ∷ w ∷ rest) (a ∷ b ∷ c ∷ d ∷ f ∷ ys) r e full most is room long = absurd (omega arith)
  rest_failed (x ∷ y ∷ z ∷ w ∷ rest) (a ∷ b ∷ c ∷ []) r e full most is room long = absurd (omega arith)
  rest_failed (x ∷ y ∷ z ∷ w ∷ rest) (a ∷ b ∷ []) r e full most is room long = absurd (omega arith)
  rest_failed (x ∷ y ∷ z ∷ w ∷ rest) (a ∷ []) r e full most is room long = absurd (omega arith)
  rest_failed (x ∷ y ∷ z ∷ w ∷ rest) [] r e full most is room long = absurd (omega arith)
  rest_failed (x ∷ y ∷ z ∷ []) ys r e full most is room long = absurd (omega arith)
  rest_failed (x ∷ y ∷ []) ys r e full most is room long = absurd (omega arith)
  rest_failed (x ∷ []) ys r e full most is room long = absurd (omega arith)
  rest_failed [] ys r e full most is room long = absurd (omega arith)
