-- Records filled from words. Assumes nothing.
use Prim.Native.Nat.{ℕ, zero, suc, ◌+◌, ◌*◌, ◌≤◌, ◌<◌}
use mathlib.Core.Path.{◌≡◌, refl, sym, ◌∙◌, ap}
use mathlib.Core.List.{List, [], ◌∷◌, ◌++◌, append-nil}
use native.Mathlib.Omega.{arith}
use native.Mathlib.Nat.{not-suc-le-zero, le_of_suc-le-suc}
use lib.ListN.{length, get_or, set, take, drop, replicate, length-append, length-drop, get_or-replicate}
use lib.Seq.{drop-length, get_or-take}
use Rattle.fallible.specs.Errors.{error_width, error_of, error_word, error_at, errors_from}
use Rattle.fallible.specs.declared.Error.{Error}
use Rattle.fallible.proofs.Laws.{error_of_same}
use Rattle.records.specs.Records.{records_from, zero_record}

-- The words of an error, read one by one.
pub error_read : (words : List ℕ) (number : ℕ)
    → record {
      kind = get_or words (error_width * number) 0;
      file = error_word words number 1;
      line = error_word words number 2;
      column = error_word words number 3;
      first = error_word words number 4;
      second = error_word words number 5;
      third = error_word words number 6;
      place = error_word words number 7;
    }
    ≡ error_at words number
unfolding error_at
error_read words number =
    let e : error_width * number ≡ error_width * number + 0 = omega arith in
    λ j.
    record {
      kind = get_or words (e j) 0;
      file = error_word words number 1;
      line = error_word words number 2;
      column = error_word words number 3;
      first = error_word words number 4;
      second = error_word words number 5;
      third = error_word words number 6;
      place = error_word words number 7;
    }

-- As many as asked for, and as many records as were lent.
pub errors_long : (words : List ℕ) (number many : ℕ) → length (errors_from words number many) ≡ many
unfolding errors_from
errors_long words number zero = refl
errors_long words number (suc many) = ap suc (errors_long words (number + 1) many)

-- Cited by nothing here now
pub records_long : (words : List ℕ) (count : ℕ) (records : List Error) → count ≤ length records → length (records_from words count records) ≡ length records
records_long words count records p =
    let a = errors_long words 0 count in
    let b = length-drop count records in
    length-append (errors_from words 0 count) (drop count records) ∙ omega arith

pub records_none : (words : List ℕ) (records : List Error) → records_from words 0 records ≡ records
unfolding errors_from
records_none words records = refl

-- A store of the next error.
next_record : (words : List ℕ) (number count : ℕ) (records : List Error) → count < length records
    → set (errors_from words number count ++ drop count records) count (error_at words (number + count)) ≡ errors_from words number (suc count) ++ drop (suc count) records
unfolding errors_from
next_record words number count [] p = absurd (not-suc-le-zero p)
next_record words number zero (r ∷ records) p =
    let e : number + zero ≡ number = omega arith in
    ap (λ (k : ℕ). error_at words k ∷ records) e
next_record words number (suc count) (r ∷ records) p =
    let e : number + suc count ≡ number + 1 + count = omega arith in
    ap (λ (k : ℕ). error_at words number ∷ set (errors_from words (number + 1) count ++ drop count records) count (error_at words k)) e
    ∙ ap (λ (l : List Error). error_at words number ∷ l) (next_record words (number + 1) count records (le_of_suc-le-suc p))

pub records_more : (words : List ℕ) (count : ℕ) (records filled : List Error) (e : Error) → count < length records → filled ≡ records_from words count records → e ≡ error_at words count
    → set filled count e ≡ records_from words (count + 1) records
records_more words count records filled e p f is =
    let z : 0 + count ≡ count = omega arith in
    let n : suc count ≡ count + 1 = omega arith in
    (λ i. set (f i) count ((is ∙ ap (error_at words) (sym z)) i)) ∙ next_record words 0 count records p ∙ ap (λ (k : ℕ). records_from words k records) n

-- Errors of words that are enough for them.
pub errors_of_front : (words : List ℕ) (front number many : ℕ) → error_width * (number + many) ≤ front → errors_from (take front words) number many ≡ errors_from words number many
unfolding errors_from error_at
errors_of_front words front number zero p = refl
errors_of_front words front number (suc many) p =
    let here = error_of_same (error_word (take front words) number) (error_word words number) (λ k q. get_or-take front words (error_width * number + k) 0 (omega arith)) in
    let rest = errors_of_front words front (number + 1) many (omega arith) in
    λ j. here j ∷ rest j

-- Errors of words that are all 0.
pub errors_of_zeros : (long number many : ℕ) → error_width * (number + many) ≤ long → errors_from (replicate long 0) number many ≡ replicate many zero_record
unfolding errors_from error_at
errors_of_zeros long number zero p = refl
errors_of_zeros long number (suc many) p =
    let here : error_of (error_word (replicate long 0) number) ≡ zero_record = error_of_same (error_word (replicate long 0) number) (λ k. 0) (λ k q. get_or-replicate long (error_width * number + k) 0 0 (omega arith)) in
    let rest = errors_of_zeros long (number + 1) many (omega arith) in
    λ j. here j ∷ rest j

pub records_all : (words : List ℕ) (records : List Error) → records_from words (length records) records ≡ errors_from words 0 (length records)
records_all words records = ap (λ (l : List Error). errors_from words 0 (length records) ++ l) (drop-length records) ∙ append-nil (errors_from words 0 (length records))
