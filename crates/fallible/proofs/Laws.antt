-- The error list after one error and after many. Assumes nothing.
use Prim.Native.Nat.{ℕ, zero, suc, ◌+◌, ◌*◌, ◌≤◌, ◌<◌, min}
use mathlib.Core.Path.{◌≡◌, refl, sym, ◌∙◌, ap}
use mathlib.Core.Bool.{Bool, true, false}
use mathlib.Core.List.{List, [], ◌∷◌, ◌++◌}
use native.Mathlib.Omega.{arith}
use lib.Dec.{ltb}
use lib.ListN.{length, get_or}
use lib.Seq.{sets, length-sets}
use borrow.Author.Tests.{lt-ltb, le-ltb, ltb-true, ltb-false}
use Rattle.fallible.specs.declared.Error.{Error}
use Rattle.fallible.specs.Operands.{error_kinds}
use Rattle.fallible.specs.Errors.{error_width, error_words, error_of, error_word, error_at, errors_from, ErrorList, error_list, room, pushed, push_all, HoldsErrors}
use Rattle.fallible.proofs.Stores.{get_d_sets_before, get_d_sets_after, get_d_sets_inside}

-- Document 01 has 29 kinds.
kinds : length error_kinds ≡ 29
kinds = refl

-- The words with one error written at a number.
abbrev pub written : List ℕ → ℕ → Error → List ℕ
written words number error = sets words (error_width * number) (error_words error)

module _ (words : List ℕ) (count : ℕ) (error : Error) where
  pub pushed_room : count < room words → pushed (error_list words count) error ≡ error_list (written words count error) (count + 1)
  unfolding pushed
  pushed_room p =
      let e : min (count + 1) (room words + 1) ≡ count + 1 = omega arith in
      rw (lt-ltb count (room words) p, e)

  pub pushed_full : room words ≤ count → pushed (error_list words count) error ≡ error_list words (room words + 1)
  unfolding pushed
  pushed_full p =
      let e : min (count + 1) (room words + 1) ≡ room words + 1 = omega arith in
      rw (le-ltb count (room words) p, e)

-- After all errors of a list.
abbrev pub words_after : List ℕ → ℕ → List Error → List ℕ
words_after words count errors = (push_all (error_list words count) errors).words

abbrev pub count_after : List ℕ → ℕ → List Error → ℕ
count_after words count errors = (push_all (error_list words count) errors).count

-- One error more, by cases: it is written, or there is no room.
push_cases : (P : ErrorList → Type 0) (words : List ℕ) (count : ℕ) (error : Error)
    → (count < room words → P (error_list (written words count error) (count + 1)))
    → (room words ≤ count → P (error_list words (room words + 1)))
    → P (pushed (error_list words count) error)
push_cases P words count error yes-room no_room = go (ltb count (room words)) refl
  where
    go : (b : Bool) → ltb count (room words) ≡ b → P (pushed (error_list words count) error)
    go true e = let p = ltb-true count (room words) e in rw (pushed_room words count error p) (yes-room p)
    go false e = let p = ltb-false count (room words) e in rw (pushed_full words count error p) (no_room p)

length_written : (words : List ℕ) (count : ℕ) (error : Error) → length (written words count error) ≡ length words
length_written words count error = length-sets words (error_width * count) (error_words error)

-- As many words as before.
pub push_all_length : (errors : List Error) (words : List ℕ) (count : ℕ) → length (words_after words count errors) ≡ length words
unfolding push_all
push_all_length [] words count = refl
push_all_length (error ∷ errors) words count =
    push_cases (λ list. length (push_all list errors).words ≡ length words) words count error
    (λ p. push_all_length errors (written words count error) (count + 1) ∙ length_written words count error)
    (λ p. push_all_length errors words (room words + 1))

-- Each error is counted, up to one past the room.
pub push_all_count : (errors : List Error) (words : List ℕ) (count : ℕ) → count ≤ room words + 1 → count_after words count errors ≡ min (count + length errors) (room words + 1)
unfolding push_all
push_all_count [] words count h = omega arith
push_all_count (error ∷ errors) words count h =
    push_cases (λ list. (push_all list errors).count ≡ min (count + suc (length errors)) (room words + 1)) words count error
    (λ p.
    let l = length_written words count error in
    push_all_count errors (written words count error) (count + 1) (omega arith) ∙ omega arith)
    (λ p. push_all_count errors words (room words + 1) (omega arith) ∙ omega arith)

-- Without room nothing is written.
push_all_full : (errors : List Error) (words : List ℕ) (count : ℕ) → room words ≤ count → words_after words count errors ≡ words
unfolding push_all
push_all_full [] words count h = refl
push_all_full (error ∷ errors) words count h =
    ap (λ (list : ErrorList). (push_all list errors).words) (pushed_full words count error h)
    ∙ push_all_full errors words (room words + 1) (omega arith)

-- Errors that are in the list stay as they are.
pub push_all_before : (errors : List Error) (words : List ℕ) (count i : ℕ) → i < error_width * count → get_or (words_after words count errors) i 0 ≡ get_or words i 0
unfolding push_all
push_all_before [] words count i h = refl
push_all_before (error ∷ errors) words count i h =
    push_cases (λ list. get_or (push_all list errors).words i 0 ≡ get_or words i 0) words count error
    (λ p.
    push_all_before errors (written words count error) (count + 1) i (omega arith)
    ∙ get_d_sets_before 0 (error_words error) words (error_width * count) i h)
    (λ p. ap (λ (w : List ℕ). get_or w i 0) (push_all_full errors words (room words + 1) (omega arith)))

-- Words past the errors stay as they were.
pub push_all_past : (errors : List Error) (words : List ℕ) (count i : ℕ) → error_width * count_after words count errors ≤ i → get_or (words_after words count errors) i 0 ≡ get_or words i 0
unfolding push_all
push_all_past [] words count i h = refl
push_all_past (error ∷ errors) words count i h =
    push_cases (λ list. error_width * (push_all list errors).count ≤ i → get_or (push_all list errors).words i 0 ≡ get_or words i 0) words count error
    (λ p g.
    let l = length_written words count error in
    let n = push_all_count errors (written words count error) (count + 1) (omega arith) in
    push_all_past errors (written words count error) (count + 1) i g
    ∙ get_d_sets_after 0 (error_words error) words (error_width * count) i (omega arith))
    (λ p g. ap (λ (w : List ℕ). get_or w i 0) (push_all_full errors words (room words + 1) (omega arith)))
    h

-- Errors are equal where their words are.
pub error_of_same : (f g : ℕ → ℕ) → ((place : ℕ) → place < error_width → f place ≡ g place) → error_of f ≡ error_of g
error_of_same f g same =
    λ j.
    record {
      kind = same 0 (omega arith) j;
      file = same 1 (omega arith) j;
      line = same 2 (omega arith) j;
      column = same 3 (omega arith) j;
      first = same 4 (omega arith) j;
      second = same 5 (omega arith) j;
      third = same 6 (omega arith) j;
      place = same 7 (omega arith) j;
    }

-- The error at a number depends on no word past it.
error_at_same : (u v : List ℕ) (number : ℕ) → ((i : ℕ) → i < error_width * (number + 1) → get_or u i 0 ≡ get_or v i 0) → error_at u number ≡ error_at v number
unfolding error_at
error_at_same u v number same =
    error_of_same (error_word u number) (error_word v number) (λ k p. same (error_width * number + k) (omega arith))

-- An error that was written is read back.
error_at_written : (words : List ℕ) (count : ℕ) (error : Error) → count < room words → error_at (written words count error) count ≡ error
unfolding error_at
error_at_written words count error p =
    error_of_same (error_word (written words count error) count) (λ k. get_or (error_words error) k 0)
    (λ k q. get_d_sets_inside 0 (error_words error) words (error_width * count) k q (omega arith))

-- Errors that all find room are read back, in order.
pub push_all_listed : (errors : List Error) (words : List ℕ) (count : ℕ) → count + length errors ≤ room words → errors_from (words_after words count errors) count (length errors) ≡ errors
unfolding push_all errors_from
push_all_listed [] words count h = refl
push_all_listed (error ∷ errors) words count h =
    let p : count < room words = omega arith in
    let l = length_written words count error in
    let next = written words count error in
    let stays = error_at_same (words_after next (count + 1) errors) next count (push_all_before errors next (count + 1)) in
    let here = stays ∙ error_at_written words count error p in
    let rest = push_all_listed errors next (count + 1) (omega arith) in
    ap (λ (list : ErrorList). errors_from (push_all list errors).words count (suc (length errors))) (pushed_room words count error p)
    ∙ (λ j. here j ∷ rest j)

-- One of the errors read.
errors_from_at : (words : List ℕ) (many number i : ℕ) (d : Error) → i < many → get_or (errors_from words number many) i d ≡ error_at words (number + i)
unfolding errors_from
errors_from_at words zero number i d p = absurd (omega arith)
errors_from_at words (suc many) number zero d p = let e : number ≡ number + 0 = omega arith in ap (error_at words) e
errors_from_at words (suc many) number (suc i) d p =
    let e : number + 1 + i ≡ number + suc i = omega arith in
    errors_from_at words many (number + 1) i d (omega arith) ∙ ap (error_at words) e

-- Each of them stands at its number.
pub push_all_error : (errors : List Error) (words : List ℕ) (count i : ℕ) (d : Error) → count + length errors ≤ room words → i < length errors → error_at (words_after words count errors) (count + i) ≡ get_or errors i d
push_all_error errors words count i d h p =
    sym (errors_from_at (words_after words count errors) (length errors) count i d p)
    ∙ ap (λ (l : List Error). get_or l i d) (push_all_listed errors words count h)

-- One run of errors after another, and one error after a run.
pub push_all_append : (first second : List Error) (list : ErrorList) → push_all list (first ++ second) ≡ push_all (push_all list first) second
unfolding push_all
push_all_append [] second list = refl
push_all_append (error ∷ first) second list = push_all_append first second (pushed list error)

pub push_all_last : (errors : List Error) (error : Error) (list : ErrorList) → push_all list (errors ++ (error ∷ [])) ≡ pushed (push_all list errors) error
unfolding push_all
push_all_last errors error list = push_all_append errors (error ∷ []) list

-- All errors of a check, from an empty list: they are listed, or the count shows that they are more than there is room for.
module _ (errors : List Error) (words : List ℕ) where
  pub all_counted : count_after words 0 errors ≡ min (length errors) (room words + 1)
  all_counted = push_all_count errors words 0 (omega arith) ∙ omega arith

  pub all_listed : length errors ≤ room words → HoldsErrors words errors (push_all (error_list words 0) errors)
  all_listed h =
      let n : count_after words 0 errors ≡ length errors = all_counted ∙ omega arith in
      record {
        count = n;
        listed = push_all_listed errors words 0 (omega arith);
        past = λ i p. push_all_past errors words 0 i (omega arith);
        lent = push_all_length errors words 0;
      }

  pub too_many : room words < length errors → count_after words 0 errors ≡ room words + 1
  too_many h = all_counted ∙ omega arith
