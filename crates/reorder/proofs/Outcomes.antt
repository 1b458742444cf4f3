-- What `shuffle` answers, and what it has then written. Assumes nothing.
use Prim.Native.Nat.{ℕ, ◌≤◌, ◌<◌}
use mathlib.Core.Path.{◌≡◌, refl, sym, ◌∙◌, ap, subst}
use mathlib.Core.Bool.{Bool}
use mathlib.Core.List.{List, ◌++◌, Permᴰ}
use mathlib.Core.Option.{Option, none, some}
use native.Mathlib.Omega.{arith}
use lib.Dec.{ltb}
use lib.ListN.{length, take, drop}
use lib.Seq.{length-take-le, take_at}
use borrow.Author.Tests.{lt-ltb, le-ltb}
use Rattle.fallible.specs.Outcome.{Outcome, refused, accepted, or_next, outcome_after}
use Rattle.std.proofs.Common.{Err}
use Rattle.refusal.specs.Refusal.{number_of, place_of}
use Rattle.layout.specs.Layout.{Layout, Good, layout_of, layout_refusal, layout_tests, cause_of}
use Rattle.layout.specs.declared.LayoutError.{LayoutError}
use Rattle.layout.specs.declared.LayoutError.TheVariants.{TooLong, Fault, TooDeep}
use Rattle.layout.proofs.LayoutLaws.{only_good}
use Rattle.meaning.specs.Promise.{refuse_if}
use Rattle.meaning.proofs.Permutation.{length_permuted}
use Rattle.reorder.specs.Order.{arranged, permuted_by, shuffled_module, PlacesListed, Places, refusal, Shuffled}
use Rattle.reorder.proofs.Exchanges.{permuted_by_lem}

-- The places in the order of the number, before the words past them
module _ (s words places : List ℕ) (count number : ℕ) (l : PlacesListed s words count) where
  pub listed_count : count ≡ length (take count words)
  listed_count = sym (length-take-le count words l.inside)

  module _ (e : places ≡ permuted_by number (take count words)) where
    order : Permᴰ (take count words) places
    order = subst (Permᴰ (take count words)) (sym e) (permuted_by_lem number (take count words))

    taken : take count (places ++ drop count words) ≡ places
    taken = take_at places (drop count words) count (sym (listed_count ∙ length_permuted order))

    pub permuted_count : count ≡ length (take count (places ++ drop count words))
    permuted_count = listed_count ∙ length_permuted order ∙ ap length (sym taken)

    pub permuted_places : layout_of s ≡ Good → Places s (take count (places ++ drop count words))
    permuted_places good = subst (Places s) (sym taken) (record { layout = good; order = subst (λ (x : List ℕ). Permᴰ x places) l.are order })

    -- what `arrange` has written then
    pub written : (before after : List ℕ) → after ≡ arranged s (take count (places ++ drop count words)) ++ drop (length s) before
        → after ≡ shuffled_module s number ++ drop (length s) before
    unfolding shuffled_module
    written before after w =
        w ∙ ap (λ (x : List ℕ). arranged s x ++ drop (length s) before) (taken ∙ e ∙ ap (permuted_by number) l.are)

-- Turned back, or written
refused_never : {cause place : ℕ} → ◌≡◌ {A = Outcome Unit} (refused cause place) (accepted tt) → ⊥
refused_never e = let z : ◌≡◌ {A = ℕ} 0 1 = cc in omega arith

pub good_layout : (input : List ℕ) → layout_refusal Good ≡ layout_tests input → layout_of input ≡ Good
unfolding layout_refusal
good_layout input h = only_good (layout_of input) (sym h)

module _ (input : List ℕ) (number : ℕ) (before : List ℕ) where
  turned_back_lem : (cause place : ℕ) → refusal input (length before) ≡ some (cause, place) → Shuffled input number before before (refused cause place)
  turned_back_lem cause place e =
      record {
        answers = ap (λ (x : Option (ℕ × ℕ)). outcome_after x (accepted tt)) (sym e);
        untouched = λ _ _ _. refl;
        written = λ z. absurd (refused_never z);
      }

  -- Tests 1 to 3
  pub bad_layout : (e : LayoutError) → layout_refusal (Err e) ≡ layout_tests input → Shuffled input number before before (refused (number_of (cause_of e)) (place_of (cause_of e)))
  unfolding layout_refusal
  bad_layout e h = go e (ap (λ (x : Option (ℕ × ℕ)). or_next x (refuse_if (ltb (length before) (length input)) 5)) (sym h))
    where
      go : (e : LayoutError) → refusal input (length before) ≡ or_next (layout_refusal (Err e)) (refuse_if (ltb (length before) (length input)) 5)
          → Shuffled input number before before (refused (number_of (cause_of e)) (place_of (cause_of e)))
      go TooLong q = turned_back_lem 1 0 q
      go (Fault p) q = turned_back_lem 2 p q
      go (TooDeep p) q = turned_back_lem 3 p q

  -- Test 5
  module _ (e : layout_of input ≡ Good) where
    by_room : refusal input (length before) ≡ refuse_if (ltb (length before) (length input)) 5
    unfolding layout_refusal
    by_room = ap (λ (l : Layout). or_next (layout_refusal l) (refuse_if (ltb (length before) (length input)) 5)) e

    pub short_output : length before < length input → Shuffled input number before before (refused 5 0)
    short_output h = turned_back_lem 5 0 (by_room ∙ ap (λ (b : Bool). refuse_if b 5) (lt-ltb (length before) (length input) h))

    pub all_written : (after : List ℕ) → length input ≤ length before → after ≡ shuffled_module input number ++ drop (length input) before
        → Shuffled input number before after (accepted tt)
    all_written after h w =
        let none_refuses : refusal input (length before) ≡ none = by_room ∙ ap (λ (b : Bool). refuse_if b 5) (le-ltb (length before) (length input) h) in
        record {
          answers = ap (λ (x : Option (ℕ × ℕ)). outcome_after x (accepted tt)) (sym none_refuses);
          untouched = λ cause place z. absurd (refused_never (sym z));
          written = λ _. w;
        }
