-- The places of the names, listed in one walk. Assumes nothing.
use Prim.Native.Nat.{ℕ, ◌+◌, ◌≤◌, ◌<◌}
use native.Mathlib.Omega.{arith}
use native.Mathlib.Decide.{dec_le}
use mathlib.Core.Path.{◌≡◌, refl, sym, ap, ◌∙◌, subst}
use mathlib.Core.Bool.{false}
use mathlib.Core.List.{List, [], ◌∷◌, ◌++◌}
use lib.ListN.{length, get_or, set, length-set, get_or-append}
use lib.Seq.{get_or-set_same, get_or-set_other, get_or_at}
use Rattle.names.specs.Names.{stands, Next, NamesEnd}
use Rattle.layout.specs.Layout.{max_bytes}
use Rattle.names.proofs.NameLaws.{Passed, passed_start, passed_on, passed_all, count_done, count_short}
use Rattle.listing.specs.Names.{max_names, NameStands, NamesFound}

-- The first `count` names are listed, and the next stands at `at`, if there is one
pub record Naming (s : List ℕ) (end : ℕ) (before places : List ℕ) (at count : ℕ) : Type 0 where
  pub passed : Passed s end at count
  pub long : length places ≡ length before
  pub few : count < max_names
  pub held : (n : ℕ) → n < count → get_or places n 0 ≡ get_or passed.before n 0
  pub stand : (n : ℕ) → n < count → NameStands s (get_or places n 0)
  pub past : (n : ℕ) → count ≤ n → get_or places n 0 ≡ get_or before n 0

pub names_none : (s places : List ℕ) → length s < 20 → NamesFound s places places 0
names_none s places p =
    let e = count_short s p in
    record {
      listed = record { room = omega arith; at = λ n q. absurd (omega arith); stands = λ n q. absurd (omega arith) };
      many = e;
      few = omega arith;
      past = λ n q. refl;
    }

pub naming_start : (s : List ℕ) (end : ℕ) → NamesEnd s end → 20 ≤ length s → (places : List ℕ) → Naming s end places places 32 0
naming_start s end e p places =
    record {
      passed = passed_start s end e p;
      long = refl;
      few = omega arith;
      held = λ n q. absurd (omega arith);
      stand = λ n q. absurd (omega arith);
      past = λ n q. refl;
    }

module _ (s : List ℕ) (small : length s ≤ max_bytes) (end : ℕ) (ends : NamesEnd s end) (before places : List ℕ) (wide : max_names ≤ length before) where
  module _ (at count : ℕ) (naming : Naming s end before places at count) where
    pub naming_done : stands s at end ≡ false → NamesFound s before places count
    naming_done e =
        let p = passed_all s end at count naming.passed e in
        let c = count_done s end at count naming.passed e in
        record {
          listed = record {
            room = omega (arith, naming.few, naming.long);
            at = λ n q. naming.held n (omega arith) ∙ ap (λ (l : List ℕ). get_or l n 0) (sym p);
            stands = λ n q. naming.stand n (omega arith);
          };
          many = c;
          few = naming.few;
          past = λ n q. naming.past n (omega arith);
        }

    module _ (next : ℕ) (f : Next s at end next) where
      pub count_low : count < length places
      count_low = omega (arith, f.head, f.inside, naming.passed.room, naming.long, ends.inside)

      new : get_or (set places count at) count 0 ≡ at
      new = get_or-set_same places count at 0 count_low

      kept : (n : ℕ) → (n ≡ count → ⊥) → get_or (set places count at) n 0 ≡ get_or places n 0
      kept n q = get_or-set_other places count n at 0 q

      -- The name at `at` is listed, or an earlier one
      by_place : (P : ℕ → Type 0) → P count → ((n : ℕ) → n < count → P n) → (n : ℕ) → n < count + 1 → P n
      by_place P here earlier n q =
          elim (dec_le count n) [
            | yes l ↦ let e : count ≡ n = omega arith in subst P e here
            | no l ↦ earlier n (omega arith)
          ]

      pub naming_more : Naming s end before (set places count at) next (count + 1)
      unfolding passed_on
      naming_more =
          record {
            passed = passed_on s end at count naming.passed next f;
            long = length-set places count at ∙ naming.long;
            few = omega (arith, f.head, f.inside, naming.passed.room, ends.inside);
            held = by_place (λ n. get_or (set places count at) n 0 ≡ get_or (naming.passed.before ++ (at ∷ [])) n 0)
                (new ∙ sym (get_or_at naming.passed.before at [] 0 count naming.passed.many))
                (λ n q. kept n (λ e. omega arith) ∙ naming.held n q ∙ sym (get_or-append naming.passed.before (at ∷ []) 0 n (omega (arith, naming.passed.many))));
            stand = by_place (λ n. NameStands s (get_or (set places count at) n 0))
                (subst (NameStands s) (sym new) (record { head = omega (arith, f.is, f.head); whole = omega (arith, f.is, f.inside, ends.inside) }))
                (λ n q. subst (NameStands s) (sym (kept n (λ e. omega arith))) (naming.stand n q));
            past = λ n q. kept n (λ e. omega arith) ∙ naming.past n (omega arith);
          }
