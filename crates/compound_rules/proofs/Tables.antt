-- The table of names: what it says of each name while and after the fields are counted into it. Assumes nothing.
use Prim.Native.Nat.{ℕ, zero, suc, ◌+◌, ◌≤◌, ◌<◌, min}
use mathlib.Core.Path.{◌≡◌, refl, sym, ap, ◌∙◌, subst}
use mathlib.Core.Bool.{Bool, true, false, cond}
use mathlib.Core.List.{List, [], ◌∷◌}
use native.Mathlib.Omega.{arith}
use lib.Dec.{eqb}
use lib.ListN.{length, get_or, replicate, length-set, length-replicate, get_or-replicate}
use lib.Seq.{get_or-set_same, get_or-set_other}
use borrow.Author.Tests.{eqb-true, eqb-false}
use Rattle.record_bytes.specs.Bytes.{Read, word_at}
use Rattle.trees.specs.Tree.{CompoundField}
use Rattle.meaning.specs.Compound.{occurrences}
use Rattle.call_rules.specs.Lists.{RecordsListed, Chain}
use Rattle.call_rules.proofs.Chains.{first, next_place}
use Rattle.compound_rules.specs.Fields.{FieldsAt, up_to_two, entries, with_name, Tallied}

-- `count_names`: so many of the fields before `at` have the name, and its entry says so
pub record Seen (s : List ℕ) (stop at : ℕ) (table : List ℕ) (name : ℕ) (fields : List CompoundField) : Type 0 where
  pub seen : ℕ
  pub rest : List CompoundField
  pub stand : FieldsAt s stop rest at
  pub total : occurrences name fields ≡ seen + occurrences name rest
  pub entry : get_or table name 0 ≡ min seen 2

pub record Tallying (s : List ℕ) (from stop at : ℕ) (table : List ℕ) : Type 0 where
  pub listed : RecordsListed s at stop
  pub long : length table ≡ entries
  pub each : (name : ℕ) → name < length table → (fields : List CompoundField) → FieldsAt s stop fields from → Seen s stop at table name fields

pub tallying_start : (s : List ℕ) (from stop : ℕ) (table : List ℕ) → table ≡ replicate entries 0 → RecordsListed s from stop → Tallying s from stop from table
tallying_start s from stop table z l =
    record {
      listed = l;
      long = long;
      each = λ name p fields h. record {
        seen = 0;
        rest = fields;
        stand = h;
        total = omega arith;
        entry = ap (λ (x : List ℕ). get_or x name 0) z ∙ get_or-replicate entries name 0 0 (omega (arith, p, long));
      };
    }
  where
    long : length table ≡ entries
    long = ap length z ∙ length-replicate {A = ℕ} entries 0

module _ (s : List ℕ) (from stop at : ℕ) (table : List ℕ) (i : Tallying s from stop at table) where
  module _ (p : at < stop) where
    pub tally_word : at + 16 + 4 ≤ length s
    tally_word = let f = first s at stop i.listed p in omega (arith, f.slot, f.ends, i.listed.long)

    pub tallying_on : (word : ℕ) → Read (word_at s (at + 16)) 32 word → (after : List ℕ) → after ≡ with_name table word → (len : ℕ) → Read (word_at s at) 32 len
        → Tallying s from stop (at + len) after
    unfolding FieldsAt occurrences
    tallying_on word ew after ea len el =
        record {
          listed = subst (λ (x : ℕ). RecordsListed s x stop) (next_place s at stop i.listed p len el) (first s at stop i.listed p).next;
          long = same ∙ i.long;
          each = λ name q fields h. step name fields (subst (λ (n : ℕ). name < n) same q) (i.each name (subst (λ (n : ℕ). name < n) same q) fields h);
        }
      where
        same : length after ≡ length table
        same = ap length ea ∙ length-set table word (up_to_two (get_or table word 0))

        own : (name : ℕ) → name < length table → word ≡ name → get_or after name 0 ≡ up_to_two (get_or table name 0)
        own name q e =
            ap (λ (x : List ℕ). get_or x name 0) (ea ∙ ap (with_name table) e) ∙ get_or-set_same table name (up_to_two (get_or table name 0)) 0 q

        other : (name : ℕ) → (word ≡ name → ⊥) → get_or after name 0 ≡ get_or table name 0
        other name d = ap (λ (x : List ℕ). get_or x name 0) ea ∙ get_or-set_other table word name (up_to_two (get_or table word 0)) 0 (λ e. d (sym e))

        go : (name n seen : ℕ) → name < length table → get_or table name 0 ≡ min seen 2 → (b : Bool) → eqb word name ≡ b
            → (seen' : ℕ) × (seen + cond b (suc n) n ≡ seen' + n) × (get_or after name 0 ≡ min seen' 2)
        go name n seen q e true t = (seen + 1, omega arith, omega (arith, e, own name q (eqb-true word name t)))
        go name n seen q e false t = (seen, refl, other name (eqb-false word name t) ∙ e)

        step : (name : ℕ) (fields : List CompoundField) → name < length table → Seen s stop at table name fields → Seen s stop (at + len) after name fields
        step name fields q x = along x.rest x.stand x.total
          where
            along : (rest : List CompoundField) → FieldsAt s stop rest at → occurrences name fields ≡ x.seen + occurrences name rest → Seen s stop (at + len) after name fields
            along [] h z = absurd (omega (arith, h))
            along (f ∷ rest) h z =
                let g = go name (occurrences name rest) x.seen q x.entry (eqb word name) refl in
                record {
                  seen = g.0;
                  rest = rest;
                  stand = subst (λ (y : ℕ). FieldsAt s stop rest y) (next_place s at stop i.listed p len el) h.2;
                  total = z ∙ ap (λ (n : ℕ). x.seen + cond (eqb n name) (suc (occurrences name rest)) (occurrences name rest)) (sym (ew.is ∙ h.1.name)) ∙ g.1;
                  entry = g.2;
                }

  pub tallying_done : stop ≤ at → Tallied s from stop table
  unfolding FieldsAt occurrences
  tallying_done p = record { entry = λ name q fields h. done name fields (i.each name q fields h) }
    where
      done : (name : ℕ) (fields : List CompoundField) → Seen s stop at table name fields → get_or table name 0 ≡ min (occurrences name fields) 2
      done name fields x = none x.rest x.stand x.total
        where
          none : (rest : List CompoundField) → FieldsAt s stop rest at → occurrences name fields ≡ x.seen + occurrences name rest → get_or table name 0 ≡ min (occurrences name fields) 2
          none [] h z = omega (arith, z, x.entry)
          none (f ∷ rest) h z = absurd (omega (arith, h.0))

-- A list ends where it begins, or later
pub in_order : (s : List ℕ) (from stop : ℕ) → RecordsListed s from stop → from ≤ stop
unfolding Chain
in_order s from stop l = go l.many l.chain
  where
    go : (n : ℕ) → Chain s n from stop → from ≤ stop
    go zero c = omega (arith, c)
    go (suc n) c = omega (arith, c.0, c.1)
