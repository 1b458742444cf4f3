-- Records that follow each other, and what their slots show. Assumes nothing.
use Prim.Native.Nat.{ℕ, zero, suc, ◌+◌, ◌-◌, ◌^◌, ◌≤◌, ◌<◌}
use mathlib.Core.Path.{◌≡◌, refl, ap, subst}
use mathlib.Core.Bool.{true}
use mathlib.Core.List.{List}
use native.Mathlib.Omega.{arith}
use lib.ListN.{length}
use borrow.Author.Tests.{eq-eqb}
use Rattle.types.specs.Ty.{Ty, end, node, is, first_of, second_of, cell_count, argument_kind}
use Rattle.types.specs.Table.{IsType}
use Rattle.record_bytes.specs.Bytes.{Read, word_at}
use Rattle.layout.specs.Layout.{max_bytes, stop_at}
use Rattle.walk.specs.Words.{slot_place, slot_end}
use Rattle.walk.specs.Represents.{Lent, Grew, Typing}
use Rattle.walk.proofs.Laws.{typing_later}
use Rattle.call_rules.specs.Lists.{Chain, SlotTypes, RecordsListed, FilledAt, SlotsShow, CountsRecords}

-- The first record of a list that is not empty
pub record First (s : List ℕ) (at stop : ℕ) : Type 0 where
  pub slot : slot_end at ≤ stop_at s at
  pub ends : stop_at s at ≤ stop
  pub next : RecordsListed s (stop_at s at) stop

pub first : (s : List ℕ) (at stop : ℕ) → RecordsListed s at stop → at < stop → First s at stop
unfolding Chain
first s at stop l p = go l.many l.chain
  where
    go : (n : ℕ) → Chain s n at stop → First s at stop
    go zero c = absurd (omega (arith, c))
    go (suc n) c = record { slot = c.0; ends = c.1; next = record { many = n; chain = c.2; long = l.long; few = l.few } }

-- and its slot, which stands at `place` of it
pub record FirstFilled (place : ℕ → ℕ) (w : List ℕ) (c : ℕ) (s o : List ℕ) (at stop : ℕ) : Type 0 where
  pub slot : place at + 4 ≤ stop_at s at
  pub is : IsType w c (word_at o (place at))
  pub next : FilledAt place w c s o (stop_at s at) stop

pub first_filled : {place : ℕ → ℕ} (w : List ℕ) (c : ℕ) (s o : List ℕ) (at stop : ℕ) → FilledAt place w c s o at stop → at < stop → FirstFilled place w c s o at stop
unfolding Chain SlotTypes
first_filled {place} w c s o at stop f p = go f.listed.many f.listed.chain f.types
  where
    go : (n : ℕ) → Chain s n at stop → SlotTypes place w c s o n at → FirstFilled place w c s o at stop
    go zero h t = absurd (omega (arith, h))
    go (suc n) h t =
        record {
          slot = t.0;
          is = t.1;
          next = record { listed = record { many = n; chain = h.2; long = f.listed.long; few = f.listed.few }; types = t.2; room = f.room };
        }

-- One filled slot more, and none
pub filled_more : (place : ℕ → ℕ) (w : List ℕ) (c : ℕ) (s o : List ℕ) (at stop : ℕ) → IsType w c (word_at o (place at)) → slot_end at ≤ stop_at s at → place at + 4 ≤ stop_at s at → stop_at s at ≤ stop
    → FilledAt place w c s o (stop_at s at) stop → FilledAt place w c s o at stop
unfolding Chain SlotTypes
filled_more place w c s o at stop is head slot fits f =
    record {
      listed = record { many = suc f.listed.many; chain = (head, fits, f.listed.chain); long = f.listed.long; few = f.listed.few };
      types = (slot, is, f.types);
      room = f.room;
    }

pub filled_none : (place : ℕ → ℕ) (w : List ℕ) (c : ℕ) (s o : List ℕ) (at stop : ℕ) → at ≡ stop → stop ≤ length s → length s ≤ max_bytes → stop ≤ length o → FilledAt place w c s o at stop
unfolding Chain SlotTypes
filled_none place w c s o at stop e long few room = record { listed = record { many = 0; chain = e; long = long; few = few }; types = tt; room = room }

-- What a turn of a loop over the records needs
module _ (s : List ℕ) (at stop : ℕ) (l : RecordsListed s at stop) (p : at < stop) where
  pub head_inside : at + 4 ≤ length s
  head_inside = let f = first s at stop l p in omega (arith, f.slot, f.ends, l.long)

  -- Cited by nothing here now
  pub slot_small : at + 16 < 2 ^ 64
  slot_small = let f = first s at stop l p in omega (arith, f.slot, f.ends, l.long, l.few)

  module _ (len : ℕ) (e : Read (word_at s at) 32 len) where
    -- Cited by nothing here now
    pub next_small : at + len < 2 ^ 64
    next_small = let f = first s at stop l p in omega (arith, f.slot, f.ends, l.long, l.few, e.is)

    pub next_less : stop - (at + len) < stop - at
    next_less = let f = first s at stop l p in omega (arith, f.slot, f.ends, e.is)

    pub next_place : stop_at s at ≡ at + len
    next_place = omega (arith, e.is)

-- The slots

pub record FirstShown (s o : List ℕ) (stop : ℕ) (C : Lent) (cells : Ty) (at : ℕ) : Type 0 where
  pub kind : is argument_kind cells ≡ true
  pub typing : Typing C (word_at o (slot_place at)) (first_of cells)
  pub rest : SlotsShow s o stop C (second_of cells) (stop_at s at)

module _ (s o : List ℕ) (stop : ℕ) where
  pub first_shown : (C : Lent) (cells : Ty) (at : ℕ) → SlotsShow s o stop C cells at → at < stop → FirstShown s o stop C cells at
  unfolding SlotsShow
  first_shown C end at h p = absurd (omega (arith, h))
  first_shown C (node k t rest z n) at h p = record { kind = eq-eqb k 13 h.0; typing = h.2; rest = h.3 }

  pub none_shown : (C : Lent) (cells : Ty) (at : ℕ) → SlotsShow s o stop C cells at → stop ≤ at → cells ≡ end
  unfolding SlotsShow
  none_shown C end at h p = refl
  none_shown C (node k t rest z n) at h p = absurd (omega (arith, h.1))

  pub shown_later : (C C' : Lent) (cells : Ty) (at : ℕ) → Grew C C' → SlotsShow s o stop C cells at → SlotsShow s o stop C' cells at
  unfolding SlotsShow
  shown_later C C' end at g h = h
  shown_later C C' (node k t rest z n) at g h = (h.0, h.1, typing_later g h.2, shown_later C C' rest (stop_at s at) g h.3)

  -- One cell for each record
  pub cells_counted : (C : Lent) (cells : Ty) (n at : ℕ) → SlotsShow s o stop C cells at → Chain s n at stop → cell_count cells ≡ n
  unfolding SlotsShow Chain cell_count
  cells_counted C end zero at h c = refl
  cells_counted C end (suc n) at h c = absurd (omega (arith, h, c.0, c.1))
  cells_counted C (node k t rest z m) zero at h c = absurd (omega (arith, c, h.1))
  cells_counted C (node k t rest z m) (suc n) at h c = ap (λ (x : ℕ). suc x) (cells_counted C rest n (stop_at s at) h.3 c.2)

-- Counting

pub record Counting (s : List ℕ) (from stop at count : ℕ) : Type 0 where
  pub listed : RecordsListed s at stop
  pub few : count ≤ at
  pub total : (n : ℕ) → Chain s n from stop → (m : ℕ) × Chain s m at stop × (n ≡ count + m)

pub counting_start : (s : List ℕ) (from stop : ℕ) → RecordsListed s from stop → Counting s from stop from 0
counting_start s from stop l = record { listed = l; few = omega arith; total = λ n c. (n, c, omega arith) }

module _ (s : List ℕ) (from stop at count : ℕ) (i : Counting s from stop at count) where
  -- Cited by nothing here now
  pub count_small : at < stop → count + 1 < 2 ^ 32
  count_small p = omega (arith, i.few, i.listed.long, i.listed.few)

  pub counting_on : at < stop → (len : ℕ) → Read (word_at s at) 32 len → Counting s from stop (at + len) (count + 1)
  unfolding Chain
  counting_on p len e =
      let f = first s at stop i.listed p in
      let q = next_place s at stop i.listed p len e in
      record {
        listed = subst (λ (x : ℕ). RecordsListed s x stop) q f.next;
        few = omega (arith, i.few, f.slot, e.is);
        total = λ n c. step n (i.total n c);
      }
    where
      step : (n : ℕ) → ((m : ℕ) × Chain s m at stop × (n ≡ count + m)) → (m : ℕ) × Chain s m (at + len) stop × (n ≡ count + 1 + m)
      step n (zero, c, z) = absurd (omega (arith, c))
      step n (suc m, c, z) = (m, subst (λ (x : ℕ). Chain s m x stop) (next_place s at stop i.listed p len e) c.2, omega (arith, z))

  pub counting_done : stop ≤ at → CountsRecords s from stop count
  unfolding Chain
  counting_done p = record { count = λ n c. done n (i.total n c) }
    where
      done : (n : ℕ) → ((m : ℕ) × Chain s m at stop × (n ≡ count + m)) → count ≡ n
      done n (zero, c, z) = omega (arith, z)
      done n (suc m, c, z) = absurd (omega (arith, c.0, c.1))
