-- Records by their places: a record with no fault is a node of the tree, and the records after it are the rest. Assumes nothing.
use Prim.Native.Nat.{ℕ, zero, suc, ◌+◌, ◌-◌, ◌≤◌, ◌<◌}
use mathlib.Core.Path.{◌≡◌, refl, sym, ◌∙◌, ap}
use mathlib.Core.Bool.{Bool, true, false, not, ◌&&◌}
use mathlib.Core.List.{List}
use lib.ListN.{length}
use lib.Dec.{leb}
use native.Mathlib.Omega.{arith}
use borrow.Author.Tests.{leb-true, lt-leb}
use Rattle.shape.specs.Shape.{must_be}
use Rattle.shape.specs.declared.Holds.TheVariants.{Nothing}
use Rattle.shape.proofs.ShapeLaws.{and_both}
use Rattle.record_bytes.specs.Bytes.{word_at}
use Rattle.names.specs.Names.{name_count, stands}
use Rattle.layout.specs.Layout.{kind_at, shape_at, start_at, stop_at, is_bad}
use Rattle.node.specs.Fine.{FineRecord}
use Rattle.trees.specs.Record.{Records, no_records, go_on, record_with, records_with, records_at, holds_free_bytes}
use Rattle.shape.proofs.Cases.{one_less}
use Rattle.layout.proofs.LayoutLaws.{known, head_good, record_step}
use Rattle.node.proofs.Open.{headed, opened, fine_stands}

-- what stands is at least a head long
stands_long : (s : List ℕ) (at end : ℕ) → stands s at end ≡ true → (at + 16 ≤ stop_at s at) × (stop_at s at ≤ end)
unfolding stands
stands_long s at end e =
    let a = and_both (leb (at + 16) end && leb 16 (word_at s at)) (leb (at + word_at s at) end) e in
    let b = and_both (leb (at + 16) end) (leb 16 (word_at s at)) a.0 in
    (omega (arith, leb-true 16 (word_at s at) b.1), leb-true (at + word_at s at) end a.1)

-- Enough fuel is enough
pub enough : (n m : ℕ) (f : ℕ → ℕ → Records) (s : List ℕ) (at end : ℕ) → end - at < n → end - at < m → records_with n f s at end ≡ records_with m f s at end
unfolding records_with
enough zero m f s at end p q = absurd (omega arith)
enough (suc n) zero f s at end p q = absurd (omega arith)
enough (suc n) (suc m) f s at end p q = go (stands s at end) refl (enough n m f s (stop_at s at) end)
  where
    go : (b : Bool) → stands s at end ≡ b
        → (end - stop_at s at < n → end - stop_at s at < m → records_with n f s (stop_at s at) end ≡ records_with m f s (stop_at s at) end)
        → go_on b (λ _. record_with f s at (records_with n f s (stop_at s at) end)) no_records ≡ go_on b (λ _. record_with f s at (records_with m f s (stop_at s at) end)) no_records
    go false e rest = refl
    go true e rest =
        let l = stands_long s at end e in
        let i : end - stop_at s at < n = omega (arith, l.0, l.1) in
        let j : end - stop_at s at < m = omega (arith, l.0, l.1) in
        ap (record_with f s at) (rest i j)

-- The same record in a list that ends elsewhere
pub fine_in : (s : List ℕ) (d at end end' c : ℕ) → FineRecord s d at end c → stop_at s at ≤ end' → end' ≤ length s → FineRecord s d at end' c
fine_in s d at end end' c f p q =
    let n = name_count s in
    let due = must_be c Nothing in
    let h = headed n s d at end due f.ok in
    let k = known n s at end due h.head h.is in
    let l = k.long in
    let g = head_good n s at end' due (word_at s at) refl (omega arith) (kind_at s at) (shape_at s at) refl refl (omega arith) l true (sym k.class) refl
    (is_bad n s 1 (shape_at s at).fields (shape_at s at).first (at + 16)) refl k.first
    (is_bad n s 2 (shape_at s at).fields (shape_at s at).second (at + 20)) refl h.head.next k.second k.after in
    record {
      part = record { starts = omega arith; ends = q; few = f.part.few };
      ok = record_step n s d at end' due h.deep ∙ rw (← g, ← k.starts, ← k.stops, ← k.inner) h.inner;
    }

-- alone in its own bytes
pub fine_own : (s : List ℕ) (d at end c : ℕ) → FineRecord s d at end c → FineRecord s d at (stop_at s at) c
fine_own s d at end c f = let o = opened s d at end c f in fine_in s d at end (stop_at s at) c f (omega arith) (omega (arith, o.room, o.ends))

-- in the whole file
pub fine_wide : (s : List ℕ) (d at end c : ℕ) → FineRecord s d at end c → FineRecord s d at (length s) c
fine_wide s d at end c f = let o = opened s d at end c f in fine_in s d at end (length s) c f (omega (arith, o.room, o.ends)) (omega arith)

-- The children of a record, which has none where bytes follow its fields
abbrev pub children : List ℕ → (depth at : ℕ) → Records
children s d at = go_on (not (holds_free_bytes (kind_at s at))) (λ _. records_at s (d - 1) (start_at s at) (stop_at s at)) no_records

-- A record with no fault and the records after it
pub records_cons : (s : List ℕ) (d at end c : ℕ) → FineRecord s d at end c → records_at s d at end ≡ record_with (records_at s (d - 1)) s at (records_at s d (stop_at s at) end)
unfolding records_at records_with
records_cons s d at end c f =
    let o = opened s d at end c f in
    let e = one_less d o.deep in
    let x = fine_stands s d at end c f in
    let l = stands_long s at end x in
    let r : records_with (length s) (records_at s (d - 1)) s (stop_at s at) end ≡ records_at s d (stop_at s at) end =
    enough (length s) (suc (length s)) (records_at s (d - 1)) s (stop_at s at) end (omega (arith, l.0, l.1, o.ends)) (omega (arith, o.ends)) ∙ ap (λ (m : ℕ). records_at s m (stop_at s at) end) (sym e) in
    ap (λ (m : ℕ). records_at s m at end) e ∙ rw x (ap (record_with (records_at s (d - 1)) s at) r)

-- No records where a list ends
pub records_end : (s : List ℕ) (d end : ℕ) → records_at s d end end ≡ no_records
unfolding records_at records_with stands
records_end s zero end = refl
records_end s (suc d) end = rw (lt-leb (end + 16) end (omega arith))
