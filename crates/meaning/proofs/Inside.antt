-- A literal lies in its item: every error of pass 2 about one has a place before the item's end. Assumes nothing.
use Prim.Native.Nat.{ℕ, zero, suc, ◌+◌, ◌≤◌, ◌<◌}
use mathlib.Core.Path.{◌≡◌, refl}
use mathlib.Core.Bool.{Bool, true, false, not, ◌&&◌}
use mathlib.Core.List.{List}
use native.Mathlib.Omega.{arith}
use lib.Dec.{leb}
use lib.ListN.{length}
use borrow.Author.Tests.{leb-true}
use Rattle.shape.specs.Shape.{shape_of}
use Rattle.shape.specs.declared.Rule.{Rule}
use Rattle.shape.specs.declared.Rule.TheVariants.{Unused, Slot, Name, Any, Base, Flag, Operator, Comparison, Flags}
use Rattle.shape.proofs.ShapeLaws.{and_both}
use Rattle.record_bytes.specs.Bytes.{word_at}
use Rattle.names.specs.Names.{stands}
use Rattle.layout.specs.Layout.{kind_at, start_at, stop_at}
use Rattle.trees.specs.Record.{RecordHead, Records, no_records, record_then, next, go_on, holds_free_bytes, record_head_at, record_with, records_with, records_at, item_tree}
use Rattle.meaning.specs.Context.{ModuleContext}
use Rattle.meaning.specs.Module.{item_errors}
use Rattle.meaning.proofs.TreeWords.{InField, InNames, InStruct, InRecord, InRecords, InItem, item}
use Rattle.meaning.proofs.ErrorWords.{Errors, in_pass_2}

-- Nothing is asked of names and operators
abbrev pub Free : ℕ → Type 0
Free n = Unit {0}

module _ (n : ℕ) where
  abbrev Before : ℕ → Type 0
  Before place = place < n

  free_field : (r : Rule) (v : ℕ) → InField Free Free Before r v
  free_field Unused v = tt
  free_field Slot v = tt
  free_field Name v = tt
  free_field Any v = tt
  free_field Base v = tt
  free_field Flag v = tt
  free_field Operator v = tt
  free_field Comparison v = tt
  free_field Flags v = tt

  free_names : (r : Records) → InNames Free Free Before r
  unfolding InNames
  free_names no_records = tt
  free_names (record_then h s children rest) = (tt, free_names rest)

  free_struct : (r : Records) → InStruct Free Free Before r
  free_struct no_records = tt
  free_struct (record_then h s children rest) = λ _. free_names children

  free_record : (h : RecordHead) (children : Records) → h.location.at < n → InRecord Free Free Before h children
  free_record h children p =
      record {
        first = free_field (shape_of h.kind).first h.first;
        second = free_field (shape_of h.kind).second h.second;
        literal = λ _. p;
        fields = λ _. free_names children;
        target = λ _. free_struct (next children);
      }

  -- Records that stand in a part that ends by n
  standing : (s : List ℕ) (at stop : ℕ) → stands s at stop ≡ true → stop ≤ n → (at < n) × (stop_at s at ≤ n)
  unfolding stands
  standing s at stop e p =
      let a = and_both (leb (at + 16) stop && leb 16 (word_at s at)) (leb (at + word_at s at) stop) e in
      let b = and_both (leb (at + 16) stop) (leb 16 (word_at s at)) a.0 in
      let x = leb-true (at + 16) stop b.0 in
      let y = leb-true (at + word_at s at) stop a.1 in
      (omega arith, omega arith)

  records_with_lem : (fuel : ℕ) (levels : ℕ → ℕ → Records) (s : List ℕ) (at stop : ℕ) → ((a e : ℕ) → e ≤ n → InRecords Free Free Before (levels a e)) → stop ≤ n
      → InRecords Free Free Before (records_with fuel levels s at stop)
  unfolding records_with InRecords
  records_with_lem zero levels s at stop f p = tt
  records_with_lem (suc k) levels s at stop f p = go (stands s at stop) refl (λ q. records_with_lem k levels s (stop_at s at) stop f p)
    where
      inner : (x : Bool) → stop_at s at ≤ n → InRecords Free Free Before (go_on x (λ _. levels (start_at s at) (stop_at s at)) no_records)
      inner true q = f (start_at s at) (stop_at s at) q
      inner false q = tt

      go : (x : Bool) → stands s at stop ≡ x → (Unit {0} → InRecords Free Free Before (records_with k levels s (stop_at s at) stop))
          → InRecords Free Free Before (go_on x (λ _. record_with levels s at (records_with k levels s (stop_at s at) stop)) no_records)
      go true e r =
          let h = standing s at stop e p in
          let free : Bool = not (holds_free_bytes (kind_at s at)) in
          (free_record (record_head_at s at) (go_on free (λ _. levels (start_at s at) (stop_at s at)) no_records) h.0, (inner free h.1, r tt))
      go false e r = tt

  records_at_lem : (s : List ℕ) (depth at stop : ℕ) → stop ≤ n → InRecords Free Free Before (records_at s depth at stop)
  unfolding records_at InRecords
  records_at_lem s zero at stop p = tt
  records_at_lem s (suc d) at stop p = records_with_lem (suc (length s)) (records_at s d) s at stop (λ a e q. records_at_lem s d a e q) p

-- Every literal of an item's tree stands in its bytes
pub literals_inside : (bytes : List ℕ) → InItem Free Free (λ place. place < length bytes) (item_tree bytes)
unfolding item_tree
literals_inside bytes = item Free Free (λ place. place < length bytes) (records_at bytes 63 0 (length bytes)) (records_at_lem (length bytes) bytes 63 0 (length bytes) (omega arith))

-- The errors of an item about literals have places in its bytes
pub errors_inside : (ctx : ModuleContext) (bytes : List ℕ) → Errors Free Free (λ place. place < length bytes) Free (item_errors ctx (item_tree bytes))
errors_inside ctx bytes = in_pass_2 Free Free (λ place. place < length bytes) Free tt ctx (item_tree bytes) (literals_inside bytes)
