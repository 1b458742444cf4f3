-- An item's own bytes and the module's: the same records, at other places. Assumes nothing.
use Prim.Native.Nat.{ℕ, suc, ◌+◌, ◌-◌, ◌*◌, ◌≤◌, ◌<◌}
use mathlib.Core.Path.{◌≡◌, refl, sym, ◌∙◌, ap, ap₂, subst}
use mathlib.Core.Bool.{Bool, true, false, cond, not}
use mathlib.Core.List.{List}
use lib.ListN.{length, get_or, take, drop, length-take, length-drop}
use lib.Seq.{get_or-take, get_or-drop, ext_get_or}
use lib.Dec.{ltb}
use native.Mathlib.Omega.{arith}
use borrow.Author.Tests.{ltb-true, le-leb}
use Rattle.shape.specs.Shape.{due_in, state_after, an_item}
use Rattle.shape.specs.declared.Holds.{Holds}
use Rattle.record_bytes.specs.Bytes.{byte_at, half_at, word_at}
use Rattle.names.specs.Names.{stands}
use Rattle.layout.specs.Layout.{kind_at, class_at, start_at, stop_at}
use Rattle.node.specs.Fine.{FineRecord}
use Rattle.trees.specs.Tree.{location}
use Rattle.trees.specs.Record.{Records, no_records, record_then, go_on, record_head_at, bytes_at, field_count, holds_free_bytes, record_with, records_with, records_at}
use Rattle.node.proofs.Open.{opened}
use Rattle.trees.proofs.Decode.{enough, records_end}
use Rattle.slot_places.proofs.Decode.{move_head, move_records}
use Rattle.slot_places.proofs.Induction.{Standing, Children, fine_item}

stands_whole : (s : List ℕ) (at end : ℕ) → at + 16 ≤ stop_at s at → stop_at s at ≤ end → stands s at end ≡ true
unfolding stands
stands_whole s at end p q = simp (le-leb (at + 16) end (omega arith), le-leb 16 (word_at s at) (omega arith), le-leb (at + word_at s at) end q)

-- A record that stands, and those after it
stands_cons : (s : List ℕ) (d at end : ℕ) → stands s at end ≡ true → at + 16 ≤ stop_at s at → stop_at s at ≤ end → end ≤ length s
    → records_at s (suc d) at end ≡ record_with (records_at s d) s at (records_at s (suc d) (stop_at s at) end)
unfolding records_at records_with
stands_cons s d at end e p q r =
    rw e (ap (record_with (records_at s d) s at) (enough (length s) (suc (length s)) (records_at s d) s (stop_at s at) end (omega arith) (omega arith)))

field_same : (b : Bool) (x y : ℕ) → (b ≡ true → x ≡ y) → cond b x 0 ≡ cond b y 0
field_same true x y p = p refl
field_same false x y p = refl

abbrev pub part : List ℕ → (p len : ℕ) → List ℕ
part m p len = take len (drop p m)

module _ (m : List ℕ) (p len : ℕ) (fits : p + len ≤ length m) where
  pub own_length : length (part m p len) ≡ len
  own_length = simp (length-take, length-drop) (omega arith)

  pub own_byte : (at i : ℕ) → at ≡ p + i → i < len → byte_at m at ≡ byte_at (part m p len) i
  own_byte at i q h = ap (λ (x : ℕ). get_or m x 0) q ∙ sym (get_or-take len (drop p m) i 0 h ∙ get_or-drop p m i 0)

  own_half : (at i : ℕ) → at ≡ p + i → i + 2 ≤ len → half_at m at ≡ half_at (part m p len) i
  unfolding half_at
  own_half at i q h = ap₂ (λ x y. x + y * 256) (own_byte at i q (omega arith)) (own_byte (at + 1) (i + 1) (omega arith) (omega arith))

  pub own_word : (at i : ℕ) → at ≡ p + i → i + 4 ≤ len → word_at m at ≡ word_at (part m p len) i
  unfolding word_at
  own_word at i q h = ap₂ (λ x y. x + y * 65536) (own_half at i q (omega arith)) (own_half (at + 2) (i + 2) (omega arith) (omega arith))

  own_bytes : (at i n : ℕ) → at ≡ p + i → i + n ≤ len → take n (drop at m) ≡ take n (drop i (part m p len))
  own_bytes at i n q h =
      let a : length (take n (drop at m)) ≡ n = simp (length-take, length-drop) (omega arith) in
      let o = own_length in
      let b : length (take n (drop i (part m p len))) ≡ n = length-take n (drop i (part m p len)) ∙ (let e = length-drop i (part m p len) in omega arith) in
      ext_get_or 0 (take n (drop at m)) (take n (drop i (part m p len))) (a ∙ sym b)
      (λ j l. get_or-take n (drop at m) j 0 (omega arith) ∙ get_or-drop at m j 0 ∙ own_byte (at + j) (i + j) (omega arith) (omega arith)
      ∙ sym (get_or-take n (drop i (part m p len)) j 0 (omega arith) ∙ get_or-drop i (part m p len) j 0))

  -- The records read from the module's bytes are those of the part's own bytes
  abbrev Own : (depth at end : ℕ) → Holds → Records → Type 0
  Own d at end st x = (i e : ℕ) → at ≡ p + i → end ≡ p + e → e ≤ len → x ≡ move_records (λ n. p + n) (records_at (part m p len) d i e)

  own_nil : (d end : ℕ) (st : Holds) → (due_in st).ends ≡ true → Own d end end st no_records
  unfolding move_records
  own_nil d end st n i e q r h =
      let z : i ≡ e = omega arith in
      sym (ap (λ (x : ℕ). move_records (λ n. p + n) (records_at (part m p len) d x e)) z ∙ ap (move_records (λ n. p + n)) (records_end (part m p len) d e))

  -- A record, which has at least its fields
  module _ (at i : ℕ) (q : at ≡ p + i) (head : i + 16 + 4 * field_count (kind_at m at) ≤ len) where
    own_kind : kind_at m at ≡ kind_at (part m p len) i
    own_kind = own_half (at + 4) (i + 4) (omega arith) (omega arith)

    own_head : record_head_at m at ≡ move_head (λ n. p + n) (record_head_at (part m p len) i)
    own_head =
        let k = own_kind in
        let first : cond (ltb 0 (field_count (kind_at m at))) (word_at m (at + 16)) 0 ≡ cond (ltb 0 (field_count (kind_at (part m p len) i))) (word_at (part m p len) (i + 16)) 0 =
        field_same (ltb 0 (field_count (kind_at m at))) (word_at m (at + 16)) (word_at (part m p len) (i + 16))
        (λ b. let l = ltb-true 0 (field_count (kind_at m at)) b in own_word (at + 16) (i + 16) (omega arith) (omega arith))
        ∙ ap (λ (x : ℕ). cond (ltb 0 (field_count x)) (word_at (part m p len) (i + 16)) 0) k in
        let second : cond (ltb 1 (field_count (kind_at m at))) (word_at m (at + 20)) 0 ≡ cond (ltb 1 (field_count (kind_at (part m p len) i))) (word_at (part m p len) (i + 20)) 0 =
        field_same (ltb 1 (field_count (kind_at m at))) (word_at m (at + 20)) (word_at (part m p len) (i + 20))
        (λ b. let l = ltb-true 1 (field_count (kind_at m at)) b in own_word (at + 20) (i + 20) (omega arith) (omega arith))
        ∙ ap (λ (x : ℕ). cond (ltb 1 (field_count x)) (word_at (part m p len) (i + 20)) 0) k in
        let file = own_half (at + 6) (i + 6) (omega arith) (omega arith) in
        let line = own_word (at + 8) (i + 8) (omega arith) (omega arith) in
        let column = own_word (at + 12) (i + 12) (omega arith) (omega arith) in
        λ j. record { location = location (q j) (file j) (line j) (column j); kind = k j; first = first j; second = second j }

    own_start : start_at m at ≡ p + start_at (part m p len) i
    own_start =
        let k = ap (λ (x : ℕ). field_count x) own_kind in
        omega arith

    own_stop : stop_at m at ≡ p + stop_at (part m p len) i
    own_stop = let w = own_word at i q (omega arith) in omega arith

  own_cons : (d at end : ℕ) (st : Holds) → Standing (due_in st) (class_at m at) → FineRecord m d at end (class_at m at)
      → (free : Bool) → holds_free_bytes (kind_at m at) ≡ free → (children rest : Records) → Children m Own free d at children
      → Own d (stop_at m at) end (state_after (due_in st) (class_at m at)) rest → Own d at end st (record_then (record_head_at m at) (bytes_at m at) children rest)
  unfolding move_records
  own_cons d at end state standing f free ef children rest kids tail i e q r h =
      let o = opened m d at end (class_at m at) f in
      let x : List ℕ = part m p len in
      let hd : i + 16 + 4 * field_count (kind_at m at) ≤ len = omega (arith, o.head, o.body, o.room) in
      let start = own_start at i q hd in
      let stop = own_stop at i q hd in
      let word = own_word at i q (omega arith) in
      let inside : stop_at x i ≤ e = omega (arith, o.room) in
      let body : start_at x i ≤ stop_at x i = omega (arith, o.body) in
      let long : i + 16 ≤ stop_at x i = omega (arith, o.head, o.body) in
      let st : stands x i e ≡ true = stands_whole x i e long inside in
      let one : d ≡ suc (d - 1) = omega (arith, o.deep) in
      let cons : records_at x d i e ≡ record_with (records_at x (d - 1)) x i (records_at x d (stop_at x i) e) =
      subst (λ (n : ℕ). records_at x n i e ≡ record_with (records_at x (d - 1)) x i (records_at x n (stop_at x i) e)) (sym one)
      (stands_cons x (d - 1) i e st long inside (omega (arith, own_length))) in
      let kind = own_kind at i q hd in
      let count : stop_at m at - start_at m at ≡ stop_at x i - start_at x i = omega arith in
      let bytes : bytes_at m at ≡ bytes_at x i =
      ap (λ (n : ℕ). take n (drop (start_at m at) m)) count ∙ own_bytes (start_at m at) (start_at x i) (stop_at x i - start_at x i) start (omega arith) in
      let inner : children ≡ move_records (λ n. p + n) (go_on (not (holds_free_bytes (kind_at x i))) (λ _. records_at x (d - 1) (start_at x i) (stop_at x i)) no_records) =
      own_children free children i (ap (λ (k : ℕ). holds_free_bytes k) (sym kind) ∙ ef) start stop (omega arith) kids in
      let later = tail (stop_at x i) e stop r h in
      (λ j. record_then (own_head at i q hd j) (bytes j) (inner j) (later j)) ∙ sym (ap (move_records (λ n. p + n)) cons)
    where
      own_children : (free : Bool) (children : Records) (i : ℕ) → holds_free_bytes (kind_at (part m p len) i) ≡ free → start_at m at ≡ p + start_at (part m p len) i → stop_at m at ≡ p + stop_at (part m p len) i
          → stop_at (part m p len) i ≤ len → Children m Own free d at children
          → children ≡ move_records (λ n. p + n) (go_on (not (holds_free_bytes (kind_at (part m p len) i))) (λ _. records_at (part m p len) (d - 1) (start_at (part m p len) i) (stop_at (part m p len) i)) no_records)
      own_children true children i e a b h k = rw e k
      own_children false children i e a b h k = rw e (k (start_at (part m p len) i) (stop_at (part m p len) i) a b h)

  -- The records of the part, which is an item with no fault
  pub own_item : (d end : ℕ) → stop_at m p ≡ p + len → FineRecord m d p end an_item
      → records_at m d p (stop_at m p) ≡ move_records (λ n. p + n) (records_at (part m p len) d 0 (length (part m p len)))
  own_item d end e f =
      let o = own_length in
      fine_item m Own own_nil own_cons d p end f 0 (length (part m p len)) (omega arith) (omega arith) (omega arith)
