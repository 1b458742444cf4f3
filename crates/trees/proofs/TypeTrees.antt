-- Type records by their places: the tree of a T record of each kind, and of a list of fields, with what a walk over them needs. Assumes nothing.
use Prim.Native.Nat.{ℕ, ◌+◌, ◌-◌, ◌*◌, ◌≤◌, ◌<◌}
use mathlib.Core.Path.{◌≡◌, refl, sym, ◌∙◌, ap, subst}
use mathlib.Core.Bool.{not}
use mathlib.Core.List.{List}
use lib.ListN.{length}
use native.Mathlib.Omega.{arith}
use borrow.Author.Tests.{ltb-true, not-false}
use Rattle.shape.specs.Shape.{shape_of, due_in, allowed, a_type, a_field}
use Rattle.shape.specs.declared.Holds.TheVariants.{Nothing, OneType, Fields}
use Rattle.shape.proofs.ShapeLaws.{type_kind_lem, kind_range}
use Rattle.record_bytes.specs.Bytes.{word_at}
use Rattle.names.specs.Names.{name_count}
use Rattle.layout.specs.Layout.{max_bytes, kind_at, stop_at, is_bad}
use Rattle.node.specs.Fine.{FineRecord, FineList, Opened}
use Rattle.trees.specs.Tree.{name_type, void_type, pointer_type, array_type, struct_type, no_fields, field_then}
use Rattle.trees.specs.Record.{Records, no_records, record_then, go_on, record_head_of, bytes_at, location_at, holds_free_bytes, field_count, records_at, to_type, type_at, fields_at}
use Rattle.node.proofs.Open.{opened, opened_kind, split_must, split_may, ended}
use Rattle.trees.proofs.Decode.{fine_own, fine_wide, records_cons, records_end}

-- The records in a record of a known kind
abbrev pub inside_of : (kind : ℕ) → List ℕ → (depth at : ℕ) → Records
inside_of k s d at = go_on (not (holds_free_bytes k)) (λ _. records_at s (d - 1) (at + 16 + 4 * field_count k) (stop_at s at)) no_records

-- A record of a known kind, and the records after it
pub node_of : (s : List ℕ) (d at end c k : ℕ) → FineRecord s d at end c → kind_at s at ≡ k
    → records_at s d at end ≡ record_then (record_head_of k s at) (bytes_at s at) (inside_of k s d at) (records_at s d (stop_at s at) end)
node_of s d at end c k f e =
    records_cons s d at end c f
    ∙ ap (λ (x : ℕ). record_then (record_head_of x s at) (bytes_at s at) (inside_of x s d at) (records_at s d (stop_at s at) end)) e

-- a record of a known kind by itself
pub own_node : (s : List ℕ) (d at end c k : ℕ) → FineRecord s d at end c → kind_at s at ≡ k
    → records_at s d at (stop_at s at) ≡ record_then (record_head_of k s at) (bytes_at s at) (inside_of k s d at) no_records
own_node s d at end c k f e =
    node_of s d at (stop_at s at) c k (fine_own s d at end c f) e
    ∙ ap (record_then (record_head_of k s at) (bytes_at s at) (inside_of k s d at)) (records_end s d (stop_at s at))

-- A list of one T record: that record, which ends where the list does
pub record OneChild (s : List ℕ) (d a b c : ℕ) : Type 0 where
  pub fine : FineRecord s d a (length s) c
  pub stops : stop_at s a ≡ b

pub one_type : (s : List ℕ) (d a b : ℕ) → FineList s d a b OneType → OneChild s d a b a_type
unfolding due_in
one_type s d a b l =
    let p = split_must s d a b OneType a_type Nothing refl l in
    record { fine = fine_wide s d a b a_type p.first; stops = ended s d (stop_at s a) b Nothing refl p.rest }

-- What a walk knows of the T record at a place: its levels and its bounds
pub record TypeRoom (s : List ℕ) (d at fields : ℕ) : Type 0 where
  pub deep : 1 ≤ d
  pub head : at + 16 + 4 * fields ≤ stop_at s at
  pub ends : stop_at s at ≤ length s
  pub few : length s ≤ max_bytes

pub room : (s : List ℕ) (d at end c k start stop : ℕ) → Opened s d at end c k start stop → TypeRoom s d at (shape_of k).fields
room s d at end c k start stop o =
    record { deep = o.deep; head = omega (arith, o.head, o.body, o.stops); ends = omega (arith, o.stops, o.room, o.ends); few = o.few }

module _ (s : List ℕ) (d at : ℕ) (f : FineRecord s d at (length s) a_type) where
  -- 16: a name
  pub record NameParts : Type 0 where
    pub room : TypeRoom s d at 2
    pub known : word_at s (at + 20) < name_count s
    pub tree : type_at s d at ≡ name_type (location_at s at) (word_at s (at + 20))

  pub name_parts : kind_at s at ≡ 16 → NameParts
  unfolding shape_of to_type is_bad allowed
  name_parts e =
      let o = opened_kind s d at (length s) a_type 16 f e in
      record {
        room = room s d at (length s) a_type 16 (at + 16 + 4 * 2) (stop_at s at) o;
        known = ltb-true (word_at s (at + 20)) (name_count s) (not-false _ o.second);
        tree = ap to_type (own_node s d at (length s) a_type 16 f e);
      }

  -- 17: void
  pub record VoidParts : Type 0 where
    pub room : TypeRoom s d at 1
    pub tree : type_at s d at ≡ void_type (location_at s at)

  pub void_parts : kind_at s at ≡ 17 → VoidParts
  unfolding shape_of to_type
  void_parts e =
      record {
        room = room s d at (length s) a_type 17 (at + 16 + 4 * 1) (stop_at s at) (opened_kind s d at (length s) a_type 17 f e);
        tree = ap to_type (own_node s d at (length s) a_type 17 f e);
      }

  -- 18: a pointer
  pub record PointerParts : Type 0 where
    pub room : TypeRoom s d at 1
    pub pointee : FineRecord s (d - 1) (at + 20) (length s) a_type
    pub stops : stop_at s (at + 20) ≡ stop_at s at
    pub tree : type_at s d at ≡ pointer_type (location_at s at) (type_at s (d - 1) (at + 20))

  pub pointer_parts : kind_at s at ≡ 18 → PointerParts
  unfolding shape_of to_type due_in
  pointer_parts e =
      let o = opened_kind s d at (length s) a_type 18 f e in
      let q : at + 16 + 4 ≡ at + 20 = omega arith in
      let p = one_type s (d - 1) (at + 20) (stop_at s at) (subst (λ (x : ℕ). FineList s (d - 1) x (stop_at s at) OneType) q o.children) in
      record {
        room = room s d at (length s) a_type 18 (at + 16 + 4 * 1) (stop_at s at) o;
        pointee = p.fine;
        stops = p.stops;
        tree =
            ap to_type (own_node s d at (length s) a_type 18 f e)
            ∙ ap (λ (x : ℕ). pointer_type (location_at s at) (to_type (records_at s (d - 1) x (stop_at s at)))) q
            ∙ ap (λ (x : ℕ). pointer_type (location_at s at) (to_type (records_at s (d - 1) (at + 20) x))) (sym p.stops);
      }

  -- 19: an array
  pub record ArrayParts : Type 0 where
    pub room : TypeRoom s d at 2
    pub element : FineRecord s (d - 1) (at + 24) (length s) a_type
    pub stops : stop_at s (at + 24) ≡ stop_at s at
    pub tree : type_at s d at ≡ array_type (location_at s at) (word_at s (at + 20)) (type_at s (d - 1) (at + 24))

  pub array_parts : kind_at s at ≡ 19 → ArrayParts
  unfolding shape_of to_type due_in
  array_parts e =
      let o = opened_kind s d at (length s) a_type 19 f e in
      let q : at + 16 + 8 ≡ at + 24 = omega arith in
      let p = one_type s (d - 1) (at + 24) (stop_at s at) (subst (λ (x : ℕ). FineList s (d - 1) x (stop_at s at) OneType) q o.children) in
      record {
        room = room s d at (length s) a_type 19 (at + 16 + 4 * 2) (stop_at s at) o;
        element = p.fine;
        stops = p.stops;
        tree =
            ap to_type (own_node s d at (length s) a_type 19 f e)
            ∙ ap (λ (x : ℕ). array_type (location_at s at) (word_at s (at + 20)) (to_type (records_at s (d - 1) x (stop_at s at)))) q
            ∙ ap (λ (x : ℕ). array_type (location_at s at) (word_at s (at + 20)) (to_type (records_at s (d - 1) (at + 24) x))) (sym p.stops);
      }

  -- 20: a struct
  pub record StructParts : Type 0 where
    pub room : TypeRoom s d at 1
    pub fields : FineList s (d - 1) (at + 20) (stop_at s at) Fields
    pub tree : type_at s d at ≡ struct_type (location_at s at) (fields_at s (d - 1) (at + 20) (stop_at s at))

  pub struct_parts : kind_at s at ≡ 20 → StructParts
  unfolding shape_of to_type due_in
  struct_parts e =
      let o = opened_kind s d at (length s) a_type 20 f e in
      let q : at + 16 + 4 ≡ at + 20 = omega arith in
      record {
        room = room s d at (length s) a_type 20 (at + 16 + 4 * 1) (stop_at s at) o;
        fields = subst (λ (x : ℕ). FineList s (d - 1) x (stop_at s at) Fields) q o.children;
        tree =
            ap to_type (own_node s d at (length s) a_type 20 f e)
            ∙ ap (λ (x : ℕ). struct_type (location_at s at) (to_type (records_at s (d - 1) x (stop_at s at)))) q;
      }

-- a T record that has none of the kinds 16 to 19 has kind 20
last_type : (k : ℕ) → 16 ≤ k → k ≤ 20 → (k ≡ 16 → ⊥) → (k ≡ 17 → ⊥) → (k ≡ 18 → ⊥) → (k ≡ 19 → ⊥) → k ≡ 20
last_type k l h a b c e = omega arith

pub type_kinds : (s : List ℕ) (d at : ℕ) → FineRecord s d at (length s) a_type → (kind_at s at ≡ 16 → ⊥) → (kind_at s at ≡ 17 → ⊥) → (kind_at s at ≡ 18 → ⊥) → (kind_at s at ≡ 19 → ⊥) → kind_at s at ≡ 20
type_kinds s d at f a b c e = let r = type_kind_lem (kind_at s at) (opened s d at (length s) a_type f).belongs in last_type (kind_at s at) r.0 r.1 a b c e

field_kind_lem : (k : ℕ) → (shape_of k).class ≡ a_field → k ≡ 21
field_kind_lem k e = let r = kind_range a_field 21 21 k refl (λ (z : a_field ≡ 0). omega arith) e in omega (arith, r.0, r.1)

-- The fields of a struct: none are left, or a field and the rest
pub fields_none : (s : List ℕ) (d from end : ℕ) → end ≤ from → FineList s d from end Fields → fields_at s d from end ≡ no_fields
unfolding to_type
fields_none s d from end p l = let e : from ≡ end = omega (arith, l.part.starts) in ap to_type (ap (λ (x : ℕ). records_at s d x end) e ∙ records_end s d end)

pub record FieldParts (s : List ℕ) (d from end : ℕ) : Type 0 where
  pub room : TypeRoom s d from 1
  pub fits : stop_at s from ≤ end
  pub known : word_at s (from + 16) < name_count s
  pub type : FineRecord s (d - 1) (from + 20) (length s) a_type
  pub stops : stop_at s (from + 20) ≡ stop_at s from
  pub rest : FineList s d (stop_at s from) end Fields
  pub tree : fields_at s d from end ≡ field_then (word_at s (from + 16)) (type_at s (d - 1) (from + 20)) (fields_at s d (stop_at s from) end)

pub field_parts : (s : List ℕ) (d from end : ℕ) → from < end → FineList s d from end Fields → FieldParts s d from end
unfolding shape_of to_type due_in is_bad allowed
field_parts s d from end p l =
    let m = split_may s d from end Fields a_field Fields refl (λ (e : from ≡ end). omega arith) l in
    let k = field_kind_lem (kind_at s from) (opened s d from end a_field m.first).belongs in
    let o = opened_kind s d from end a_field 21 m.first k in
    let q : from + 16 + 4 ≡ from + 20 = omega arith in
    let c = one_type s (d - 1) (from + 20) (stop_at s from) (subst (λ (x : ℕ). FineList s (d - 1) x (stop_at s from) OneType) q o.children) in
    record {
      room = room s d from end a_field 21 (from + 16 + 4 * 1) (stop_at s from) o;
      fits = o.room;
      known = ltb-true (word_at s (from + 16)) (name_count s) (not-false _ o.first);
      type = c.fine;
      stops = c.stops;
      rest = m.rest;
      tree =
          ap to_type (node_of s d from end a_field 21 m.first k)
          ∙ ap (λ (x : ℕ). field_then (word_at s (from + 16)) (to_type (records_at s (d - 1) x (stop_at s from))) (fields_at s d (stop_at s from) end)) q
          ∙ ap (λ (x : ℕ). field_then (word_at s (from + 16)) (to_type (records_at s (d - 1) (from + 20) x)) (fields_at s d (stop_at s from) end)) (sym c.stops);
    }
