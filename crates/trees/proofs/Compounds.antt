-- Compound records by their places: the tree of a C record of each kind, and of a list of its fields, with what a walk over them needs. Assumes nothing.
use Prim.Native.Nat.{ℕ, ◌+◌, ◌-◌, ◌*◌, ◌≤◌, ◌<◌}
use mathlib.Core.Path.{◌≡◌, refl, ◌∙◌, ap, subst}
use mathlib.Core.List.{List, [], ◌∷◌}
use lib.ListN.{length}
use native.Mathlib.Omega.{arith}
use Rattle.shape.specs.Shape.{shape_of, due_in, an_expression, a_compound, a_compound_field}
use Rattle.shape.specs.declared.Holds.TheVariants.{OneExpression, Expressions, CompoundFields}
use Rattle.shape.proofs.ShapeLaws.{kind_range, compound_kind}
use Rattle.record_bytes.specs.Bytes.{word_at}
use Rattle.layout.specs.Layout.{kind_at, stop_at}
use Rattle.node.specs.Fine.{FineRecord, FineList}
use Rattle.trees.specs.Tree.{Expression, CompoundField, array_compound, struct_compound}
use Rattle.trees.specs.Record.{location_at, records_at, to_expressions, to_compound, to_compound_fields, expression_at, expressions_at, expression_list, first_expression, compound_at, compound_fields_at}
use Rattle.node.proofs.Open.{opened, opened_kind, split_may}
use Rattle.trees.proofs.Decode.{records_end}
use Rattle.trees.proofs.TypeTrees.{node_of, own_node, TypeRoom, room}
use Rattle.trees.proofs.ExpressionTrees.{one_expression}

module _ (s : List ℕ) (d at : ℕ) (f : FineRecord s d at (length s) a_compound) where
  -- 48: an array
  pub record ArrayCompoundParts : Type 0 where
    pub room : TypeRoom s d at 0
    pub elements : FineList s (d - 1) (at + 16) (stop_at s at) Expressions
    pub tree : compound_at s d at ≡ array_compound (location_at s at) (expressions_at s (d - 1) (at + 16) (stop_at s at))

  pub array_compound_parts : kind_at s at ≡ 48 → ArrayCompoundParts
  unfolding shape_of expression_list due_in records_at
  array_compound_parts e =
      let o = opened_kind s d at (length s) a_compound 48 f e in
      let q : at + 16 + 0 ≡ at + 16 = omega arith in
      record {
        room = room s d at (length s) a_compound 48 (at + 16 + 4 * 0) (stop_at s at) o;
        elements = subst (λ (x : ℕ). FineList s (d - 1) x (stop_at s at) Expressions) q o.children;
        tree =
            ap to_compound (own_node s d at (length s) a_compound 48 f e)
            ∙ ap (λ (x : ℕ). array_compound (location_at s at) (expressions_at s (d - 1) x (stop_at s at))) q;
      }

  -- 49: a struct
  pub record StructCompoundParts : Type 0 where
    pub room : TypeRoom s d at 0
    pub fields : FineList s (d - 1) (at + 16) (stop_at s at) CompoundFields
    pub tree : compound_at s d at ≡ struct_compound (location_at s at) (compound_fields_at s (d - 1) (at + 16) (stop_at s at))

  pub struct_compound_parts : (kind_at s at ≡ 48 → ⊥) → StructCompoundParts
  unfolding shape_of to_compound_fields due_in records_at
  struct_compound_parts n =
      let e = last_compound (kind_at s at) (compound_kind (kind_at s at) (opened s d at (length s) a_compound f).belongs) n in
      let o = opened_kind s d at (length s) a_compound 49 f e in
      let q : at + 16 + 0 ≡ at + 16 = omega arith in
      record {
        room = room s d at (length s) a_compound 49 (at + 16 + 4 * 0) (stop_at s at) o;
        fields = subst (λ (x : ℕ). FineList s (d - 1) x (stop_at s at) CompoundFields) q o.children;
        tree =
            ap to_compound (own_node s d at (length s) a_compound 49 f e)
            ∙ ap (λ (x : ℕ). struct_compound (location_at s at) (compound_fields_at s (d - 1) x (stop_at s at))) q;
      }
    where
      last_compound : (k : ℕ) → (48 ≤ k) × (k ≤ 49) → (k ≡ 48 → ⊥) → k ≡ 49
      last_compound k r n = omega (arith, r.0, r.1)

field_kind_lem : (k : ℕ) → (shape_of k).class ≡ a_compound_field → k ≡ 50
field_kind_lem k e = let r = kind_range a_compound_field 50 50 k refl (λ (z : a_compound_field ≡ 0). omega arith) e in omega (arith, r.0, r.1)

-- The fields of a struct compound: none are left, or a field and the rest
pub compound_fields_none : (s : List ℕ) (d from end : ℕ) → end ≤ from → FineList s d from end CompoundFields → compound_fields_at s d from end ≡ []
unfolding to_compound_fields
compound_fields_none s d from end p l = let e : from ≡ end = omega (arith, l.part.starts) in ap to_compound_fields (ap (λ (x : ℕ). records_at s d x end) e ∙ records_end s d end)

-- The field at a place
abbrev pub compound_field_at : List ℕ → (depth at : ℕ) → CompoundField
compound_field_at s d at = record { location = location_at s at; name = word_at s (at + 16); value = expression_at s (d - 1) (at + 20) }

pub record CompoundFieldParts (s : List ℕ) (d from end : ℕ) : Type 0 where
  pub room : TypeRoom s d from 1
  pub fits : stop_at s from ≤ end
  pub value : FineRecord s (d - 1) (from + 20) (length s) an_expression
  pub stops : stop_at s (from + 20) ≡ stop_at s from
  pub rest : FineList s d (stop_at s from) end CompoundFields
  pub tree : compound_fields_at s d from end ≡ compound_field_at s d from ∷ compound_fields_at s d (stop_at s from) end

pub compound_field_parts : (s : List ℕ) (d from end : ℕ) → from < end → FineList s d from end CompoundFields → CompoundFieldParts s d from end
unfolding shape_of to_compound_fields due_in
compound_field_parts s d from end p l =
    let m = split_may s d from end CompoundFields a_compound_field CompoundFields refl (λ (e : from ≡ end). omega arith) l in
    let k = field_kind_lem (kind_at s from) (opened s d from end a_compound_field m.first).belongs in
    let o = opened_kind s d from end a_compound_field 50 m.first k in
    let q : from + 16 + 4 ≡ from + 20 = omega arith in
    let c = one_expression s (d - 1) (from + 20) (stop_at s from) (subst (λ (x : ℕ). FineList s (d - 1) x (stop_at s from) OneExpression) q o.children) in
    let field : Expression → CompoundField = (λ x. record { location = location_at s from; name = word_at s (from + 16); value = x }) in
    record {
      room = room s d from end a_compound_field 50 (from + 16 + 4 * 1) (stop_at s from) o;
      fits = o.room;
      value = c.fine;
      stops = c.stops;
      rest = m.rest;
      tree =
          ap to_compound_fields (node_of s d from end a_compound_field 50 m.first k)
          ∙ ap (λ (x : ℕ). field (first_expression (to_expressions (records_at s (d - 1) x (stop_at s from)))) ∷ compound_fields_at s d (stop_at s from) end) q
          ∙ ap (λ (x : List Expression). field (first_expression x) ∷ compound_fields_at s d (stop_at s from) end) c.trees;
    }
