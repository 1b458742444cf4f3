-- Item records by their places: the tree of each kind of item, and of the list of parameters and the body, with what a walk over them needs.
-- Assumes nothing.
use Prim.Native.Nat.{ℕ, ◌+◌, ◌-◌, ◌*◌, ◌≤◌, ◌<◌}
use mathlib.Core.Path.{◌≡◌, refl, sym, ◌∙◌, ap, subst}
use mathlib.Core.Bool.{Bool, true, false}
use mathlib.Core.List.{List, [], ◌∷◌}
use mathlib.Core.Option.{none, some}
use mathlib.Core.Logic.{⊎_elim}
use lib.ListN.{length}
use lib.Dec.{eqb}
use native.Mathlib.Omega.{arith}
use borrow.Author.Tests.{leb-true, ltb-true, eqb-true, eqb-false, ne_eqb, not-false}
use Rattle.shape.specs.Shape.{shape_of, due_in, allowed, must_be, may_be_either, state_after, a_type, a_statement, an_item, a_parameter}
use Rattle.shape.specs.declared.Due.{Due}
use Rattle.shape.specs.declared.Holds.{Holds}
use Rattle.shape.specs.declared.Holds.TheVariants.{Nothing, OneType, Declaration, InitialValue, FunctionParts, Parameters}
use Rattle.shape.proofs.ShapeLaws.{kind_range, item_kind}
use Rattle.record_bytes.specs.Bytes.{word_at}
use Rattle.names.specs.Names.{name_count}
use Rattle.layout.specs.Layout.{kind_at, class_at, stop_at, is_bad}
use Rattle.node.specs.Fine.{FineRecord, FineList}
use Rattle.trees.specs.Tree.{function_definition, type_alias, global_declaration, other_item}
use Rattle.trees.specs.Record.{Records, next, record_head_of, location_at, records_at, to_type, type_at, to_item, item_of, is_distinct, is_internal, to_initial_value, to_parameters, to_body, parameters_at, body_at, item_tree_at, statement_at, to_statements, first_statement}
use Rattle.trees.proofs.Statements.{first_type_lem, next_records}
use Rattle.node.proofs.Open.{opened, opened_kind, Split, split_must, split_either, either_class, ended}
use Rattle.trees.proofs.Decode.{fine_wide, records_end}
use Rattle.trees.proofs.TypeTrees.{inside_of, node_of, own_node, TypeRoom, room, one_type}

parameter_kind : (k : ℕ) → (shape_of k).class ≡ a_parameter → k ≡ 85
parameter_kind k e = let r = kind_range a_parameter 85 85 k refl (λ (z : a_parameter ≡ 0). omega arith) e in omega (arith, r.0, r.1)

-- of none of four kinds it has the fifth
last_kind : (k : ℕ) → 80 ≤ k → k ≤ 84 → (k ≡ 80 → ⊥) → (k ≡ 81 → ⊥) → (k ≡ 82 → ⊥) → (k ≡ 83 → ⊥) → k ≡ 84
last_kind k l h a b c e = omega arith

-- An item of a known kind by itself
item_of_lem : (s : List ℕ) (d at end k : ℕ) → FineRecord s d at end an_item → kind_at s at ≡ k → item_tree_at s d at ≡ item_of (record_head_of k s at) (inside_of k s d at)
item_of_lem s d at end k f e = ap to_item (own_node s d at end an_item k f e)

-- The first two of a list: a T record, and the records after it
pub record TypeThen (s : List ℕ) (d a b : ℕ) (then : Holds) : Type 0 where
  pub type : FineRecord s d a (length s) a_type
  pub fits : stop_at s a ≤ b
  pub rest : FineList s d (stop_at s a) b then
  pub tree : to_type (records_at s d a b) ≡ type_at s d a
  pub after : next (records_at s d a b) ≡ records_at s d (stop_at s a) b

type_then : (s : List ℕ) (d a b : ℕ) (h then : Holds) → due_in h ≡ must_be a_type then → FineList s d a b h → TypeThen s d a b then
type_then s d a b h then e l =
    let p = split_must s d a b h a_type then e l in
    record {
      type = fine_wide s d a b a_type p.first;
      fits = (opened s d a b a_type p.first).room;
      rest = p.rest;
      tree = first_type_lem s d a b p.first;
      after = next_records s d a b a_type p.first;
    }

module _ (s : List ℕ) (d at end : ℕ) (f : FineRecord s d at end an_item) where
  roomy : (k : ℕ) → kind_at s at ≡ k → TypeRoom s d at (shape_of k).fields
  roomy k e = room s d at end an_item k (at + 16 + 4 * (shape_of k).fields) (stop_at s at) (opened_kind s d at end an_item k f e)

  -- 80: a function
  pub record FunctionAt : Type 0 where
    pub room : TypeRoom s d at 1
    pub named : word_at s (at + 16) < name_count s
    pub parts : TypeThen s (d - 1) (at + 20) (stop_at s at) Parameters
    pub is : item_tree_at s d at ≡ function_definition (location_at s at) (word_at s (at + 16)) (type_at s (d - 1) (at + 20)) (parameters_at s (d - 1) (stop_at s (at + 20)) (stop_at s at)) (body_at s (d - 1) (stop_at s (at + 20)) (stop_at s at))

  pub item_function : kind_at s at ≡ 80 → FunctionAt
  unfolding shape_of due_in is_bad allowed
  item_function e =
      let q : at + 16 + 4 * 1 ≡ at + 20 = omega arith in
      let o = opened_kind s d at end an_item 80 f e in
      let p = type_then s (d - 1) (at + 20) (stop_at s at) FunctionParts Parameters refl (subst (λ (x : ℕ). FineList s (d - 1) x (stop_at s at) FunctionParts) q o.children) in
      let l = location_at s at in
      let n = word_at s (at + 16) in
      let t = p.tree in
      let r = p.after in
      record {
        room = roomy 80 e;
        named = ltb-true (word_at s (at + 16)) (name_count s) (not-false _ o.first);
        parts = p;
        is =
            item_of_lem s d at end 80 f e
            ∙ ap (λ (x : ℕ). function_definition l n (to_type (records_at s (d - 1) x (stop_at s at))) (to_parameters (next (records_at s (d - 1) x (stop_at s at)))) (to_body (next (records_at s (d - 1) x (stop_at s at))))) q
            ∙ (λ i. function_definition l n (t i) (to_parameters (r i)) (to_body (r i)));
      }

  -- 81: an alias
  pub record AliasAt : Type 0 where
    pub room : TypeRoom s d at 2
    pub named : word_at s (at + 16) < name_count s
    pub flags : word_at s (at + 20) ≤ 3
    pub type : FineRecord s (d - 1) (at + 24) (length s) a_type
    pub stops : stop_at s (at + 24) ≡ stop_at s at
    pub is : item_tree_at s d at ≡ type_alias (location_at s at) (word_at s (at + 16)) (is_distinct (word_at s (at + 20))) (is_internal (word_at s (at + 20))) (type_at s (d - 1) (at + 24))

  pub item_alias : kind_at s at ≡ 81 → AliasAt
  unfolding shape_of due_in is_bad allowed
  item_alias e =
      let q : at + 16 + 4 * 2 ≡ at + 24 = omega arith in
      let o = opened_kind s d at end an_item 81 f e in
      let p = one_type s (d - 1) (at + 24) (stop_at s at) (subst (λ (x : ℕ). FineList s (d - 1) x (stop_at s at) OneType) q o.children) in
      let l = location_at s at in
      let n = word_at s (at + 16) in
      let b = word_at s (at + 20) in
      record {
        room = roomy 81 e;
        named = ltb-true (word_at s (at + 16)) (name_count s) (not-false _ o.first);
        flags = leb-true (word_at s (at + 20)) 3 (not-false _ o.second);
        type = p.fine;
        stops = p.stops;
        is =
            item_of_lem s d at end 81 f e
            ∙ ap (λ (x : ℕ). type_alias l n (is_distinct b) (is_internal b) (to_type (records_at s (d - 1) x (stop_at s at)))) q
            ∙ ap (λ (x : ℕ). type_alias l n (is_distinct b) (is_internal b) (to_type (records_at s (d - 1) (at + 24) x))) (sym p.stops);
      }

  -- 83: a variable
  pub record GlobalAt : Type 0 where
    pub room : TypeRoom s d at 1
    pub named : word_at s (at + 16) < name_count s
    pub parts : TypeThen s (d - 1) (at + 20) (stop_at s at) InitialValue
    pub is : item_tree_at s d at ≡ global_declaration (location_at s at) (word_at s (at + 16)) (type_at s (d - 1) (at + 20)) (to_initial_value (records_at s (d - 1) (stop_at s (at + 20)) (stop_at s at)))

  pub item_global : kind_at s at ≡ 83 → GlobalAt
  unfolding shape_of due_in is_bad allowed
  item_global e =
      let q : at + 16 + 4 * 1 ≡ at + 20 = omega arith in
      let o = opened_kind s d at end an_item 83 f e in
      let p = type_then s (d - 1) (at + 20) (stop_at s at) Declaration InitialValue refl (subst (λ (x : ℕ). FineList s (d - 1) x (stop_at s at) Declaration) q o.children) in
      let l = location_at s at in
      let n = word_at s (at + 16) in
      let t = p.tree in
      let r = p.after in
      record {
        room = roomy 83 e;
        named = ltb-true (word_at s (at + 16)) (name_count s) (not-false _ o.first);
        parts = p;
        is =
            item_of_lem s d at end 83 f e
            ∙ ap (λ (x : ℕ). global_declaration l n (to_type (records_at s (d - 1) x (stop_at s at))) (to_initial_value (next (records_at s (d - 1) x (stop_at s at))))) q
            ∙ (λ i. global_declaration l n (t i) (to_initial_value (r i)));
      }

  -- 82 and 84: nothing to check
  pub item_use : kind_at s at ≡ 82 → item_tree_at s d at ≡ other_item
  item_use e = item_of_lem s d at end 82 f e

  pub item_assembly : kind_at s at ≡ 84 → item_tree_at s d at ≡ other_item
  item_assembly e = item_of_lem s d at end 84 f e

  pub item_other : (kind_at s at ≡ 80 → ⊥) → (kind_at s at ≡ 81 → ⊥) → (kind_at s at ≡ 83 → ⊥) → item_tree_at s d at ≡ other_item
  item_other a b c = go (eqb (kind_at s at) 82) refl
    where
      go : (x : Bool) → eqb (kind_at s at) 82 ≡ x → item_tree_at s d at ≡ other_item
      go true e = item_use (eqb-true (kind_at s at) 82 e)
      go false e =
          let z = item_kind (kind_at s at) (opened s d at end an_item f).belongs in
          item_assembly (last_kind (kind_at s at) z.0 z.1 a b (eqb-false (kind_at s at) 82 e) c)

-- The parameters and the body of a function: nothing is left
pub parameters_none : (s : List ℕ) (d end : ℕ) → (parameters_at s d end end ≡ []) × (body_at s d end end ≡ none)
unfolding to_parameters to_body
parameters_none s d end = (ap to_parameters (records_end s d end), ap to_body (records_end s d end))

-- a parameter and the rest
pub record ParameterAt (s : List ℕ) (d from end : ℕ) : Type 0 where
  pub room : TypeRoom s d from 1
  pub fits : stop_at s from ≤ end
  pub named : word_at s (from + 16) < name_count s
  pub type : FineRecord s (d - 1) (from + 20) (length s) a_type
  pub stops : stop_at s (from + 20) ≡ stop_at s from
  pub rest : FineList s d (stop_at s from) end Parameters
  pub parameters : parameters_at s d from end ≡ record { name = word_at s (from + 16); type = type_at s (d - 1) (from + 20) } ∷ parameters_at s d (stop_at s from) end
  pub body : body_at s d from end ≡ body_at s d (stop_at s from) end

-- a body, after which nothing follows
pub record BodyAt (s : List ℕ) (d from end : ℕ) : Type 0 where
  pub fine : FineRecord s d from (length s) a_statement
  pub stops : stop_at s from ≡ end
  pub parameters : parameters_at s d from end ≡ []
  pub body : body_at s d from end ≡ some (statement_at s d from)

module _ (s : List ℕ) (d from end : ℕ) (p : from < end) (l : FineList s d from end Parameters) where
  abbrev both : Due
  both = may_be_either a_parameter Parameters a_statement Nothing

  pieces : Split s d from end both
  unfolding due_in
  pieces = split_either s d from end Parameters both refl refl (λ (e : from ≡ end). omega arith) l

  pub parameter_at : kind_at s from ≡ 85 → ParameterAt s d from end
  unfolding shape_of due_in is_bad allowed to_parameters to_body state_after
  parameter_at e =
      let c : class_at s from ≡ a_parameter = ap (λ (k : ℕ). (shape_of k).class) e in
      let g : FineRecord s d from end a_parameter = subst (λ (x : ℕ). FineRecord s d from end x) c pieces.first in
      let o = opened_kind s d from end a_parameter 85 g e in
      let q : from + 16 + 4 * 1 ≡ from + 20 = omega arith in
      let t = one_type s (d - 1) (from + 20) (stop_at s from) (subst (λ (x : ℕ). FineList s (d - 1) x (stop_at s from) OneType) q o.children) in
      let n = node_of s d from end a_parameter 85 g e in
      record {
        room = room s d from end a_parameter 85 (from + 16 + 4 * 1) (stop_at s from) o;
        fits = o.room;
        named = ltb-true (word_at s (from + 16)) (name_count s) (not-false _ o.first);
        type = t.fine;
        stops = t.stops;
        rest = subst (λ (x : ℕ). FineList s d (stop_at s from) end (state_after both x)) c pieces.rest;
        parameters =
            ap to_parameters n
            ∙ ap (λ (x : ℕ). record { name = word_at s (from + 16); type = to_type (records_at s (d - 1) x (stop_at s from)) } ∷ parameters_at s d (stop_at s from) end) q
            ∙ ap (λ (x : ℕ). record { name = word_at s (from + 16); type = to_type (records_at s (d - 1) (from + 20) x) } ∷ parameters_at s d (stop_at s from) end) (sym t.stops);
        body = ap to_body n;
      }

  pub body_at_lem : (kind_at s from ≡ 85 → ⊥) → BodyAt s d from end
  unfolding due_in to_parameters to_body to_statements state_after
  body_at_lem ne =
      let n : class_at s from ≡ a_parameter → ⊥ = (λ h. ne (parameter_kind (kind_at s from) h)) in
      let c : class_at s from ≡ a_statement = ⊎_elim (λ (z : class_at s from ≡ a_parameter). absurd (n z)) (λ (z : class_at s from ≡ a_statement). z) (either_class a_parameter a_statement (class_at s from) Parameters Nothing pieces.stands) in
      let g : FineRecord s d from end a_statement = subst (λ (x : ℕ). FineRecord s d from end x) c pieces.first in
      let r : FineList s d (stop_at s from) end Nothing = subst (λ (x : ℕ). FineList s d (stop_at s from) end (state_after both x)) c pieces.rest in
      let x = ended s d (stop_at s from) end Nothing refl r in
      let k = kind_at s from in
      let w = node_of s d from end a_statement k g refl in
      let v = own_node s d from end a_statement k g refl in
      let b = ne_eqb k 85 ne in
      record {
        fine = fine_wide s d from end a_statement g;
        stops = x;
        parameters = ap to_parameters w ∙ rw b;
        body = ap to_body w ∙ rw b (ap some (sym (ap (λ (r : Records). first_statement (to_statements r)) v)));
      }
