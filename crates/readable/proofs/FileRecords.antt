-- In a file with no fault in its layout every name field is the number of a name, every operator is one, and the records of kind 33 are its
-- literals. Assumes nothing.
use Prim.Native.Nat.{ℕ}
use mathlib.Core.Path.{◌≡◌, refl, sym, ◌∙◌, ap, subst}
use mathlib.Core.Bool.{Bool, true, false, cond, ◌&&◌, ◌||◌, false≢true}
use mathlib.Core.List.{List, [], ◌∷◌, ◌++◌}
use mathlib.Core.Logic.{inl, inr}
use native.Mathlib.Omega.{arith}
use lib.Dec.{eqb, ltb}
use borrow.Author.Tests.{eqb-true, eqb-false, ltb-true}
use Rattle.shape.specs.Kinds as kinds
use Rattle.shape.specs.Shape.{shape_of, due_in, may_stand, state_after, allowed, a_compound_field, a_compound, an_expression}
use Rattle.shape.specs.declared.Rule.{Rule}
use Rattle.shape.specs.declared.Rule.TheVariants.{Unused, Slot, Name, Any, Base, Flag, Operator, Comparison, Flags}
use Rattle.shape.specs.declared.Holds.{Holds}
use Rattle.shape.specs.declared.Holds.TheVariants.{CompoundFields, OneCompound, ExpressionThenCompound}
use Rattle.shape.proofs.ShapeLaws.{and_both, kind_range, compound_kind}
use Rattle.record_bytes.specs.Bytes.{word_at, head_end, field_end}
use Rattle.names.specs.Names.{name_count}
use Rattle.layout.specs.Layout.{kind_at, class_at, stop_at}
use Rattle.node.specs.Fine.{FineRecord, FineList}
use Rattle.trees.specs.Record.{RecordHead, Records, no_records, record_then, next, field_count, holds_free_bytes, record_head_at, bytes_at, records_at}
use Rattle.node.proofs.Open.{opened, good_field, name_field, operator_field}
use Rattle.meaning.proofs.TreeWords.{other_test, InField, InNames, InStruct, InRecord, InRecords}
use Rattle.slot_places.proofs.Spaces.{all_shapes, shape_passes}
use Rattle.slot_places.proofs.Order.{must_class}
use Rattle.slot_places.proofs.Induction.{TakesRecords, Standing, Children, fine_induction}
use Rattle.listing.specs.Literals.{literals_in, Among}
use Rattle.readable.specs.Readable.{IsName, IsOperator}

-- Of the list of records: a field that a kind does not have is neither a name nor an operator
abbrev is_silent : Rule → Bool
is_silent Unused = true
is_silent Slot = true
is_silent Name = false
is_silent Any = true
is_silent Base = true
is_silent Flag = true
is_silent Operator = false
is_silent Comparison = true
is_silent Flags = true

silent : (k : ℕ) → (ltb 0 (field_count k) ≡ false → is_silent (shape_of k).first ≡ true) × (ltb 1 (field_count k) ≡ false → is_silent (shape_of k).second ≡ true)
unfolding all_shapes
silent k =
    let r = shape_of k in
    let p = shape_passes (λ x. (ltb 0 x.fields || is_silent x.first) && (ltb 1 x.fields || is_silent x.second)) refl k in
    let q = and_both (ltb 0 r.fields || is_silent r.first) (ltb 1 r.fields || is_silent r.second) p in
    (other_test (ltb 0 r.fields) (is_silent r.first) q.0, other_test (ltb 1 r.fields) (is_silent r.second) q.1)

-- One of a list is one of a longer
among_right : (p : ℕ) (a b : List ℕ) → Among p b → Among p (a ++ b)
unfolding Among
among_right p [] b h = h
among_right p (x ∷ a) b h = inr (among_right p a b h)

among_left : (p : ℕ) (a b : List ℕ) → Among p a → Among p (a ++ b)
unfolding Among
among_left p [] b h = absurd h
among_left p (x ∷ a) b (inl e) = inl e
among_left p (x ∷ a) b (inr h) = inr (among_left p a b h)

module _ (s : List ℕ) (L : ℕ → Type 0) where
  abbrev N : ℕ → Type 0
  N = IsName s

  -- A field whose value its rule allows
  allowed_field : (r : Rule) (v : ℕ) → allowed (name_count s) r v ≡ true → InField N IsOperator L r v
  allowed_field Unused v e = tt
  allowed_field Slot v e = tt
  allowed_field Name v e = name_field (name_count s) v e
  allowed_field Any v e = tt
  allowed_field Base v e = tt
  allowed_field Flag v e = tt
  allowed_field Operator v e = let p = operator_field (name_count s) v e in (p.0, omega (arith, p.1))
  allowed_field Comparison v e = tt
  allowed_field Flags v e = tt

  silent_field : (r : Rule) (v : ℕ) → is_silent r ≡ true → InField N IsOperator L r v
  silent_field Unused v e = tt
  silent_field Slot v e = tt
  silent_field Name v e = absurd (false≢true e)
  silent_field Any v e = tt
  silent_field Base v e = tt
  silent_field Flag v e = tt
  silent_field Operator v e = absurd (false≢true e)
  silent_field Comparison v e = tt
  silent_field Flags v e = tt

  field_by : (b : Bool) (r : Rule) (v : ℕ) → (b ≡ true → allowed (name_count s) r v ≡ true) → (b ≡ false → is_silent r ≡ true) → InField N IsOperator L r (cond b v 0)
  field_by true r v p q = allowed_field r v (p refl)
  field_by false r v p q = silent_field r 0 (q refl)

  -- The fields of a record with no fault
  module _ (d at end c : ℕ) (f : FineRecord s d at end c) where
    first_field : InField N IsOperator L (shape_of (kind_at s at)).first (record_head_at s at).first
    first_field =
        let o = opened s d at end c f in
        let r = shape_of (kind_at s at) in
        field_by (ltb 0 r.fields) r.first (word_at s (head_end at))
        (λ e. good_field (name_count s) s 1 r.fields r.first (head_end at) o.first (omega (arith, ltb-true 0 r.fields e))) (silent (kind_at s at)).0

    second_field : InField N IsOperator L (shape_of (kind_at s at)).second (record_head_at s at).second
    second_field =
        let o = opened s d at end c f in
        let r = shape_of (kind_at s at) in
        field_by (ltb 1 r.fields) r.second (word_at s (field_end at))
        (λ e. good_field (name_count s) s 2 r.fields r.second (field_end at) o.second (omega (arith, ltb-true 1 r.fields e))) (silent (kind_at s at)).1

  -- What is known of the records of a child list, by its state
  record Kept (st : Holds) (r : Records) : Type 0 where
    pub records : InRecords N IsOperator L r
    pub names : st ≡ CompoundFields → InNames N IsOperator L r
    pub struct : st ≡ OneCompound → InStruct N IsOperator L r
    pub after : st ≡ ExpressionThenCompound → InStruct N IsOperator L (next r)

  kept_none : (st : Holds) → Kept st no_records
  unfolding InRecords InNames
  kept_none st = record { records = tt; names = λ _. tt; struct = λ _. tt; after = λ _. tt }

  -- if all literals among them have the property
  abbrev Keeps : (depth at end : ℕ) → Holds → Records → Type 0
  Keeps d at end st r = ((p : ℕ) → Among p (literals_in r) → L p) → Kept st r

  -- A record and the records after it
  module _ (d at end : ℕ) (st : Holds) (standing : Standing (due_in st) (class_at s at)) (f : FineRecord s d at end (class_at s at)) (children rest : Records)
      (kids : Kept (shape_of (kind_at s at)).holds children) (tail : Kept (state_after (due_in st) (class_at s at)) rest) where
    class_due : (c : ℕ) (h : Holds) → st ≡ h → ((e : ℕ) → may_stand (due_in h) e ≡ true → e ≡ c) → class_at s at ≡ c
    class_due c h e g = g (class_at s at) (subst (λ (x : Holds). may_stand (due_in x) (class_at s at) ≡ true) e standing.stands)

    state_then : (c : ℕ) (h g : Holds) → st ≡ h → class_at s at ≡ c → state_after (due_in h) c ≡ g → state_after (due_in st) (class_at s at) ≡ g
    state_then c h g e q r = ap (λ (x : Holds). state_after (due_in x) (class_at s at)) e ∙ ap (state_after (due_in h)) q ∙ r

    holds_names : kind_at s at ≡ kinds.struct_compound → InNames N IsOperator L children
    unfolding shape_of
    holds_names e = kids.names (ap (λ (x : ℕ). (shape_of x).holds) e)

    holds_target : kind_at s at ≡ kinds.compound_assignment → InStruct N IsOperator L (next children)
    unfolding shape_of
    holds_target e = kids.after (ap (λ (x : ℕ). (shape_of x).holds) e)

    name_first : kind_at s at ≡ kinds.compound_field → N (record_head_at s at).first
    unfolding shape_of
    name_first e = subst (λ (x : ℕ). InField N IsOperator L (shape_of x).first (record_head_at s at).first) e (first_field d at end (class_at s at) f)

    fields_due : (e : ℕ) → may_stand (due_in CompoundFields) e ≡ true → e ≡ a_compound_field
    unfolding may_stand due_in
    fields_due e q = must_class a_compound_field e q

    compound_due : (e : ℕ) → may_stand (due_in OneCompound) e ≡ true → e ≡ a_compound
    unfolding may_stand due_in
    compound_due e q = must_class a_compound e q

    target_due : (e : ℕ) → may_stand (due_in ExpressionThenCompound) e ≡ true → e ≡ an_expression
    unfolding may_stand due_in
    target_due e q = must_class an_expression e q

    names_kept : st ≡ CompoundFields → N (record_head_at s at).first × InNames N IsOperator L rest
    unfolding state_after due_in
    names_kept e =
        let c = class_due a_compound_field CompoundFields e fields_due in
        let r = kind_range a_compound_field kinds.compound_field kinds.compound_field (kind_at s at) refl (omega arith) c in
        (name_first (omega (arith, r.0, r.1)), tail.names (state_then a_compound_field CompoundFields CompoundFields e c refl))

    struct_kept : st ≡ OneCompound → eqb (kind_at s at) kinds.array_compound ≡ false → InNames N IsOperator L children
    struct_kept e n =
        let r = compound_kind (kind_at s at) (class_due a_compound OneCompound e compound_due) in
        let ne = eqb-false (kind_at s at) kinds.array_compound n in
        holds_names (omega (arith, r.0, r.1, ne))

    after_kept : st ≡ ExpressionThenCompound → InStruct N IsOperator L rest
    unfolding state_after due_in
    after_kept e = tail.struct (state_then an_expression ExpressionThenCompound OneCompound e (class_due an_expression ExpressionThenCompound e target_due) refl)

    kept_cons : (eqb (kind_at s at) kinds.integer ≡ true → L at) → Kept st (record_then (record_head_at s at) (bytes_at s at) children rest)
    unfolding InRecords InNames
    kept_cons l =
        let here : InRecord N IsOperator L (record_head_at s at) children =
        record {
          first = first_field d at end (class_at s at) f;
          second = second_field d at end (class_at s at) f;
          literal = l;
          fields = λ e. holds_names (eqb-true (kind_at s at) kinds.struct_compound e);
          target = λ e. holds_target (eqb-true (kind_at s at) kinds.compound_assignment e);
        } in
        record { records = (here, (kids.records, tail.records)); names = names_kept; struct = struct_kept; after = after_kept }

  -- The literals of a record and of the records after it
  module _ (h : RecordHead) (bytes : List ℕ) (children rest : Records) (all : (p : ℕ) → Among p (literals_in (record_then h bytes children rest)) → L p) where
    in_own : eqb h.kind kinds.integer ≡ true → L h.location.at
    unfolding literals_in Among
    in_own e =
        let there : Among h.location.at (cond (eqb h.kind kinds.integer) (h.location.at ∷ []) []) =
        subst (λ (b : Bool). Among h.location.at (cond b (h.location.at ∷ []) [])) (sym e) (inl refl) in
        all h.location.at
        (among_left h.location.at (cond (eqb h.kind kinds.integer) (h.location.at ∷ []) [] ++ literals_in children) (literals_in rest)
        (among_left h.location.at (cond (eqb h.kind kinds.integer) (h.location.at ∷ []) []) (literals_in children) there))

    in_children : (p : ℕ) → Among p (literals_in children) → L p
    unfolding literals_in
    in_children p a =
        all p (among_left p (cond (eqb h.kind kinds.integer) (h.location.at ∷ []) [] ++ literals_in children) (literals_in rest)
        (among_right p (cond (eqb h.kind kinds.integer) (h.location.at ∷ []) []) (literals_in children) a))

    in_rest : (p : ℕ) → Among p (literals_in rest) → L p
    unfolding literals_in
    in_rest p a = all p (among_right p (cond (eqb h.kind kinds.integer) (h.location.at ∷ []) [] ++ literals_in children) (literals_in rest) a)

  keeps_nil : (d end : ℕ) (st : Holds) → (due_in st).ends ≡ true → Keeps d end end st no_records
  keeps_nil d end st e all = kept_none st

  keeps_children : (d at : ℕ) (free : Bool) (children : Records) → Children s Keeps free d at children → ((p : ℕ) → Among p (literals_in children) → L p)
      → Kept (shape_of (kind_at s at)).holds children
  keeps_children d at true children e all = subst (Kept (shape_of (kind_at s at)).holds) (sym e) (kept_none (shape_of (kind_at s at)).holds)
  keeps_children d at false children h all = h all

  keeps_cons : (d at end : ℕ) (st : Holds) → Standing (due_in st) (class_at s at) → FineRecord s d at end (class_at s at)
      → (free : Bool) → holds_free_bytes (kind_at s at) ≡ free → (children rest : Records) → Children s Keeps free d at children
      → Keeps d (stop_at s at) end (state_after (due_in st) (class_at s at)) rest → Keeps d at end st (record_then (record_head_at s at) (bytes_at s at) children rest)
  keeps_cons d at end st standing f free ef children rest kids tail all =
      let h = record_head_at s at in
      kept_cons d at end st standing f children rest
      (keeps_children d at free children kids (in_children h (bytes_at s at) children rest all)) (tail (in_rest h (bytes_at s at) children rest all))
      (in_own h (bytes_at s at) children rest all)

  -- The records of a list with no fault
  pub fine_records : (d at end : ℕ) (st : Holds) → TakesRecords st → FineList s d at end st → ((p : ℕ) → Among p (literals_in (records_at s d at end)) → L p)
      → InRecords N IsOperator L (records_at s d at end)
  fine_records d at end st t l all = (fine_induction s Keeps keeps_nil keeps_cons d at end st t l all).records
