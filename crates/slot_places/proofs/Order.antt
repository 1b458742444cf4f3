-- The slots that an item's tree gets are those of its records, in byte order: none is forgotten, none is invented. Assumes nothing.
use Prim.Native.Nat.{ℕ, zero, suc, ◌+◌, ◌-◌, ◌≤◌, ◌<◌}
use mathlib.Core.Path.{◌≡◌, refl, sym, ◌∙◌, ap, ap₂, subst}
use mathlib.Core.Bool.{Bool, true, false, cond, ◌||◌}
use mathlib.Core.List.{List, [], ◌∷◌, ◌++◌, map, map-append, append-nil, append_assoc}
use mathlib.Core.Logic.{◌⊎◌, ⊎_elim}
use lib.ListN.{length}
use lib.Dec.{eqb}
use native.Mathlib.Omega.{arith}
use borrow.Author.Tests.{eqb-true, eqb-false, ne_eqb, eq-eqb}
use Rattle.shape.specs.Shape.{pick, shape_of, due_in, may_stand, state_after, a_type, a_field, an_expression, a_compound, a_compound_field, a_statement, an_item, a_parameter}
use Rattle.shape.specs.declared.Holds.{Holds}
use Rattle.shape.specs.declared.Holds.TheVariants.{Nothing, FreeBytes, OneModule, NamesThenItems, Items, Names, OneType, Fields, OneExpression, TwoExpressions, CallParts, Expressions, ExpressionThenType, CompoundFields, Statements, Declaration, InitialValue, ExpressionThenCompound, OneCompound, OptionalExpression, OneStatement, ExpressionThenStatement, IfParts, ThenPart, OptionalStatement, FunctionParts, Parameters}
use Rattle.shape.proofs.ShapeLaws.{kind_range, type_kind_lem, expression_kind, compound_kind, statement_kind_lem, item_kind}
use Rattle.names.specs.Names.{item_bytes}
use Rattle.layout.specs.Layout.{kind_at, class_at, stop_at}
use Rattle.node.specs.Fine.{FineRecord}
use Rattle.trees.specs.Tree.{Location, Expression, Statement}
use Rattle.trees.specs.Record.{RecordHead, Records, no_records, record_then, next, has_slot, holds_free_bytes, record_head_at, bytes_at, records_at, slot_places, item_slot_places}
use Rattle.trees.specs.Record.{type_of, to_type, expression_of, to_expressions, to_expression, second_expression, expression_list, later_expressions, compound_of, to_compound, to_compound_fields, to_initial_value, to_optional}
use Rattle.trees.specs.Record.{statement_of, to_statements, statement_list, first_statement, later_statements, if_of, to_parameters, to_body, item_of, to_item, item_tree}
use Rattle.node.proofs.Open.{either_class}
use Rattle.trees.proofs.Decode.{fine_own, records_end}
use Rattle.trees.proofs.Statements.{next_records}
use Rattle.meaning.specs.Context.{ModuleContext, Context, context, blank, each}
use Rattle.meaning.specs.Convert.{Slot, convert_node_type, conversion_slots}
use Rattle.meaning.specs.Expression.{expression_slots}
use Rattle.meaning.specs.Compound.{compound_slots, initial_slots}
use Rattle.meaning.specs.Statement.{declare_local, context_after, return_slots, statement_slots}
use Rattle.meaning.specs.Module.{parameter_slots, function_context, body_slots, item_slots}
use Rattle.slot_places.specs.Absolute.{module_item_at, slot_at}
use Rattle.slot_places.proofs.Induction.{Standing, Children, fine_item}
use Rattle.slot_places.proofs.Items.{same_at}
use Rattle.slot_places.proofs.Spaces.{slots_at, own_places}

never : {A : Type 0} → false ≡ true → A
never e = absurd (let z : ◌≡◌ {A = ℕ} 0 1 = cc in omega arith)

-- By a number from `low` on
abbrev From : (ℕ → Type 0) → (low n : ℕ) → Type 0
From P low zero = Unit {0}
From P low (suc n) = From P low n × P (low + n)

among : (P : ℕ → Type 0) (low n : ℕ) → From P low n → (k : ℕ) → low ≤ k → k < low + n → P k
among P low zero h k a b = absurd (omega arith)
among P low (suc n) h k a b = go (eqb k (low + n)) refl (among P low n h.0 k a)
  where
    go : (t : Bool) → eqb k (low + n) ≡ t → (k < low + n → P k) → P k
    go true e rest = subst P (sym (eqb-true k (low + n) e)) h.1
    go false e rest = let d = eqb-false k (low + n) e in rest (omega (arith, d))

-- Records that follow each other as the list of records says, at any depth
unfoldable pub Conforms : Holds → Records → Type 0
Conforms st no_records = (due_in st).free || (due_in st).ends ≡ true
Conforms st (record_then h s children rest) =
    Standing (due_in st) (shape_of h.kind).class × Conforms (shape_of h.kind).holds children × Conforms (state_after (due_in st) (shape_of h.kind).class) rest

module _ (s : List ℕ) where
  abbrev Conforming : (depth at end : ℕ) → Holds → Records → Type 0
  Conforming d at end st r = Conforms st r

  conforms_nil : (d end : ℕ) (st : Holds) → (due_in st).ends ≡ true → Conforming d end end st no_records
  unfolding Conforms
  conforms_nil d end st e = go (due_in st).free e
    where
      go : (b : Bool) → (due_in st).ends ≡ true → b || (due_in st).ends ≡ true
      go true q = refl
      go false q = q

  conforms_cons : (d at end : ℕ) (st : Holds) → Standing (due_in st) (class_at s at) → FineRecord s d at end (class_at s at)
      → (free : Bool) → holds_free_bytes (kind_at s at) ≡ free → (children rest : Records) → Children s Conforming free d at children
      → Conforming d (stop_at s at) end (state_after (due_in st) (class_at s at)) rest → Conforming d at end st (record_then (record_head_at s at) (bytes_at s at) children rest)
  unfolding Conforms
  conforms_cons d at end st standing f free e children rest kids tail = (standing, inner free e kids, tail)
    where
      inner : (b : Bool) → holds_free_bytes (kind_at s at) ≡ b → Children s Conforming b d at children → Conforms (shape_of (kind_at s at)).holds children
      inner true q k = rw k (ap (λ (x : Bool). x || (due_in (shape_of (kind_at s at)).holds).ends) q)
      inner false q k = k

  conforms : (d at end : ℕ) → FineRecord s d at end an_item → Conforms Items (records_at s d at (stop_at s at))
  conforms d at end f = fine_item s Conforming conforms_nil conforms_cons d at end f

-- The places of slots in a list
abbrev pub places_of : List Slot → List ℕ
places_of slots = map (λ (s : Slot). s.at + 16) slots

-- What the slots of the trees of a child list are, by the state at its start
unfoldable Claim : Holds → Records → Type 0
Claim Nothing c = slot_places c ≡ []
Claim FreeBytes c = slot_places c ≡ []
Claim OneModule c = Unit {0}
Claim NamesThenItems c = Unit {0}
Claim Items c = (m : ModuleContext) → places_of (item_slots m (to_item c)) ++ slot_places (next c) ≡ slot_places c
Claim Names c = Unit {0}
Claim OneType c = (m : ModuleContext) → places_of (conversion_slots m (to_type c)) ≡ slot_places c
Claim Fields c = (m : ModuleContext) → places_of (conversion_slots m (to_type c)) ≡ slot_places c
Claim OneExpression c = (ctx : Context) → places_of (expression_slots ctx (to_expression c)) ≡ slot_places c
Claim TwoExpressions c = (ctx : Context) → places_of (expression_slots ctx (to_expression c) ++ expression_slots ctx (second_expression (to_expressions c))) ≡ slot_places c
Claim CallParts c = (ctx : Context) → places_of (expression_slots ctx (to_expression c) ++ expression_slots ctx (expression_list (later_expressions (to_expressions c)))) ≡ slot_places c
Claim Expressions c = (ctx : Context) → places_of (expression_slots ctx (expression_list (to_expressions c))) ≡ slot_places c
Claim ExpressionThenType c = (ctx : Context) → places_of (expression_slots ctx (to_expression c) ++ conversion_slots ctx.in_module (to_type (next c))) ≡ slot_places c
Claim CompoundFields c = (ctx : Context) → places_of (each (λ f. expression_slots ctx f.value) (to_compound_fields c)) ≡ slot_places c
Claim Statements c = (ctx : Context) → places_of (statement_slots ctx (statement_list (to_statements c))) ≡ slot_places c
Claim Declaration c = (m : ModuleContext) (ctx : Context) → places_of (conversion_slots m (to_type c) ++ initial_slots ctx (to_initial_value (next c))) ≡ slot_places c
Claim InitialValue c = (ctx : Context) → places_of (initial_slots ctx (to_initial_value c)) ≡ slot_places c
Claim ExpressionThenCompound c = (ctx : Context) → places_of (expression_slots ctx (to_expression c) ++ compound_slots ctx (to_compound (next c))) ≡ slot_places c
Claim OneCompound c = (ctx : Context) → places_of (compound_slots ctx (to_compound c)) ≡ slot_places c
Claim OptionalExpression c = (ctx : Context) → places_of (return_slots ctx (to_optional c)) ≡ slot_places c
Claim OneStatement c = (ctx : Context) → places_of (statement_slots ctx (first_statement (to_statements c))) ≡ slot_places c
Claim ExpressionThenStatement c =
    (ctx : Context) → places_of (expression_slots ctx (to_expression c) ++ statement_slots ctx (first_statement (later_statements (to_statements c)))) ≡ slot_places c
Claim IfParts c = (l : Location) (ctx : Context) → places_of (statement_slots ctx (if_of l (to_expression c) (later_statements (to_statements c)))) ≡ slot_places c
Claim ThenPart c =
    (l : Location) (e : Expression) (ctx : Context) → places_of (statement_slots ctx (if_of l e (to_statements c))) ≡ places_of (expression_slots ctx e) ++ slot_places c
Claim OptionalStatement c =
    (l : Location) (e : Expression) (t : Statement) (ctx : Context)
    → places_of (statement_slots ctx (if_of l e (t ∷ to_statements c))) ≡ places_of (expression_slots ctx e) ++ places_of (statement_slots ctx t) ++ slot_places c
Claim FunctionParts c =
    (m : ModuleContext) (ctx : Context)
    → places_of (conversion_slots m (to_type c) ++ each (parameter_slots m) (to_parameters (next c)) ++ body_slots ctx (to_body (next c))) ≡ slot_places c
Claim Parameters c = (m : ModuleContext) (ctx : Context) → places_of (each (parameter_slots m) (to_parameters c) ++ body_slots ctx (to_body c)) ≡ slot_places c

-- Lists of places
both : (x y : List Slot) {a b : List ℕ} → places_of x ≡ a → places_of y ≡ b → places_of (x ++ y) ≡ a ++ b
both x y p q = map-append (λ (s : Slot). s.at + 16) x y ∙ ap₂ ◌++◌ p q

alone : (a b : List ℕ) → b ≡ [] → a ≡ a ++ b
alone a b e = sym (append-nil a) ∙ ap (λ x. a ++ x) (sym e)

-- The slot of a record and those in it
abbrev own : RecordHead → (children : Records) → List ℕ
own h c = cond (has_slot h.kind) ((h.location.at + 16) ∷ []) [] ++ slot_places c

-- A head with another kind
abbrev at_kind : RecordHead → (kind : ℕ) → RecordHead
at_kind h k = record { location = h.location; kind = k; first = h.first; second = h.second }

-- The slots of one record, by its kind, where those in it are known
module _ (h : RecordHead) (s : List ℕ) (c : Records) where
  slotted : {x : List ℕ} → x ≡ slot_places c → (h.location.at + 16) ∷ x ≡ (h.location.at + 16) ∷ slot_places c
  slotted e = ap (λ y. (h.location.at + 16) ∷ y) e

  type_first : (rest : Records) → (shape_of h.kind).class ≡ a_type → Claim (shape_of h.kind).holds c
      → (m : ModuleContext) → places_of (conversion_slots m (type_of h (to_type c) (to_type rest))) ≡ own h c
  unfolding Claim shape_of conversion_slots
  type_first rest e =
      let r = type_kind_lem h.kind e in
      among (λ k. Claim (shape_of k).holds c → (m : ModuleContext) → places_of (conversion_slots m (type_of (at_kind h k) (to_type c) (to_type rest))) ≡ own (at_kind h k) c) 16 5
      (((((tt, λ q m. slotted (sym q)), λ q m. slotted (sym q)), λ q m. slotted (q m)), λ q m. slotted (q m)), λ q m. slotted (q m))
      h.kind r.0 (omega (arith, r.1))

  expression_first : (shape_of h.kind).class ≡ an_expression → Claim (shape_of h.kind).holds c
      → (ctx : Context) → places_of (expression_slots ctx (expression_of h s (to_expressions c) (to_type c) (to_type (next c)))) ≡ own h c
  unfolding Claim shape_of expression_slots
  expression_first e =
      let r = expression_kind h.kind e in
      among (λ k. Claim (shape_of k).holds c → (ctx : Context) → places_of (expression_slots ctx (expression_of (at_kind h k) s (to_expressions c) (to_type c) (to_type (next c)))) ≡ own (at_kind h k) c) 32 16 (
        (
          (
            (
              (
                (
                  (
                    (
                      (
                        (
                          (
                            (
                              ((((tt, λ q ctx. slotted (sym q)), λ q ctx. slotted (sym q)), λ q ctx. slotted (sym q)), λ q ctx. slotted (sym q)),
                              λ q ctx. slotted (q ctx),
                            ),
                            λ q ctx. slotted (q ctx),
                          ),
                          λ q ctx. slotted (q ctx),
                        ),
                        λ q ctx. slotted (q ctx),
                      ),
                      λ q ctx. slotted (q ctx),
                    ),
                    λ q ctx. slotted (q ctx),
                  ),
                  λ q ctx. slotted (q ctx),
                ),
                λ q ctx. slotted (q ctx),
              ),
              λ q ctx. slotted (q ctx),
            ),
            λ q ctx. slotted (q ctx),
          ),
          λ q ctx. slotted (q ctx),
        ),
        λ q ctx. slotted (q ctx.in_module),
      )
      h.kind r.0 (omega (arith, r.1))

  compound_first : (shape_of h.kind).class ≡ a_compound → Claim (shape_of h.kind).holds c → (ctx : Context) → places_of (compound_slots ctx (compound_of h c)) ≡ own h c
  unfolding Claim shape_of compound_slots
  compound_first e =
      let r = compound_kind h.kind e in
      among (λ k. Claim (shape_of k).holds c → (ctx : Context) → places_of (compound_slots ctx (compound_of (at_kind h k) c)) ≡ own (at_kind h k) c) 48 2
      ((tt, λ q ctx. q ctx), λ q ctx. q ctx) h.kind r.0 (omega (arith, r.1))

  second_next : (c : Records) → to_expression (next c) ≡ second_expression (to_expressions c)
  unfolding to_expressions
  second_next no_records = refl
  second_next (record_then h s children rest) = refl

  statement_first : (shape_of h.kind).class ≡ a_statement → Claim (shape_of h.kind).holds c
      → (ctx : Context) → places_of (statement_slots ctx (statement_of h c (to_statements c))) ≡ own h c
  unfolding Claim shape_of statement_slots
  statement_first e =
      let r = statement_kind_lem h.kind e in
      among (λ k. Claim (shape_of k).holds c → (ctx : Context) → places_of (statement_slots ctx (statement_of (at_kind h k) c (to_statements c))) ≡ own (at_kind h k) c) 64 11 (
        (
          (
            (
              (
                (
                  (
                    (
                      (((tt, λ q ctx. q ctx), λ q ctx. q ctx), λ q ctx. q ctx.in_module (declare_local ctx h.first (convert_node_type ctx.in_module (to_type c)))),
                      λ q ctx. ap (λ (x : Expression). places_of (expression_slots ctx (to_expression c) ++ expression_slots ctx x)) (second_next c) ∙ q ctx,
                    ),
                    λ q ctx. q ctx,
                  ),
                  λ q ctx. q ctx,
                ),
                λ q ctx. q ctx,
              ),
              λ q ctx. q ctx,
            ),
            λ q ctx. sym q,
          ),
          λ q ctx. q h.location ctx,
        ),
        λ q ctx. sym q,
      )
      h.kind r.0 (omega (arith, r.1))

  item_first : (shape_of h.kind).class ≡ an_item → Claim (shape_of h.kind).holds c → (m : ModuleContext) → places_of (item_slots m (item_of h c)) ≡ own h c
  unfolding Claim shape_of item_slots
  item_first e =
      let r = item_kind h.kind e in
      among (λ k. Claim (shape_of k).holds c → (m : ModuleContext) → places_of (item_slots m (item_of (at_kind h k) c)) ≡ own (at_kind h k) c) 80 5
      (((((tt, λ q m. q m (function_context m (to_type c) (to_parameters (next c)))), λ q m. q m), λ q m. sym q), λ q m. q m (context m blank)), λ q m. sym q)
      h.kind r.0 (omega (arith, r.1))

-- A class that must or may stand
pub must_class : (c x : ℕ) → eqb x c || eqb x c ≡ true → x ≡ c
must_class c x e = go (eqb x c) refl e
  where
    go : (b : Bool) → eqb x c ≡ b → b || b ≡ true → x ≡ c
    go true f g = eqb-true x c f
    go false f g = never g

-- The state after it
next_state : (b : Bool) (st : Holds) (rest : Records) → Claim (pick b st st) rest → Claim st rest
next_state true st rest q = q
next_state false st rest q = q

-- A record of the class that is due, and the state after it
follows : (c : ℕ) (next : Holds) (h : RecordHead) (rest : Records) → eqb (shape_of h.kind).class c || eqb (shape_of h.kind).class c ≡ true
    → Claim (pick (eqb (shape_of h.kind).class c) next next) rest → ((shape_of h.kind).class ≡ c) × Claim next rest
follows c next h rest e n = (must_class c (shape_of h.kind).class e, next_state (eqb (shape_of h.kind).class c) next rest n)

-- No records
claim_nil : (st : Holds) → (due_in st).free || (due_in st).ends ≡ true → Claim st no_records
unfolding due_in Claim slot_places to_type conversion_slots to_expressions expression_list expression_slots to_compound_fields each to_statements statement_list statement_slots initial_slots to_parameters to_body item_slots
claim_nil Nothing e = refl
claim_nil FreeBytes e = refl
claim_nil OneModule e = tt
claim_nil NamesThenItems e = tt
claim_nil Items e = λ m. refl
claim_nil Names e = tt
claim_nil OneType e = never e
claim_nil Fields e = λ m. refl
claim_nil OneExpression e = never e
claim_nil TwoExpressions e = never e
claim_nil CallParts e = never e
claim_nil Expressions e = λ ctx. refl
claim_nil ExpressionThenType e = never e
claim_nil CompoundFields e = λ ctx. refl
claim_nil Statements e = λ ctx. refl
claim_nil Declaration e = never e
claim_nil InitialValue e = λ ctx. refl
claim_nil ExpressionThenCompound e = never e
claim_nil OneCompound e = never e
claim_nil OptionalExpression e = λ ctx. refl
claim_nil OneStatement e = never e
claim_nil ExpressionThenStatement e = never e
claim_nil IfParts e = never e
claim_nil ThenPart e = never e
claim_nil OptionalStatement e = λ l x t ctx. both (expression_slots ctx x) (statement_slots ctx t) refl refl ∙ sym (append-nil _)
claim_nil FunctionParts e = never e
claim_nil Parameters e = λ m ctx. refl

module _ (h : RecordHead) (s : List ℕ) (c rest : Records) (q : Claim (shape_of h.kind).holds c) where
  -- One record alone
  one : {x : List ℕ} → x ≡ own h c → Claim Nothing rest → x ≡ own h c ++ slot_places rest
  unfolding Claim
  one e n = e ∙ alone (own h c) (slot_places rest) n

  -- A record 21, 50 or 85 by its kind
  field_own : (m : ModuleContext) → (shape_of h.kind).class ≡ a_field → Claim Fields rest
      → places_of (conversion_slots m (type_of h (to_type c) (to_type rest))) ≡ own h c ++ slot_places rest
  unfolding Claim shape_of conversion_slots
  field_own m e n =
      let r = kind_range a_field 21 21 h.kind refl (omega arith) e in
      among (λ k. Claim (shape_of k).holds c → places_of (conversion_slots m (type_of (at_kind h k) (to_type c) (to_type rest))) ≡ own (at_kind h k) c ++ slot_places rest) 21 1
      (tt, λ q. both (conversion_slots m (to_type c)) (conversion_slots m (to_type rest)) (q m) (n m)) h.kind r.0 (omega (arith, r.1)) q

  value_own : (ctx : Context) → (shape_of h.kind).class ≡ a_compound_field → places_of (expression_slots ctx (to_expression c)) ≡ own h c
  unfolding Claim shape_of
  value_own ctx e =
      let r = kind_range a_compound_field 50 50 h.kind refl (omega arith) e in
      among (λ k. Claim (shape_of k).holds c → places_of (expression_slots ctx (to_expression c)) ≡ own (at_kind h k) c) 50 1 (tt, λ q. q ctx) h.kind r.0 (omega (arith, r.1)) q

  parameter_own : (m : ModuleContext) (ctx : Context) → (shape_of h.kind).class ≡ a_parameter → Claim Parameters rest
      → places_of (each (parameter_slots m) (to_parameters (record_then h s c rest)) ++ body_slots ctx (to_body (record_then h s c rest))) ≡ own h c ++ slot_places rest
  unfolding Claim shape_of each to_parameters to_body
  parameter_own m ctx e n =
      let r = kind_range a_parameter 85 85 h.kind refl (omega arith) e in
      let ps = each (parameter_slots m) (to_parameters rest) in
      among (λ k. Claim (shape_of k).holds c
      → places_of (each (parameter_slots m) (to_parameters (record_then (at_kind h k) s c rest)) ++ body_slots ctx (to_body (record_then (at_kind h k) s c rest))) ≡ own (at_kind h k) c ++ slot_places rest) 85 1 (
        tt,
        λ q. ap places_of (append_assoc (conversion_slots m (to_type c)) ps (body_slots ctx (to_body rest)))
            ∙ both (conversion_slots m (to_type c)) (ps ++ body_slots ctx (to_body rest)) (q m) (n m ctx),
      ) h.kind r.0 (omega (arith, r.1)) q

  body_own : (m : ModuleContext) (ctx : Context) → (shape_of h.kind).class ≡ a_statement
      → places_of (each (parameter_slots m) (to_parameters (record_then h s c rest)) ++ body_slots ctx (to_body (record_then h s c rest))) ≡ own h c
  unfolding each to_parameters to_body
  body_own m ctx e =
      let r = statement_kind_lem h.kind e in
      rw (ne_eqb h.kind 85 (omega (arith, r.1))) (statement_first h s c e q ctx)

  value_first : (ctx : Context) → ((shape_of h.kind).class ≡ an_expression) ⊎ ((shape_of h.kind).class ≡ a_compound) → places_of (initial_slots ctx (to_initial_value (record_then h s c rest))) ≡ own h c
  unfolding initial_slots to_expressions
  value_first ctx =
      ⊎_elim
      (λ (e : (shape_of h.kind).class ≡ an_expression). let r = expression_kind h.kind e in
      rw (ne_eqb h.kind 48 (omega (arith, r.1)), ne_eqb h.kind 49 (omega (arith, r.1))) (expression_first h s c e q ctx))
      (λ (e : (shape_of h.kind).class ≡ a_compound). let r = compound_kind h.kind e in
      rw (compound_test h.kind r.0 r.1) (compound_first h s c e q ctx))
    where
      compound_test : (k : ℕ) → 48 ≤ k → k ≤ 49 → eqb k 48 || eqb k 49 ≡ true
      compound_test k a b = go (eqb k 48) refl
        where
          go : (b : Bool) → eqb k 48 ≡ b → b || eqb k 49 ≡ true
          go true x = refl
          go false x = let y = eqb-false k 48 x in eq-eqb k 49 (omega (arith, y))

-- A record, and the records after it
claim_cons : (st : Holds) (h : RecordHead) (s : List ℕ) (c rest : Records) → Standing (due_in st) (shape_of h.kind).class → Claim (shape_of h.kind).holds c
    → Claim (state_after (due_in st) (shape_of h.kind).class) rest → Claim st (record_then h s c rest)
unfolding due_in may_stand state_after Claim slot_places to_type to_expressions expression_list expression_slots to_compound_fields each to_statements statement_list statement_slots
claim_cons Nothing h s c rest d q n = never (sym d.listed)
claim_cons FreeBytes h s c rest d q n = never (sym d.listed)
claim_cons OneModule h s c rest d q n = tt
claim_cons NamesThenItems h s c rest d q n = tt
claim_cons Items h s c rest d q n =
    let e = must_class an_item (shape_of h.kind).class d.stands in
    λ m. ap (λ x. x ++ slot_places rest) (item_first h s c e q m)
claim_cons Names h s c rest d q n = tt
claim_cons OneType h s c rest d q n =
    let e = follows a_type Nothing h rest d.stands n in
    λ m. one h s c rest q (type_first h s c rest e.0 q m) e.1
claim_cons Fields h s c rest d q n =
    let e = follows a_field Fields h rest d.stands n in
    λ m. field_own h s c rest q m e.0 e.1
claim_cons OneExpression h s c rest d q n =
    let e = follows an_expression Nothing h rest d.stands n in
    λ ctx. one h s c rest q (expression_first h s c e.0 q ctx) e.1
claim_cons TwoExpressions h s c rest d q n =
    let e = follows an_expression OneExpression h rest d.stands n in
    λ ctx. both (expression_slots ctx (to_expression (record_then h s c rest))) (expression_slots ctx (to_expression rest)) (expression_first h s c e.0 q ctx) (e.1 ctx)
claim_cons CallParts h s c rest d q n =
    let e = follows an_expression Expressions h rest d.stands n in
    λ ctx. both (expression_slots ctx (to_expression (record_then h s c rest))) (expression_slots ctx (expression_list (to_expressions rest))) (expression_first h s c e.0 q ctx) (e.1 ctx)
claim_cons Expressions h s c rest d q n =
    let e = follows an_expression Expressions h rest d.stands n in
    λ ctx. both (expression_slots ctx (to_expression (record_then h s c rest))) (expression_slots ctx (expression_list (to_expressions rest))) (expression_first h s c e.0 q ctx) (e.1 ctx)
claim_cons ExpressionThenType h s c rest d q n =
    let e = follows an_expression OneType h rest d.stands n in
    λ ctx. both (expression_slots ctx (to_expression (record_then h s c rest))) (conversion_slots ctx.in_module (to_type rest)) (expression_first h s c e.0 q ctx) (e.1 ctx.in_module)
claim_cons CompoundFields h s c rest d q n =
    let e = follows a_compound_field CompoundFields h rest d.stands n in
    λ ctx. both (expression_slots ctx (to_expression c)) (each (λ f. expression_slots ctx f.value) (to_compound_fields rest)) (value_own h s c rest q ctx e.0) (e.1 ctx)
claim_cons Statements h s c rest d q n =
    let e = follows a_statement Statements h rest d.stands n in
    λ ctx. both (statement_slots ctx (statement_of h c (to_statements c))) (statement_slots (context_after ctx (statement_of h c (to_statements c))) (statement_list (to_statements rest))) (statement_first h s c e.0 q ctx) (e.1 (context_after ctx (statement_of h c (to_statements c))))
claim_cons Declaration h s c rest d q n =
    let e = follows a_type InitialValue h rest d.stands n in
    λ m ctx. both (conversion_slots m (to_type (record_then h s c rest))) (initial_slots ctx (to_initial_value rest)) (type_first h s c rest e.0 q m) (e.1 ctx)
claim_cons InitialValue h s c rest d q n =
    let e = either_class an_expression a_compound (shape_of h.kind).class Nothing Nothing d.stands in
    let after = next_state (eqb (shape_of h.kind).class an_expression) Nothing rest n in
    λ ctx. one h s c rest q (value_first h s c rest q ctx e) after
claim_cons ExpressionThenCompound h s c rest d q n =
    let e = follows an_expression OneCompound h rest d.stands n in
    λ ctx. both (expression_slots ctx (to_expression (record_then h s c rest))) (compound_slots ctx (to_compound rest)) (expression_first h s c e.0 q ctx) (e.1 ctx)
claim_cons OneCompound h s c rest d q n =
    let e = follows a_compound Nothing h rest d.stands n in
    λ ctx. one h s c rest q (compound_first h s c e.0 q ctx) e.1
claim_cons OptionalExpression h s c rest d q n =
    let e = follows an_expression Nothing h rest d.stands n in
    λ ctx. one h s c rest q (expression_first h s c e.0 q ctx) e.1
claim_cons OneStatement h s c rest d q n =
    let e = follows a_statement Nothing h rest d.stands n in
    λ ctx. one h s c rest q (statement_first h s c e.0 q ctx) e.1
claim_cons ExpressionThenStatement h s c rest d q n =
    let e = follows an_expression OneStatement h rest d.stands n in
    λ ctx. both (expression_slots ctx (to_expression (record_then h s c rest))) (statement_slots ctx (first_statement (to_statements rest))) (expression_first h s c e.0 q ctx) (e.1 ctx)
claim_cons IfParts h s c rest d q n =
    let e = follows an_expression ThenPart h rest d.stands n in
    λ l ctx. e.1 l (to_expression (record_then h s c rest)) ctx ∙ ap (λ x. x ++ slot_places rest) (expression_first h s c e.0 q ctx)
claim_cons ThenPart h s c rest d q n =
    let e = follows a_statement OptionalStatement h rest d.stands n in
    λ l x ctx. e.1 l x (statement_of h c (to_statements c)) ctx
    ∙ ap (λ y. places_of (expression_slots ctx x) ++ y ++ slot_places rest) (statement_first h s c e.0 q ctx)
    ∙ append_assoc (places_of (expression_slots ctx x)) (own h c) (slot_places rest)
claim_cons OptionalStatement h s c rest d q n =
    let e = follows a_statement Nothing h rest d.stands n in
    λ l x t ctx. both (expression_slots ctx x ++ statement_slots ctx t) (statement_slots (context_after ctx t) (statement_of h c (to_statements c))) (both (expression_slots ctx x) (statement_slots ctx t) refl refl) (one h s c rest q (statement_first h s c e.0 q (context_after ctx t)) e.1)
claim_cons FunctionParts h s c rest d q n =
    let e = follows a_type Parameters h rest d.stands n in
    λ m ctx. ap places_of (append_assoc (conversion_slots m (to_type (record_then h s c rest))) (each (parameter_slots m) (to_parameters rest)) (body_slots ctx (to_body rest)))
    ∙ both (conversion_slots m (to_type (record_then h s c rest))) (each (parameter_slots m) (to_parameters rest) ++ body_slots ctx (to_body rest)) (type_first h s c rest e.0 q m) (e.1 m ctx)
claim_cons Parameters h s c rest d q n =
    λ m ctx. ⊎_elim
    (λ (e : (shape_of h.kind).class ≡ a_parameter). parameter_own h s c rest q m ctx e (rw (eq-eqb (shape_of h.kind).class a_parameter e) at n))
    (λ (e : (shape_of h.kind).class ≡ a_statement). one h s c rest q (body_own h s c rest q m ctx e) (rw (ne_eqb (shape_of h.kind).class a_parameter (omega arith)) at n))
    (either_class a_parameter a_statement (shape_of h.kind).class Parameters Nothing d.stands)

-- By induction over the records
claim : (r : Records) (st : Holds) → Conforms st r → Claim st r
unfolding Conforms
claim no_records st e = claim_nil st e
claim (record_then h s children rest) st e =
    claim_cons st h s children rest e.0 (claim children (shape_of h.kind).holds e.1) (claim rest (state_after (due_in st) (shape_of h.kind).class) e.2)

-- The slots of the item at a place are those of its records, in byte order
pub slots_at_lem : (input : List ℕ) (p : ℕ) → FineRecord input 63 p (length input) an_item → (m : ModuleContext) → places_of (item_slots m (module_item_at input p)) ≡ slots_at input p
unfolding Claim slot_places
slots_at_lem input p f m =
    let n = next_records input 63 p (stop_at input p) an_item (fine_own input 63 p (length input) an_item f) ∙ records_end input 63 (stop_at input p) in
    go (records_at input 63 p (stop_at input p)) (ap slot_places n) (claim (records_at input 63 p (stop_at input p)) Items (conforms input 63 p (length input) f) m)
  where
    go : (r : Records) → slot_places (next r) ≡ [] → places_of (item_slots m (to_item r)) ++ slot_places (next r) ≡ slot_places r → places_of (item_slots m (to_item r)) ≡ slot_places r
    go r n e = alone (places_of (item_slots m (to_item r))) (slot_places (next r)) n ∙ e

-- Numbers that grow by the same are the same
take_away : (p : ℕ) (l : List ℕ) → map (λ n. n - p) (map (λ n. p + n) l) ≡ l
take_away p [] = refl
take_away p (x ∷ l) = let e : p + x - p ≡ x = omega arith in λ i. e i ∷ take_away p l i

moved_slots : (p : ℕ) (l : List Slot) → places_of (map (slot_at p) l) ≡ map (λ n. p + n) (places_of l)
moved_slots p [] = refl
moved_slots p (s ∷ l) = let e : p + s.at + 16 ≡ p + (s.at + 16) = omega arith in λ i. e i ∷ moved_slots p l i

-- The slots of an item, by its own bytes: none is forgotten, none is invented
pub slots_own : (input : List ℕ) (p : ℕ) → FineRecord input 63 p (length input) an_item
    → (m : ModuleContext) → places_of (item_slots m (item_tree (item_bytes input p))) ≡ item_slot_places (item_bytes input p)
slots_own input p f m =
    let slots : List Slot = item_slots m (item_tree (item_bytes input p)) in
    let e : map (λ n. p + n) (places_of slots) ≡ map (λ n. p + n) (item_slot_places (item_bytes input p)) =
    sym (moved_slots p slots) ∙ ap places_of (sym ((same_at input p f).slots m)) ∙ slots_at_lem input p f m ∙ own_places input p f in
    sym (take_away p (places_of slots)) ∙ ap (map (λ n. n - p)) e ∙ take_away p (item_slot_places (item_bytes input p))
