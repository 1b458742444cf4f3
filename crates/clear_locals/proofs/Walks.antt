-- The walks that clear words, exit by exit. Assumes nothing.
use Prim.Native.Nat.{ℕ, ◌+◌, ◌-◌, ◌≤◌, ◌<◌}
use mathlib.Core.Path.{◌≡◌, refl, sym, ap, ◌∙◌, subst}
use mathlib.Core.Bool.{Bool, true, false}
use mathlib.Core.List.{List, [], ◌++◌, append-nil}
use native.Mathlib.Omega.{arith}
use lib.Dec.{eqb}
use borrow.Author.Tests.{eqb-true, eqb-false}
use lib.ListN.{length, set, length-set}
use Rattle.shape.specs.Shape.{a_type, a_statement, due_in}
use Rattle.shape.specs.declared.Holds.TheVariants.{Statements, Parameters}
use Rattle.record_bytes.specs.Bytes.{Read, half_at, word_at}
use Rattle.names.specs.Names.{name_count}
use Rattle.layout.specs.Layout.{kind_at, stop_at}
use Rattle.node.specs.Fine.{FineRecord, FineList, children_of}
use Rattle.trees.specs.Record.{statement_at, statements_at, parameters_at}
use Rattle.trees.specs.Tree.{Parameter, Statement, block, expression, variable_declaration, assignment, compound_assignment, return, loop, while, break, «if», if_else, inline_assembly, no_statements, statement_then}
use Rattle.node.proofs.Open.{SplitOne, split_may}
use Rattle.trees.proofs.Decode.{fine_wide}
use Rattle.trees.proofs.Statements.{statements_cons, statements_end, VariableAt, statement_variable, statement_kind, kind_of_lem}
use Rattle.trees.proofs.ItemTrees.{ParameterAt, parameters_none, parameter_at, body_at_lem}
use Rattle.meaning.specs.Statement.{declared_names}
use Rattle.walk.specs.Words.{word_place}
use Rattle.divergence.specs.InnerStatements.{inner_statements, InnerOf}
use Rattle.node.specs.declared.Entered.{Entered}
use Rattle.node.specs.declared.Nodes.{Nodes}
use Rattle.divergence.proofs.Walk.{Bounds, bounds, held_is}
use Rattle.clear_locals.specs.Cleared.{parameter_names, cleared_words}
use Rattle.clear_locals.proofs.Names.{cleared_append, cleared_wide}

-- But for a declaration, a statement declares what the statements in it declare
declared_inner : (t : Statement) → (statement_kind t ≡ 66 → ⊥) → declared_names t ≡ declared_names (inner_statements t)
unfolding declared_names statement_kind inner_statements
declared_inner (block l members) n = refl
declared_inner (expression l e) n = refl
declared_inner (variable_declaration l name t value) n = absurd (n refl)
declared_inner (assignment l target value) n = refl
declared_inner (compound_assignment l target value) n = refl
declared_inner (return l value) n = refl
declared_inner (loop l body) n = sym (append-nil (declared_names body))
declared_inner (while l condition body) n = sym (append-nil (declared_names body))
declared_inner (break l) n = refl
declared_inner («if» l condition body) n = sym (append-nil (declared_names body))
declared_inner (if_else l condition trueBody false_body) n = ap (λ (x : List ℕ). declared_names trueBody ++ x) (sym (append-nil (declared_names false_body)))
declared_inner (inline_assembly l) n = refl
declared_inner no_statements n = refl
declared_inner (statement_then s rest) n = refl

-- A statement
module _ {s : List ℕ} {d at : ℕ} (f : FineRecord s d at (length s) a_statement) {i : Entered} (o : InnerOf s (record { at = at; depth = d }) i) where
  module _ (e : i.kind ≡ 66) where
    variable : VariableAt s d at
    variable = statement_variable s d at (length s) f (sym o.kinds ∙ e)

    -- its name has bytes, and is one of the module's
    pub record Named : Type 0 where
      pub bytes : at + 36 ≤ length s
      pub named : word_at s (at + 16) < name_count s

    pub variable_named : Named
    variable_named =
        let b = bounds s (d - 1) (at + 20) (length s) a_type variable.type in
        record { bytes = omega (arith, b.head, b.stop); named = variable.named }

    pub variable_cleared : {name : ℕ} → Read (word_at s (at + 16)) 32 name → (work : List ℕ) {work' : List ℕ} → work' ≡ set work (word_place name 2) 0 → work' ≡ cleared_words 2 (declared_names (statement_at s d at)) work
    unfolding declared_names cleared_words
    variable_cleared read work q =
        q ∙ ap (λ (x : ℕ). set work (word_place x 2) 0) read.is ∙ sym (ap (λ (t : Statement). cleared_words 2 (declared_names t) work) variable.is)

  pub others_cleared : (i.kind ≡ 66 → ⊥) → {c : Nodes} → c ≡ children_of i → (work : List ℕ) {work' : List ℕ}
      → work' ≡ cleared_words 2 (declared_names (statements_at s c.depth c.from c.end)) work → work' ≡ cleared_words 2 (declared_names (statement_at s d at)) work
  others_cleared n h work q =
      q ∙ ap (λ (t : Statement). cleared_words 2 (declared_names t) work) (held_is s d at f i o h ∙ o.members)
      ∙ sym (ap (λ (x : List ℕ). cleared_words 2 x work) (declared_inner (statement_at s d at) (λ e. n (o.kinds ∙ sym (kind_of_lem s d at (length s) f) ∙ e))))

-- Statements: what is left to clear, after those before `at`, clears the whole
pub record ClearingBlock (s : List ℕ) (d from end : ℕ) (work₀ : List ℕ) (at : ℕ) (work : List ℕ) : Type 0 where
  pub rest : FineList s d at end Statements
  pub wide : length work ≡ length work₀
  pub whole : cleared_words 2 (declared_names (statements_at s d at end)) work ≡ cleared_words 2 (declared_names (statements_at s d from end)) work₀

-- Cited by nothing here now
pub block_start : {s : List ℕ} {d from end : ℕ} {work : List ℕ} → FineList s d from end Statements → ClearingBlock s d from end work from work
block_start f = record { rest = f; wide = refl; whole = refl }

module _ {s : List ℕ} {d from end : ℕ} {work₀ : List ℕ} {at : ℕ} {work : List ℕ} (c : ClearingBlock s d from end work₀ at work) where
  pub block_done : end ≤ at → work ≡ cleared_words 2 (declared_names (statements_at s d from end)) work₀
  unfolding declared_names cleared_words
  block_done p =
      let e : at ≡ end = omega (arith, c.rest.part.starts) in
      sym (ap (λ (t : Statement). cleared_words 2 (declared_names t) work) (ap (λ (x : ℕ). statements_at s d x end) e ∙ statements_end s d end)) ∙ c.whole

  module _ (more : at < end) where
    split : SplitOne s d at end a_statement Statements
    unfolding due_in
    split = split_may s d at end Statements a_statement Statements refl (omega arith) c.rest

    pub block_first : FineRecord s d at (length s) a_statement
    block_first = fine_wide s d at end a_statement split.first

    pub block_bounds : Bounds s d at
    block_bounds = bounds s d at (length s) a_statement block_first

    pub block_on : {work' : List ℕ} → work' ≡ cleared_words 2 (declared_names (statement_at s d at)) work → {next : ℕ} → next ≡ stop_at s at → ClearingBlock s d from end work₀ next work'
    unfolding declared_names
    block_on {work'} q {next} is = subst (λ (x : ℕ). ClearingBlock s d from end work₀ x work') (sym is) on
      where
        first : List ℕ
        first = declared_names (statement_at s d at)

        later : List ℕ
        later = declared_names (statements_at s d (stop_at s at) end)

        on : ClearingBlock s d from end work₀ (stop_at s at) work'
        on =
            record {
              rest = split.rest;
              wide = ap length q ∙ cleared_wide 2 first work ∙ c.wide;
              whole = ap (cleared_words 2 later) q ∙ sym (cleared_append 2 first later work)
                  ∙ sym (ap (λ (t : Statement). cleared_words 2 (declared_names t) work) (statements_cons s d at end a_statement split.first))
                  ∙ c.whole;
            }

-- Parameters: likewise
pub record ClearingParameters (s : List ℕ) (d from end : ℕ) (work₀ : List ℕ) (at : ℕ) (work : List ℕ) : Type 0 where
  pub rest : FineList s d at end Parameters
  pub wide : length work ≡ length work₀
  pub whole : cleared_words 3 (parameter_names (parameters_at s d at end)) work ≡ cleared_words 3 (parameter_names (parameters_at s d from end)) work₀

-- Cited by nothing here now
pub parameters_start : {s : List ℕ} {d from end : ℕ} {work : List ℕ} → FineList s d from end Parameters → ClearingParameters s d from end work from work
parameters_start f = record { rest = f; wide = refl; whole = refl }

module _ {s : List ℕ} {d from end : ℕ} {work₀ : List ℕ} {at : ℕ} {work : List ℕ} (c : ClearingParameters s d from end work₀ at work) where
  -- no parameter is left
  all : parameters_at s d at end ≡ [] → work ≡ cleared_words 3 (parameter_names (parameters_at s d from end)) work₀
  unfolding parameter_names cleared_words
  all none = sym (ap (λ (l : List Parameter). cleared_words 3 (parameter_names l) work) none) ∙ c.whole

  pub parameters_end : end ≤ at → work ≡ cleared_words 3 (parameter_names (parameters_at s d from end)) work₀
  parameters_end p =
      let e : at ≡ end = omega (arith, c.rest.part.starts) in
      all (ap (λ (x : ℕ). parameters_at s d x end) e ∙ (parameters_none s d end).0)

  pub parameters_room : at < end → at + 16 ≤ length s
  parameters_room more = go (eqb (kind_at s at) 85) refl
    where
      go : (b : Bool) → eqb (kind_at s at) 85 ≡ b → at + 16 ≤ length s
      go true q = let p = parameter_at s d at end more c.rest (eqb-true (kind_at s at) 85 q) in omega (arith, p.room.head, p.room.ends)
      go false q =
          let b = bounds s d at (length s) a_statement (body_at_lem s d at end more c.rest (eqb-false (kind_at s at) 85 q)).fine in
          omega (arith, b.head, b.stop)

  module _ (more : at < end) {k : ℕ} (read : Read (half_at s (at + 4)) 16 k) where
    pub parameters_body : (k ≡ 85 → ⊥) → work ≡ cleared_words 3 (parameter_names (parameters_at s d from end)) work₀
    parameters_body ne = all (body_at_lem s d at end more c.rest (λ e. ne (read.is ∙ e))).parameters

    module _ (e : k ≡ 85) where
      pub parameter : ParameterAt s d at end
      parameter = parameter_at s d at end more c.rest (sym read.is ∙ e)

      pub parameters_on : {name : ℕ} → Read (word_at s (at + 16)) 32 name → {work' : List ℕ} → work' ≡ set work (word_place name 3) 0 → {next : ℕ} → next ≡ stop_at s at
          → ClearingParameters s d from end work₀ next work'
      unfolding parameter_names cleared_words
      parameters_on name {work'} q {next} is = subst (λ (x : ℕ). ClearingParameters s d from end work₀ x work') (sym is) on
        where
          n : ℕ
          n = word_at s (at + 16)

          set_n : work' ≡ set work (word_place n 3) 0
          set_n = q ∙ ap (λ (x : ℕ). set work (word_place x 3) 0) name.is

          on : ClearingParameters s d from end work₀ (stop_at s at) work'
          on =
              record {
                rest = parameter.rest;
                wide = ap length set_n ∙ length-set work (word_place n 3) 0 ∙ c.wide;
                whole = ap (cleared_words 3 (parameter_names (parameters_at s d (stop_at s at) end))) set_n
                    ∙ sym (ap (λ (l : List Parameter). cleared_words 3 (parameter_names l) work) parameter.parameters)
                    ∙ c.whole;
              }
