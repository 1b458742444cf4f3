-- What a statement does to a context is what its declarations do, one after the other. Assumes nothing.
use Prim.Native.Nat.{ℕ}
use mathlib.Core.List.{List, [], ◌∷◌, ◌++◌}
use Rattle.types.specs.Ty.{Ty}
use Rattle.trees.specs.Tree.{Statement, block, expression, variable_declaration, assignment, compound_assignment, return, loop, while, break, «if», if_else, inline_assembly, no_statements, statement_then}
use Rattle.meaning.specs.Context.{Context}
use Rattle.meaning.specs.Convert.{convert_node_type}
use Rattle.meaning.specs.Statement.{declare_local, context_after, declared_names}

-- A relation of two contexts and the names declared in between: for no name, for one declaration, and for some names after others
module _ (R : List ℕ → Context → Context → Type 0) (none : (ctx : Context) → R [] ctx ctx) (one : (ctx : Context) (name : ℕ) (t : Ty) → R (name ∷ []) ctx (declare_local ctx name t))
    (then : (k l : List ℕ) (a b c : Context) → R k a b → R l b c → R (k ++ l) a c) where
  pub after : (t : Statement) (ctx : Context) → R (declared_names t) ctx (context_after ctx t)
  unfolding context_after declared_names
  after (block l members) ctx = after members ctx
  after (expression l e) ctx = none ctx
  after (variable_declaration l name t value) ctx = one ctx name (convert_node_type ctx.in_module t)
  after (assignment l target value) ctx = none ctx
  after (compound_assignment l target value) ctx = none ctx
  after (return l value) ctx = none ctx
  after (loop l body) ctx = after body ctx
  after (while l condition body) ctx = after body ctx
  after (break l) ctx = none ctx
  after («if» l condition body) ctx = after body ctx
  after (if_else l condition trueBody false_body) ctx = then (declared_names trueBody) (declared_names false_body) ctx (context_after ctx trueBody) _ (after trueBody ctx) (after false_body (context_after ctx trueBody))
  after (inline_assembly l) ctx = none ctx
  after no_statements ctx = none ctx
  after (statement_then s rest) ctx = then (declared_names s) (declared_names rest) ctx (context_after ctx s) _ (after s ctx) (after rest (context_after ctx s))
