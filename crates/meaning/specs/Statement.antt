-- `type_check_statement`: the context after an S record, its errors, and its slots in byte order.
use Rattle.std.specs.Prelude.{ℕ, Bool, cond, not, List, [], ◌∷◌, ◌++◌}
use Rattle.std.proofs.Math.Option.{Option, none, some}
use Rattle.types.specs.Ty.{Ty, void, bool, same}
use Rattle.trees.specs.Tree.{Location, Expression, Statement, block, expression, variable_declaration}
use Rattle.trees.specs.Tree.{assignment, compound_assignment, return, loop, while, break, «if», if_else, inline_assembly}
use Rattle.trees.specs.Tree.{no_statements, statement_then}
use Rattle.meaning.specs.TypeError.{TypeError, unless, local_redefined, return_needs_value}
use Rattle.meaning.specs.Context.{Context, context, Entry, entry, insert, is_some}
use Rattle.meaning.specs.Convert.{Slot, convert_node_type, conversion_errors, conversion_slots}
use Rattle.meaning.specs.Expression.{expression_type, expression_errors, expression_slots, check_assignable}
use Rattle.meaning.specs.Compound.{compound_errors, compound_slots, initial_errors, initial_slots}

-- Whether a local of the name is declared already
abbrev pub is_local : Context → (name : ℕ) → Bool
is_local ctx name = is_some (ctx.in_function.variables name)

abbrev pub with_local : Entry → Context → Context
with_local e ctx =
    context ctx.in_module (record { variables = insert e ctx.in_function.variables; arguments = ctx.in_function.arguments; return_type = ctx.in_function.return_type })

-- A redefinition keeps the first type
abbrev pub declare_local : Context → (name : ℕ) → Ty → Context
declare_local ctx name t = cond (is_local ctx name) ctx (with_local (entry name t) ctx)

-- Locals are function-wide: the context that the next statement meets
unfoldable pub context_after : Context → Statement → Context
context_after ctx (block l members) = context_after ctx members
context_after ctx (expression l e) = ctx
context_after ctx (variable_declaration l name t value) = declare_local ctx name (convert_node_type ctx.in_module t)
context_after ctx (assignment l target value) = ctx
context_after ctx (compound_assignment l target value) = ctx
context_after ctx (return l value) = ctx
context_after ctx (loop l body) = context_after ctx body
context_after ctx (while l condition body) = context_after ctx body
context_after ctx (break l) = ctx
context_after ctx («if» l condition body) = context_after ctx body
context_after ctx (if_else l condition trueBody false_body) = context_after (context_after ctx trueBody) false_body
context_after ctx (inline_assembly l) = ctx
context_after ctx no_statements = ctx
context_after ctx (statement_then s rest) = context_after (context_after ctx s) rest

-- The names of the variables that a statement declares, at any depth
unfoldable pub declared_names : Statement → List ℕ
declared_names (block l members) = declared_names members
declared_names (expression l e) = []
declared_names (variable_declaration l name t value) = name ∷ []
declared_names (assignment l target value) = []
declared_names (compound_assignment l target value) = []
declared_names (return l value) = []
declared_names (loop l body) = declared_names body
declared_names (while l condition body) = declared_names body
declared_names (break l) = []
declared_names («if» l condition body) = declared_names body
declared_names (if_else l condition trueBody false_body) = declared_names trueBody ++ declared_names false_body
declared_names (inline_assembly l) = []
declared_names no_statements = []
declared_names (statement_then s rest) = declared_names s ++ declared_names rest

-- Return without a value is permitted only where void itself is returned
abbrev pub return_errors : Context → Location → Option Expression → List TypeError
return_errors ctx l none = unless (same ctx.in_function.return_type void) (return_needs_value l ctx.in_function.return_type)
return_errors ctx l (some e) = expression_errors ctx e ++ check_assignable l ctx.in_function.return_type (expression_type ctx e)

abbrev pub return_slots : Context → Option Expression → List Slot
return_slots ctx none = []
return_slots ctx (some e) = expression_slots ctx e

-- A condition should be a boolean
abbrev pub condition_errors : Context → Location → Expression → List TypeError
condition_errors ctx l e = expression_errors ctx e ++ check_assignable l bool (expression_type ctx e)

-- A redefinition's value is compared with the new type, and a local is known inside its own first value
unfoldable pub statement_errors : Context → Statement → List TypeError
statement_errors ctx (block l members) = statement_errors ctx members
statement_errors ctx (expression l e) = expression_errors ctx e
statement_errors ctx (variable_declaration l name t value) =
    conversion_errors ctx.in_module t ++ unless (not (is_local ctx name)) (local_redefined l name)
    ++ initial_errors (declare_local ctx name (convert_node_type ctx.in_module t)) (convert_node_type ctx.in_module t) value
statement_errors ctx (assignment l target value) =
    expression_errors ctx target ++ expression_errors ctx value ++ check_assignable l (expression_type ctx target) (expression_type ctx value)
statement_errors ctx (compound_assignment l target value) = expression_errors ctx target ++ compound_errors ctx (expression_type ctx target) value
statement_errors ctx (return l value) = return_errors ctx l value
statement_errors ctx (loop l body) = statement_errors ctx body
statement_errors ctx (while l condition body) = condition_errors ctx l condition ++ statement_errors ctx body
statement_errors ctx (break l) = []
statement_errors ctx («if» l condition body) = condition_errors ctx l condition ++ statement_errors ctx body
statement_errors ctx (if_else l condition trueBody false_body) =
    condition_errors ctx l condition ++ statement_errors ctx trueBody ++ statement_errors (context_after ctx trueBody) false_body
statement_errors ctx (inline_assembly l) = []
statement_errors ctx no_statements = []
statement_errors ctx (statement_then s rest) = statement_errors ctx s ++ statement_errors (context_after ctx s) rest

unfoldable pub statement_slots : Context → Statement → List Slot
statement_slots ctx (block l members) = statement_slots ctx members
statement_slots ctx (expression l e) = expression_slots ctx e
statement_slots ctx (variable_declaration l name t value) =
    conversion_slots ctx.in_module t ++ initial_slots (declare_local ctx name (convert_node_type ctx.in_module t)) value
statement_slots ctx (assignment l target value) = expression_slots ctx target ++ expression_slots ctx value
statement_slots ctx (compound_assignment l target value) = expression_slots ctx target ++ compound_slots ctx value
statement_slots ctx (return l value) = return_slots ctx value
statement_slots ctx (loop l body) = statement_slots ctx body
statement_slots ctx (while l condition body) = expression_slots ctx condition ++ statement_slots ctx body
statement_slots ctx (break l) = []
statement_slots ctx («if» l condition body) = expression_slots ctx condition ++ statement_slots ctx body
statement_slots ctx (if_else l condition trueBody false_body) =
    expression_slots ctx condition ++ statement_slots ctx trueBody ++ statement_slots (context_after ctx trueBody) false_body
statement_slots ctx (inline_assembly l) = []
statement_slots ctx no_statements = []
statement_slots ctx (statement_then s rest) = statement_slots ctx s ++ statement_slots (context_after ctx s) rest
