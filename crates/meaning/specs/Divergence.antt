-- `do_all_paths_diverge`, with `find_statement` looking for a break.
use Rattle.std.specs.Prelude.{Bool, true, false, ◌&&◌, ◌||◌, not}
use Rattle.trees.specs.Tree.{Statement, block, expression, variable_declaration, assignment, compound_assignment, return}
use Rattle.trees.specs.Tree.{loop, while, break, «if», if_else, inline_assembly, no_statements, statement_then}

-- A break at any depth, inner loops included
unfoldable pub find_break : Statement → Bool
find_break (block l members) = find_break members
find_break (expression l e) = false
find_break (variable_declaration l name t value) = false
find_break (assignment l target value) = false
find_break (compound_assignment l target value) = false
find_break (return l value) = false
find_break (loop l body) = find_break body
find_break (while l condition body) = find_break body
find_break (break l) = true
find_break («if» l condition body) = find_break body
find_break (if_else l condition trueBody false_body) = find_break trueBody || find_break false_body
find_break (inline_assembly l) = false
find_break no_statements = false
find_break (statement_then s rest) = find_break s || find_break rest

-- Diverges: return; a block with any diverging member; an if whose two sides do; a while whose body does; a loop with no break at any depth,
-- or whose body does
unfoldable pub do_all_paths_diverge : Statement → Bool
do_all_paths_diverge (block l members) = do_all_paths_diverge members
do_all_paths_diverge (expression l e) = false
do_all_paths_diverge (variable_declaration l name t value) = false
do_all_paths_diverge (assignment l target value) = false
do_all_paths_diverge (compound_assignment l target value) = false
do_all_paths_diverge (return l value) = true
do_all_paths_diverge (loop l body) = not (find_break body) || do_all_paths_diverge body
do_all_paths_diverge (while l condition body) = do_all_paths_diverge body
do_all_paths_diverge (break l) = false
do_all_paths_diverge («if» l condition body) = false
do_all_paths_diverge (if_else l condition trueBody false_body) = do_all_paths_diverge trueBody && do_all_paths_diverge false_body
do_all_paths_diverge (inline_assembly l) = false
do_all_paths_diverge no_statements = false
do_all_paths_diverge (statement_then s rest) = do_all_paths_diverge s || do_all_paths_diverge rest
