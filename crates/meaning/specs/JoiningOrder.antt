-- Demand 3: two runs, over a module and over the same names list with the same items in any other order.
use Rattle.std.specs.Prelude.{ℕ, suc, ◌<◌, ◌≡◌, Bool, false, cond, ◌&&◌, eqb, length, get_or}
use mathlib.Core.List.{List, [], ◌∷◌, ◌++◌, map, Nodup, Mem}
use Rattle.types.specs.Ty.{same}
use Rattle.types.specs.Table.{SameSizes}
use Rattle.fallible.specs.Outcome.{Outcome, refused, accepted}
use Rattle.record_bytes.specs.Bytes.{byte_at}
use Rattle.layout.specs.Layout.{Good, is_empty_file, layout_of}
use Rattle.names.specs.Names.{names_of, items_of, same_bytes}
use Rattle.trees.specs.Record.{item_slot_places}
use Rattle.trees.specs.Tree.{TypeNode, name_type, void_type, pointer_type, array_type, struct_type, no_fields, field_then}
use Rattle.trees.specs.Tree.{Parameter, Item, function_definition, type_alias, global_declaration, other_item}
use Rattle.meaning.specs.TypeError.{TypeError, Operand, plain, row}
use Rattle.meaning.specs.Context.{each}
use Rattle.meaning.specs.Promise.{Counts, Buffers, lengths_of, Checked, trees_of, item_at, output_at, item_count}
use Rattle.meaning.specs.Promise.{in_slot, slot_types, error_list_of, from_item}

-- A run: what it was given, what it left and what it answered
pub record Run : Type 0 where
  pub input : List ℕ
  pub before : Buffers
  pub after : Buffers
  pub answer : Outcome Counts

-- It meets the promise
abbrev pub Meets : Run → Type 0
Meets run = Checked run.input run.before run.after run.answer

-- How often something stands in a list, by a test of equality
unfoldable pub times_in : {A : Type 0} → (equal : A → A → Bool) → A → List A → ℕ
times_in equal a [] = 0
times_in equal a (b ∷ l) = cond (equal a b) (suc (times_in equal a l)) (times_in equal a l)

-- Another order has the same name bytes, number by number, and the same item records, byte for byte and each equally often; both or
-- neither are the file of no bytes
pub record AnotherOrder (m k : List ℕ) : Type 0 where
  pub names : names_of m ≡ names_of k
  pub items : (bytes : List ℕ) → times_in same_bytes bytes (items_of m) ≡ times_in same_bytes bytes (items_of k)
  pub empty : is_empty_file m ≡ is_empty_file k

-- What the records 16 at any depth in a type name
unfoldable pub named_in : TypeNode → List ℕ
named_in (name_type l name) = name ∷ []
named_in (void_type l) = []
named_in (pointer_type l t) = named_in t
named_in (array_type l size t) = named_in t
named_in (struct_type l fields) = named_in fields
named_in no_fields = []
named_in (field_then name t rest) = named_in t ++ named_in rest

abbrev pub named_in_parameter : Parameter → List ℕ
named_in_parameter p = named_in p.type

-- What an item's declared types name: the T records directly in it and in its parameters
unfoldable pub names_in_declared_types : Item → List ℕ
names_in_declared_types (function_definition l name returned parameters body) = named_in returned ++ each named_in_parameter parameters
names_in_declared_types (type_alias l name is_distinct internal t) = named_in t
names_in_declared_types (global_declaration l name t value) = named_in t
names_in_declared_types other_item = []

-- The name of a function or a variable
unfoldable pub global_name : Item → List ℕ
global_name (function_definition l name returned parameters body) = name ∷ []
global_name (type_alias l name is_distinct internal t) = []
global_name (global_declaration l name t value) = name ∷ []
global_name other_item = []

-- The name of a non-internal alias
unfoldable pub alias_name : Item → List ℕ
alias_name (function_definition l name returned parameters body) = []
alias_name (type_alias l name is_distinct internal t) = cond internal [] (name ∷ [])
alias_name (global_declaration l name t value) = []
alias_name other_item = []

abbrev pub tree_at : (input : List ℕ) → (i : ℕ) → Item
tree_at input i = get_or (trees_of input) i other_item

-- What demand 3 supposes of each of the two modules
pub record Supposed (input : List ℕ) : Type 0 where
  -- it passes tests 1 to 3
  pub layout : layout_of input ≡ Good
  -- no two functions or variables share a name
  pub globals : Nodup (each global_name (trees_of input))
  -- no two non-internal aliases do
  pub aliases : Nodup (each alias_name (trees_of input))
  -- every such alias (item j) precedes each item (i) whose declared types name it
  pub precedes : (i j name : ℕ) → i < length (trees_of input) → j < length (trees_of input)
      → Mem name (names_in_declared_types (tree_at input i)) → Mem name (alias_name (tree_at input j)) → j < i

-- Two items of the same input bytes are alike: their output agrees outside the slots, and their slots' rows unfold to the same
pub record Alike (bytes output rows output' rows' : List ℕ) : Type 0 where
  pub long : length output ≡ length output'
  pub others : (i : ℕ) → in_slot (item_slot_places bytes) i ≡ false → byte_at output i ≡ byte_at output' i
  pub slots : slot_types rows output (item_slot_places bytes) ≡ slot_types rows' output' (item_slot_places bytes)

-- Two errors are the same when all their words are, operands that are row numbers unfolded and the place counted from the start of its item
unfoldable pub same_operand : Operand → Operand → Bool
same_operand (plain m) (plain n) = eqb m n
same_operand (plain m) (row u) = false
same_operand (row t) (plain n) = false
same_operand (row t) (row u) = same t u

abbrev pub same_error : TypeError → TypeError → Bool
same_error e f =
    eqb e.kind f.kind && eqb e.file f.file && eqb e.line f.line && eqb e.column f.column
    && same_operand e.first f.first && same_operand e.second f.second && same_operand e.third f.third && eqb e.place f.place

-- What holds of the two runs where both are accepted
pub record AcceptedAlike (c d : Run) (countsC countsD : Counts) : Type 0 where
  pub rows : countsC.rows ≡ countsD.rows
  pub sizes : SameSizes c.after.rows d.after.rows countsC.rows countsD.rows
  pub error_counts : countsC.errors ≡ countsD.errors
  pub items : (i j : ℕ) → i < item_count c.input → j < item_count d.input → item_at c.input i ≡ item_at d.input j
      → Alike (item_at c.input i) (output_at c.input c.after.output i) c.after.rows (output_at d.input d.after.output j) d.after.rows
  pub errors : (e : TypeError)
      → times_in same_error e (map (from_item c.input) (error_list_of c.after.rows c.after.errors countsC.errors))
      ≡ times_in same_error e (map (from_item d.input) (error_list_of d.after.rows d.after.errors countsD.errors))

-- The one is refused exactly when the other is, with the same number and place; where both are accepted they are alike
abbrev pub SameOutcome : (c d : Run) → Outcome Counts → Outcome Counts → Type 0
SameOutcome c d (refused n p) (refused m q) = (n ≡ m) × (p ≡ q)
SameOutcome c d (refused n p) (accepted countsD) = ⊥
SameOutcome c d (accepted countsC) (refused m q) = ⊥
SameOutcome c d (accepted countsC) (accepted countsD) = AcceptedAlike c d countsC countsD

-- Demand 3 as one statement over both whole runs; every other buffer is of equal length in both, whatever it held before
abbrev pub JoiningOrder : Type 0
JoiningOrder =
    (c d : Run) → Meets c → Meets d → lengths_of c.before ≡ lengths_of d.before → AnotherOrder c.input d.input → Supposed c.input → Supposed d.input
    → SameOutcome c d c.answer d.answer
