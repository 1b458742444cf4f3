-- The tree of an item as a walk over the module's bytes meets it: its records know their places in the file.
use Rattle.std.specs.Prelude.{ℕ, ◌+◌, List, [], ◌∷◌, map}
use Rattle.layout.specs.Layout.{stop_at}
use Rattle.names.specs.Names.{item_places}
use Rattle.trees.specs.Record.{Records, no_records, record_then, records_at, item_of, to_item}
use Rattle.trees.specs.Tree.{Item}
use Rattle.meaning.specs.Convert.{Slot}

-- The item at a place; items stand at depth 2 of 64
abbrev pub module_item_at : (input : List ℕ) → (place : ℕ) → Item
module_item_at input place = to_item (records_at input 63 place (stop_at input place))

-- The items of a module
abbrev pub trees_at : (input : List ℕ) → List Item
trees_at input = map (module_item_at input) (item_places input)

-- The items among records, and of the records from one place to another, so many levels deep
unfoldable pub to_items : Records → List Item
to_items no_records = []
to_items (record_then h s children rest) = item_of h children ∷ to_items rest

abbrev pub items_at : List ℕ → (depth from end : ℕ) → List Item
items_at s d from end = to_items (records_at s d from end)

-- A slot of an item that stands at a place, by its place in the file
abbrev pub slot_at : (place : ℕ) → Slot → Slot
slot_at place s = record { at = place + s.at; type = s.type }
