-- The stores of pass 2: every slot of every item, by its place in the file.
use Rattle.std.specs.Prelude.{ℕ, List, map}
use Rattle.names.specs.Names.{item_places, item_bytes}
use Rattle.trees.specs.Record.{item_tree}
use Rattle.meaning.specs.Context.{ModuleContext, each}
use Rattle.meaning.specs.Module.{item_slots}
use Rattle.walk.specs.Effect.{Store, store_from}

-- of the item at a place
abbrev pub item_stores : (input : List ℕ) → ModuleContext → (place : ℕ) → List Store
item_stores input ctx place = map (store_from place) (item_slots ctx (item_tree (item_bytes input place)))

-- of all items
abbrev pub module_stores : (input : List ℕ) → ModuleContext → List Store
module_stores input ctx = each (item_stores input ctx) (item_places input)
