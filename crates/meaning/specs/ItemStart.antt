-- "that place is counted from the start of its item": from a place in the file to one in an item.
use Rattle.std.specs.Prelude.{ℕ, ◌-◌, cond, List, [], ◌∷◌, leb}
use Rattle.names.specs.Names.{item_places}

-- The last of some places, which grow, that is not past another; `before` if there is none
unfoldable pub start_from : (before : ℕ) → (places : List ℕ) → (place : ℕ) → ℕ
start_from before [] place = before
start_from before (p ∷ ps) place = cond (leb p place) (start_from p ps place) before

-- The start of the item in which a place of the file lies
abbrev pub item_start : (input : List ℕ) → (place : ℕ) → ℕ
item_start input place = start_from 0 (item_places input) place

-- A place in the file, counted from the start of its item
abbrev pub place_in_item : (input : List ℕ) → (place : ℕ) → ℕ
place_in_item input place = place - item_start input place
