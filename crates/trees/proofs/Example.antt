-- Of document 01's module of 112 bytes the layout, names and items, and the faults of some shorter files, by computation. Assumes nothing.
use Prim.Native.Nat.{ℕ}
use mathlib.Core.Path.{◌≡◌, refl}
use mathlib.Core.List.{List, [], ◌∷◌, ◌++◌, map}
use mathlib.Core.Option.{some}
use lib.ListN.{length, take}
use Rattle.shape.specs.Shape.{shape_of, due_in, is_done, may_stand, state_after, allowed}
use Rattle.record_bytes.specs.Bytes.{half_at, word_at}
use Rattle.names.specs.Names.{stands, chain, names_end, name_places, name_bytes, names_of, name_count, same_bytes, is_among, index_of, number_of, repeat_in, repeated_name, name_refusal, item_places, item_bytes, items_of}
use Rattle.layout.specs.Layout.{Good, is_bad, head_at, list_at, record_at, layout_of, layout_refusal}
use Rattle.trees.specs.Tree.{location, name_type, no_value, global_declaration}
use Rattle.trees.specs.Record.{records_with, records_at, to_type, item_tree, slot_places, item_slot_places}
use Rattle.trees.specs.Example.{head, word, example}
use Rattle.std.proofs.Common.{None}

good : (length example ≡ 112) × (layout_of example ≡ Good) × (name_count example ≡ 2) × (names_of example ≡ (120 ∷ []) ∷ (117 ∷ 49 ∷ 55 ∷ []) ∷ []) × (item_places example ≡ 68 ∷ []) × (repeated_name example ≡ None) × (number_of example (117 ∷ 49 ∷ 54 ∷ []) ≡ 2)
unfolding half_at word_at shape_of due_in is_done may_stand state_after allowed stands chain names_end name_places name_bytes names_of name_count same_bytes is_among index_of number_of repeat_in repeated_name item_places is_bad head_at list_at record_at layout_of
good = (refl, refl, refl, refl, refl, refl, refl)

-- the file of no bytes
empty : layout_of [] ≡ Good
unfolding layout_of
empty = refl

-- one byte, a module head alone, a byte after the module, a name field past the names
faults : (layout_refusal (layout_of (16 ∷ [])) ≡ some (2, 0)) × (layout_refusal (layout_of (head 16 1 0 0)) ≡ some (2, 16)) × (layout_refusal (layout_of (example ++ (0 ∷ []))) ≡ some (2, 112)) × (layout_refusal (layout_of (take 108 example ++ word 2)) ≡ some (2, 108))
unfolding half_at word_at shape_of due_in is_done may_stand state_after allowed stands chain names_end name_places name_bytes names_of name_count same_bytes is_among index_of number_of repeat_in repeated_name item_places is_bad head_at list_at record_at layout_of layout_refusal
faults = (refl, refl, refl, refl)

-- an empty name that is there twice
twice : List ℕ
twice = head 64 1 0 0 ++ head 48 2 0 0 ++ head 16 3 0 0 ++ head 16 3 0 0

repeated : (layout_of twice ≡ Good) × (name_refusal (repeated_name twice) ≡ some (4, 48))
unfolding twice half_at word_at shape_of due_in is_done may_stand state_after allowed stands chain names_end name_places name_bytes names_of name_count same_bytes is_among index_of number_of repeat_in repeated_name item_places is_bad head_at list_at record_at layout_of name_refusal
repeated = (refl, refl)

-- the tree of its item, and the place of its slot from the item's start
tree : (map item_tree (items_of example) ≡ global_declaration (location 0 0 3 1) 0 (name_type (location 20 0 3 8) 1) no_value ∷ [])
    × (map item_slot_places (items_of example) ≡ (36 ∷ []) ∷ [])
unfolding half_at word_at shape_of due_in stands chain names_end item_places item_bytes items_of records_with records_at to_type item_tree slot_places item_slot_places
tree = (refl, refl)
