-- The worked examples, by computation.
use mathlib.Core.Path.{refl}
use Rattle.types.specs.Ty.{same, member, distinct_count, parts}
use Rattle.shape.specs.Shape.{shape_of, due_in, is_done, may_stand, state_after, allowed}
use Rattle.record_bytes.specs.Bytes.{half_at, word_at}
use Rattle.names.specs.Names.{stands, chain, names_end, name_places, name_bytes, names_of, name_count, same_bytes, is_among, repeat_in, repeated_name, name_refusal, item_places, item_bytes, items_of}
use Rattle.layout.specs.Layout.{is_bad, head_at, list_at, record_at, layout_of, layout_refusal}
use Rattle.trees.specs.Record.{records_with, records_at, to_type, item_tree}
use Rattle.meaning.specs.Context.{each, insert_all}
use Rattle.meaning.specs.Convert.{convert_node_type, conversion_errors, conversion_slots}
use Rattle.meaning.specs.Compound.{global_initial_errors, initial_slots}
use Rattle.meaning.specs.Module.{argument_cells, is_taken, alias_entries, global_entries, declaration_errors, declared_types, declarations, declare_all, item_errors, item_slots, module_errors, types_met, needed_types}
use Rattle.meaning.specs.Promise.{built_in_types, errors_of, types_of, answer_of}
use Rattle.meaning.specs.Examples.{Examples}

pub examples : Examples
unfolding same member distinct_count parts half_at word_at shape_of due_in is_done may_stand state_after allowed stands chain names_end name_places name_bytes names_of name_count
    same_bytes is_among repeat_in repeated_name name_refusal item_places item_bytes items_of is_bad head_at list_at record_at layout_of layout_refusal records_with records_at to_type item_tree
    each insert_all convert_node_type conversion_errors conversion_slots global_initial_errors initial_slots argument_cells is_taken alias_entries global_entries declaration_errors
    declared_types declarations declare_all item_errors item_slots module_errors types_met needed_types built_in_types errors_of types_of answer_of
examples = record { answer = refl; errors = refl; conversions = refl; both_passes = refl }
