-- The worked example, by computation.
use mathlib.Core.Path.{refl}
use Rattle.shape.specs.Shape.{shape_of, due_in, is_done, may_stand, state_after, allowed}
use Rattle.literal.specs.Literal.{digit_value, are_digits, value_from, parse_digits, from_str_radix}
use Rattle.record_bytes.specs.Bytes.{half_at, word_at}
use Rattle.names.specs.Names.{stands, chain, names_end, name_places, name_bytes, names_of, name_count, same_bytes, item_places, item_bytes, items_of}
use Rattle.layout.specs.Layout.{is_bad, head_at, list_at, record_at, layout_of}
use Rattle.trees.specs.Record.{records_with, records_at, to_type, to_expressions, item_tree}
use Rattle.meaning.specs.Context.{each, insert_all}
use Rattle.meaning.specs.Convert.{convert_node_type, conversion_errors}
use Rattle.meaning.specs.Expression.{expression_errors}
use Rattle.meaning.specs.Compound.{global_initial_errors}
use Rattle.meaning.specs.Module.{is_taken, alias_entries, global_entries, declaration_errors, declarations, declare_all, item_errors}
use Rattle.meaning.specs.Promise.{built_in_types, placed_errors_of}
use Rattle.listing.specs.Literals.{literals_in, literal_places}
use Rattle.readable.specs.Examples.{bad_literal, Examples}
use Rattle.readable.proofs.Readable.{readable_errors}

pub examples : Examples
unfolding half_at word_at shape_of due_in is_done may_stand state_after allowed stands chain names_end name_places name_bytes names_of name_count same_bytes item_places item_bytes items_of
    is_bad head_at list_at record_at layout_of records_with records_at to_type to_expressions item_tree digit_value are_digits value_from parse_digits from_str_radix each insert_all convert_node_type conversion_errors expression_errors
    global_initial_errors is_taken alias_entries global_entries declaration_errors declarations declare_all item_errors built_in_types placed_errors_of literals_in literal_places
examples = record { layout = refl; literals = refl; errors = refl; readable = readable_errors bad_literal refl }
