-- The starred lines of the bench sheet, jointly, by computation.
use mathlib.Core.Path.{refl}
use Rattle.types.specs.Ty.{same, desugar}
use Rattle.relations.specs.Relations.{types_are_assignable, strips, cast_pairs, some_fits, is_castable_to}
use Rattle.types.specs.WordSize.{to_ir_type, ir_word_size}
use Rattle.relations.specs.WordSize.{word_size_of}
use Rattle.literal.specs.Literal.{digit_value, are_digits, value_from, parse_digits, from_str_radix}
use Rattle.meaning.specs.BenchSheet.{BenchSheet}
use Rattle.meaning.specs.Context.{each, insert_all}
use Rattle.meaning.specs.Convert.{convert_node_type, conversion_errors}
use Rattle.meaning.specs.Expression.{expression_type, expression_errors}
use Rattle.meaning.specs.Statement.{context_after, statement_errors}
use Rattle.meaning.specs.Divergence.{find_break, do_all_paths_diverge}
use Rattle.meaning.specs.Module.{item_errors}

pub bench_sheet : BenchSheet
unfolding same desugar types_are_assignable strips cast_pairs some_fits is_castable_to to_ir_type ir_word_size word_size_of digit_value are_digits value_from parse_digits from_str_radix each insert_all convert_node_type conversion_errors expression_type expression_errors context_after statement_errors find_break do_all_paths_diverge item_errors
bench_sheet =
    record {
      decimal_65535 = refl;
      decimal_65536 = refl;
      hexadecimal_ffff = refl;
      plus_7 = refl;
      plus_alone = refl;
      no_digits = refl;
      upper_ffff = refl;
      minus_7 = refl;
      transparent_alias = refl;
      distinct_alias = refl;
      array_decays = refl;
      alias_does_not = refl;
      bool_equals_bool = refl;
      while_returns = refl;
      loop_in_loop = refl;
      words_65535 = refl;
      words_65536 = refl;
      words_none = refl;
    }
