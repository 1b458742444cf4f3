-- A pointer behind a transparent alias decays and cannot be cast: the table and its answers.
use Prim.Native.Nat.{ℕ, ◌+◌, ◌≤◌}
use mathlib.Core.Path.{◌≡◌, refl, ap}
use mathlib.Core.Logic.{inl, inr}
use native.Mathlib.Omega.{arith}
use lib.ListN.{drop, get_or-append}
use Rattle.types.specs.Ty.{same, desugar, distinct_kind}
use Rattle.types.specs.Table.{Words, row_at, fixed_length, fixed_words, FixedRows, up_to, unfolded, IsType, Table}
use Rattle.types.specs.WordSize.{to_ir_type, ir_word_size, size_word}
use Rattle.types.proofs.Fixed.{AllBelow, each_below, fixed_table}
use Rattle.types.proofs.Rows.{Rows, table_rows, rows_add, points_to_last}
use Rattle.relations.specs.Relations.{types_are_assignable, strips, cast_pairs, some_fits, is_castable_to}
use Rattle.relations.specs.TypeRows.{TwoTypes}
use Rattle.relations.specs.Decay.{decay_rows, decay_count, Decay}

type_row : (m n : ℕ) → 1 ≤ n → n ≤ m → (row_at decay_rows n).kind ≤ distinct_kind → IsType decay_rows m n
type_row m n l h k = record { low = l; high = h; kind = k }

-- The rows keep the rules, one after the other

fixed : FixedRows decay_rows
fixed i h = get_or-append fixed_words (drop fixed_length decay_rows) 0 i h

rows_7 : Rows decay_rows 7
rows_7 = table_rows (fixed_table decay_rows (omega arith) fixed)

-- A row is new if none before it has its kind
new_kind : (m : ℕ) → AllBelow (m + 1) (λ (i : ℕ). (row_at decay_rows i).kind ≡ (row_at decay_rows (m + 1)).kind → ⊥) → (i : ℕ) → 1 ≤ i → i ≤ m
    → row_at decay_rows i ≡ row_at decay_rows (m + 1) → ⊥
new_kind m others i l h e = each_below (m + 1) _ others i (omega arith) (ap (λ (r : Words). r.kind) e)

rows_8 : Rows decay_rows 8
unfolding unfolded up_to size_word to_ir_type ir_word_size
rows_8 =
    rows_add decay_rows 7 rows_7
    (record {
      kind_low = omega arith;
      kind_high = omega arith;
      first = type_row 7 6 (omega arith) (omega arith) (omega arith);
      second = refl;
      name = record { used = inl (omega arith); string = λ e. absurd (omega arith) };
    })
    (new_kind 7 (λ q. omega arith, (λ q. omega arith, (λ q. omega arith, (λ q. omega arith, (λ q. omega arith, (λ q. omega arith, (λ q. omega arith, (λ q. omega arith, tt)))))))))
    refl

rows_9 : Rows decay_rows 9
unfolding unfolded up_to size_word to_ir_type ir_word_size
rows_9 =
    rows_add decay_rows 8 rows_8
    (record {
      kind_low = omega arith;
      kind_high = omega arith;
      first = type_row 8 4 (omega arith) (omega arith) (omega arith);
      second = tt;
      name = record { used = inr refl; string = λ e. absurd (omega arith) };
    })
    (new_kind 8 (λ q. omega arith, (λ q. omega arith, (λ q. omega arith, (λ q. omega arith, (λ q. omega arith, (λ q. omega arith, (λ q. omega arith, (λ q. omega arith, (λ q. omega arith, tt))))))))))
    refl

rows_10 : Rows decay_rows 10
unfolding unfolded up_to size_word to_ir_type ir_word_size
rows_10 =
    rows_add decay_rows 9 rows_9
    (record {
      kind_low = omega arith;
      kind_high = omega arith;
      first = type_row 9 9 (omega arith) (omega arith) (omega arith);
      second = refl;
      name = record { used = inr refl; string = λ e. absurd (omega arith) };
    })
    (points_to_last decay_rows 9 rows_9 (row_at decay_rows 10) refl)
    refl

rows_11 : Rows decay_rows 11
unfolding unfolded up_to size_word to_ir_type ir_word_size
rows_11 =
    rows_add decay_rows 10 rows_10
    (record {
      kind_low = omega arith;
      kind_high = omega arith;
      first = type_row 10 10 (omega arith) (omega arith) (omega arith);
      second = refl;
      name = record { used = inl (omega arith); string = λ e. absurd (omega arith) };
    })
    (points_to_last decay_rows 10 rows_10 (row_at decay_rows 11) refl)
    refl

decay_table : Table decay_rows decay_count
decay_table =
    record {
      room = omega arith;
      small = omega arith;
      seven = omega arith;
      fixed = fixed;
      rows = rows_11.rows;
      distinct = rows_11.distinct;
      sizes = rows_11.sizes;
    }

two_types : (target source : ℕ) → IsType decay_rows decay_count target → IsType decay_rows decay_count source → TwoTypes decay_rows decay_count target source
two_types target source t s = record { table = decay_table; first = t; second = s }

-- The answers, by computation
pub decay : Decay
unfolding unfolded up_to types_are_assignable strips cast_pairs some_fits is_castable_to same desugar
decay =
    let row_6 = type_row decay_count 6 (omega arith) (omega arith) (omega arith) in
    let row_8 = type_row decay_count 8 (omega arith) (omega arith) (omega arith) in
    let row_10 = type_row decay_count 10 (omega arith) (omega arith) (omega arith) in
    let row_11 = type_row decay_count 11 (omega arith) (omega arith) (omega arith) in
    record {
      row_6 = refl;
      row_8 = refl;
      row_10 = refl;
      row_11 = refl;
      without_alias = record { types = two_types 6 10 row_6 row_10; assigned = refl; cast = refl };
      source_alias = record { types = two_types 6 11 row_6 row_11; assigned = refl; cast = refl };
      target_alias = record { types = two_types 8 10 row_8 row_10; assigned = refl; cast = refl };
    }
