-- Rows that somebody asks about: they obey the rules, and the numbers asked for are type rows.
use Rattle.std.specs.Prelude.{ℕ, List}
use Rattle.types.specs.Table.{Table, IsType}

-- The rows obey the rules, and the number is a type row
pub record OneType (w : List ℕ) (count n : ℕ) : Type 0 where
  pub table : Table w count
  pub type : IsType w count n

-- The rows obey the rules, and both numbers are type rows
pub record TwoTypes (w : List ℕ) (count m n : ℕ) : Type 0 where
  pub table : Table w count
  pub first : IsType w count m
  pub second : IsType w count n
