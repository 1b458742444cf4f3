-- What a source lends, in the words of the other definitions.
use Rattle.std.specs.Prelude.{ℕ, List}
use Rattle.display.specs.declared.Source.{Source}
use Rattle.display.specs.Display.{NameTexts}
use Rattle.display.specs.Names.{name_text, Printable}
use Rattle.display.specs.Length.{Measured}

-- The bytes of each name
abbrev pub texts_in : Source → NameTexts
texts_in source = name_text source.s.now source.built_in.now

-- Its rows have texts
abbrev pub IsPrintable : Source → Type 0
IsPrintable source = Printable source.s.now source.places.now source.rows.now source.count

-- And the working words hold the lengths of the first m
abbrev pub IsMeasured : Source → (m : ℕ) → (work : List ℕ) → Type 0
IsMeasured source m work = Measured source.s.now source.built_in.now source.places.now source.rows.now source.count m work
