-- The loop: the first records are those of the words, the others as they were.
use mathlib.Core.Path.{◌≡◌}
use Rattle.records.specs.Records.{records_from}
use Rattle.records.proofs.fill_records.Given as goal

abbrev pub invariant-loop-i : goal.invariant-loop-i
invariant-loop-i l = l.records ≡ records_from l.words l.i l.initial.records
