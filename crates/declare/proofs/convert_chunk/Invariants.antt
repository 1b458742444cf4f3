use Rattle.declare.specs.Chunk.{ParametersConvertedTo}
use Rattle.walk.specs.Moments.{moment}
use Rattle.walk.specs.Loans.{SameLoans}
use mathlib.Core.Path.{◌≡◌}
use Rattle.declare.proofs.convert_chunk.Given as goal

abbrev pub invariant-loop-count : goal.invariant-loop-count
invariant-loop-count l =
    ParametersConvertedTo l.s l.pass.names (record { from = l.initial.from; end = l.end; depth = l.depth }) l.kept (moment l.work l.initial.walk) (moment l.work l.walk) l.count l.from
    × (l.count ≡ 0 → l.from ≡ l.initial.from) × SameLoans l.initial.walk l.walk
