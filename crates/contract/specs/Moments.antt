-- The two moments of a promise. In an `ensures` the name of a reference is a pair: the reference at entry, and at exit.
use Rattle.std.specs.Borrow.{MutBor}
use denote.Triple.Both.{Both}

-- what a reference led to at entry
abbrev pub old : {X Y : Type 0} → Both (MutBor X) Y → X
old x = x.entry.now

-- and leads to at exit
abbrev pub final : {X Y : Type 0} → Both Y (MutBor X) → X
final x = x.exit.now
