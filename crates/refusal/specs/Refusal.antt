-- The table of causes: why a call is turned back, with which number and at which place.
use Rattle.std.specs.Prelude.{ℕ, Result, Ok, Err}
use Rattle.std.proofs.Math.Option.{Option, none, some}
use Rattle.fallible.specs.Outcome.{Outcome, refused, accepted}
use Rattle.refusal.specs.declared.Refusal.{Refusal}
use Rattle.refusal.specs.declared.Refusal.TheVariants.{TooLong, BadLayout, TooDeep, RepeatedName, ShortLoan, TooFewRows}
use Rattle.refusal.specs.declared.Refusal.TheVariants.{TooFewErrors, UnsoundLoan, NoRoomForText}

-- The number of a cause
abbrev pub number_of : Refusal → ℕ
number_of TooLong = 1
number_of (BadLayout place) = 2
number_of (TooDeep place) = 3
number_of (RepeatedName place) = 4
number_of ShortLoan = 5
number_of TooFewRows = 6
number_of TooFewErrors = 7
number_of UnsoundLoan = 8
number_of (NoRoomForText needed) = 9

-- The place that it names, or the length that is needed; else 0
abbrev pub place_of : Refusal → ℕ
place_of TooLong = 0
place_of (BadLayout place) = place
place_of (TooDeep place) = place
place_of (RepeatedName place) = place
place_of ShortLoan = 0
place_of TooFewRows = 0
place_of TooFewErrors = 0
place_of UnsoundLoan = 0
place_of (NoRoomForText needed) = needed

-- The number and the place, if a call is turned back
abbrev pub refusal_of : {A : Type 0} → Result A Refusal → Option (ℕ × ℕ)
refusal_of (Ok answer) = none
refusal_of (Err cause) = some (number_of cause, place_of cause)

-- What a call answers: the number and the place, or its answer
abbrev pub outcome_of : {A : Type 0} → Result A Refusal → Outcome A
outcome_of (Ok answer) = accepted answer
outcome_of (Err cause) = refused (number_of cause) (place_of cause)
