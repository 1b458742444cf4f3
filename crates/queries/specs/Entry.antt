-- The three entries and their refusals (document 01, "Why a module is turned back", test 8).
use Rattle.std.specs.Prelude.{ℕ, ◌≡◌, Bool, List, Result}
use Rattle.fallible.specs.Outcome.{Outcome, refused, accepted}
use Rattle.types.specs.Table.{unfolded}
use Rattle.relations.specs.TypeRows.{OneType, TwoTypes}
use Rattle.relations.specs.WordSize.{word_size_of}
use Rattle.relations.specs.declared.WordSize.{WordSize}
use Rattle.queries.specs.declared.CastSearch.{CastSearch}
use Rattle.refusal.specs.declared.Refusal.{Refusal}
use Rattle.refusal.specs.Refusal.{outcome_of}

-- The number of the refusal and its place, or the value, of each case of the answers
abbrev pub answered_of : Result Bool Refusal → Outcome Bool
answered_of answer = outcome_of answer

abbrev pub searched_of : Result CastSearch Refusal → Outcome CastSearch
searched_of answer = outcome_of answer

abbrev pub measured_of : Result WordSize Refusal → Outcome WordSize
measured_of answer = outcome_of answer

-- Accepted exactly if the rows obey the rules and both numbers are type rows, with this value; else refused with 8 at place 0
abbrev pub Answers : {A : Type 0} → (w : List ℕ) (count m n : ℕ) (value : A) → Outcome A → Type 0
Answers w count m n value (accepted a) = TwoTypes w count m n × (a ≡ value)
Answers w count m n value (refused number place) = (TwoTypes w count m n → ⊥) × (number ≡ 8) × (place ≡ 0)

-- Accepted exactly if the rows obey the rules and the number is a type row, with the words of its type; else refused with 8 at place 0
abbrev pub Measures : (w : List ℕ) (count n : ℕ) → Outcome WordSize → Type 0
Measures w count n (accepted size) = OneType w count n × (size ≡ word_size_of (unfolded w n))
Measures w count n (refused number place) = (OneType w count n → ⊥) × (number ≡ 8) × (place ≡ 0)
