-- What a part of the check does, in the words of the meaning.
use Rattle.std.specs.Prelude.{ℕ, ◌+◌, ◌≤◌, ◌≡◌}
use mathlib.Core.List.{List, [], ◌∷◌, ◌++◌, map, Permᴰ}
use Rattle.types.specs.Ty.{Ty, member, parts, fixed_types}
use Rattle.meaning.specs.TypeError.{TypeError}
use Rattle.meaning.specs.Context.{each}
use Rattle.meaning.specs.Convert.{Slot}
use Rattle.meaning.specs.Module.{slot_type}

-- A type stored in the slot of the record at a place of the file
pub record Store : Type 0 where
  pub at : ℕ
  pub type : Ty

abbrev pub store : (at : ℕ) → Ty → Store
store at t = record { at = at; type = t }

-- The types stored, in any order; the errors, in their order; the types met, in any order; and a bound on the rows that are asked for
pub record Effect : Type 0 where
  pub stores : List Store
  pub errors : List TypeError
  pub met : List Ty
  pub steps : ℕ

abbrev pub nothing : Effect
nothing = record { stores = []; errors = []; met = []; steps = 0 }

infixl 20 ◌then◌
-- One part after another
abbrev pub ◌then◌ : Effect → Effect → Effect
a then b =
    record { stores = a.stores ++ b.stores; errors = a.errors ++ b.errors; met = a.met ++ b.met; steps = a.steps + b.steps }

abbrev pub storing : (at : ℕ) → Ty → Effect
storing at t = record { stores = store at t ∷ []; errors = []; met = []; steps = 0 }

abbrev pub reporting : List TypeError → Effect
reporting errors = record { stores = []; errors = errors; met = []; steps = 0 }

-- Types, or lists of cells, for which so many rows at most are asked for
abbrev pub meeting : List Ty → (steps : ℕ) → Effect
meeting types steps = record { stores = []; errors = []; met = types; steps = steps }

-- The record at a place carries a type, after these errors
abbrev pub carrying : (at : ℕ) → Ty → List TypeError → (steps : ℕ) → Effect
carrying at t errors steps = record { stores = store at t ∷ []; errors = errors; met = t ∷ []; steps = steps }

-- The slots of an item that stands at `base`, with these errors: each type stored is a type met
abbrev pub store_from : (base : ℕ) → Slot → Store
store_from base s = store (base + s.at) s.type

abbrev pub filling : (base : ℕ) → List Slot → List TypeError → (steps : ℕ) → Effect
filling base slots errors steps = record { stores = map (store_from base) slots; errors = errors; met = map slot_type slots; steps = steps }

-- The rows that an effect needs: the fixed seven, and the types met with their parts (as in `needed_types`)
unfoldable pub needed : Effect → List Ty
needed effect = fixed_types ++ each parts effect.met

-- Effects that the same state shows: the second may name the stores in another order, the types met by others with the same parts, and more steps
pub record Shown (a b : Effect) : Type 0 where
  pub stores : Permᴰ a.stores b.stores
  pub errors : a.errors ≡ b.errors
  pub met : (t : Ty) → member t (each parts a.met) ≡ member t (each parts b.met)
  pub steps : a.steps ≤ b.steps
