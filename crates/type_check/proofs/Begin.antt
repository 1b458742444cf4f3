-- The check begins with working words that are 0 and a copy of the input. Assumes nothing.
use Prim.Native.Nat.{ℕ, zero, suc}
use mathlib.Core.Path.{◌≡◌, refl}
use mathlib.Core.List.{List}
use lib.ListN.{get_or, replicate}
use Rattle.names.specs.Names.{built_ins, repeated_name}
use Rattle.std.proofs.Common.{None}
use Rattle.meaning.specs.Context.{context, blank}
use Rattle.meaning.specs.Module.{empty_context}
use Rattle.meaning.specs.Promise.{built_ins_of}
use Rattle.walk.specs.declared.State.{State}
use Rattle.walk.specs.Words.{word_place, map_at}
use Rattle.walk.specs.Represents.{lent, Holds, Scope}
use Rattle.convert.specs.Convert.{Resolves}
use Rattle.type_check.proofs.BuiltInNames.{built_ins_lem}

-- A list of zeros
pub zeros : (n i : ℕ) → ◌≡◌ {A = ℕ} (get_or (replicate n 0) i 0) 0
zeros zero i = refl
zeros (suc n) zero = refl
zeros (suc n) (suc i) = zeros n i

module _ (input work output errors rows : List ℕ) {index : List ℕ} (st : State) (zero_words : (i : ℕ) → get_or work i 0 ≡ 0) where
  -- hold no type for any name
  no_words : Scope (lent work output errors rows index st) (context (empty_context (built_ins_of input)) blank)
  unfolding Holds
  no_words = record { holds = λ f name which low fits. held name which }
    where
      held : (name which : ℕ) → Holds rows st.rows (get_or work (word_place name which) 0) (map_at (context (empty_context (built_ins_of input)) blank) which name)
      held name zero = zero_words (word_place name 0)
      held name (suc zero) = zero_words (word_place name 1)
      held name (suc (suc zero)) = zero_words (word_place name 2)
      held name (suc (suc (suc zero))) = zero_words (word_place name 3)
      held name (suc (suc (suc (suc n)))) = zero_words (word_place name (suc (suc (suc (suc n)))))

  -- so they hold the context that pass 1 begins with
  pub empty_words : repeated_name input ≡ None → Resolves input (built_ins input) (lent work output errors rows index st) (context (empty_context (built_ins_of input)) blank)
  empty_words once = record { scope = no_words; built_ins = λ name known. built_ins_lem input once name known }
