-- What the tests of the entry show. Assumes nothing.
use Prim.Native.Nat.{ℕ, ◌≤◌}
use native.Mathlib.Omega.{arith}
use mathlib.Core.Path.{◌≡◌, refl, sym, ap, ◌∙◌}
use mathlib.Core.Bool.{Bool, false, not}
use mathlib.Core.Option.{Option, none, some}
use mathlib.Core.List.{List}
use borrow.Author.Tests.{not-false}
use lib.ListN.{length}
use Rattle.rows.specs.Search.{Decides}
use Rattle.types.specs.Table.{Table}
use Rattle.fallible.specs.Outcome.{refused, or_next, outcome_after}
use Rattle.layout.specs.Layout.{Layout, max_bytes, layout_of, layout_refusal}
use Rattle.names.specs.Names.{name_test}
use Rattle.layout.specs.declared.LayoutError.TheVariants.{TooLong, Fault, TooDeep}
use Rattle.std.proofs.Common.{Result, Ok, Err}
use Rattle.node.proofs.Open.{few_bytes}
use Rattle.refusal.specs.Refusal.{number_of, place_of, refusal_of}
use Rattle.refusal.specs.declared.Refusal.{Refusal}
use Rattle.module_tests.specs.Refusal.{module_refusal}
use Rattle.listing.specs.Names.{NamesListed}
use Rattle.display.specs.Length.{Filled}
use Rattle.error_messages.specs.Description.{Inputs, inputs, names_in}
use Rattle.error_messages.specs.Messages.{Sound, Answered}
use Rattle.error_messages.specs.Inner.{Ready, loan}

never : {A : Type 0} {r : ℕ × ℕ} → ◌≡◌ {A = Option (ℕ × ℕ)} none (some r) → A
never e = absurd (let z : ◌≡◌ {A = ℕ} 0 1 = cc in omega arith)

-- A module that passes tests 1 to 4 is short enough
pub short_module : (s : List ℕ) → module_refusal s ≡ none → length s ≤ max_bytes
unfolding layout_refusal
short_module s e = go (layout_of s) refl e
  where
    go : (l : Layout) → layout_of s ≡ l → or_next (layout_refusal l) (name_test s) ≡ none → length s ≤ max_bytes
    go (Ok u) p h = few_bytes s p
    go (Err TooLong) p h = never (sym h)
    go (Err (Fault q)) p h = never (sym h)
    go (Err (TooDeep q)) p h = never (sym h)

-- The rows' lengths are worked out: all is ready to be written
pub is_ready : (s built_in rows places work work' : List ℕ) (count : ℕ) {errors : List ℕ} {many : ℕ} → (module_refusal s ≡ none) × NamesListed s places
    → Sound (inputs s built_in rows count) errors many × (count ≤ length work) → Filled (names_in (inputs s built_in rows count)) rows count work work'
    → Ready (inputs s built_in rows count) places work'
is_ready s built_in rows places work work' count passes sound filled =
    record {
      small = short_module s passes.0;
      measured = record {
        printable = record { table = sound.0.table; listed = passes.1; exist = sound.0.names };
        room = omega (arith, filled.long, sound.1);
        held = filled.each;
      };
    }

-- What the tests answer, each with what it is answered for. Cited by nothing here now
module _ (s built_in rows : List ℕ) (count : ℕ) (errors : List ℕ) (many : ℕ) where
  abbrev x : Inputs
  x = inputs s built_in rows count

  module _ (text work : List ℕ) where
    -- Tests 1 to 4
    pub turned_back_lem : {r : Result (Unit {0}) Refusal} → refusal_of r ≡ module_refusal s → {e : Refusal} → r ≡ Err e
        → Answered x errors many (loan text work) (loan text work) (refused (number_of e) (place_of e))
    turned_back_lem {r} is {e} q =
        let h : some (number_of e, place_of e) ≡ module_refusal s = ap refusal_of (sym q) ∙ is in
        record {
          turned_back = λ n p q. (ap (λ (o : Option (ℕ × ℕ)). outcome_after o (refused 0 0)) (h ∙ q), refl);
          unsound = λ n q. never (sym n ∙ sym h);
          few_words = λ n q l. never (sym n ∙ sym h);
          too_long = λ n q l f. never (sym n ∙ sym h);
          written = λ n q l f. never (sym n ∙ sym h);
        }

    -- Test 8
    module _ (passes : module_refusal s ≡ none) (b : Bool) (d : Decides (Sound x errors many) b) where
      pub is_sound_lem : not b ≡ false → Sound x errors many
      is_sound_lem e = d.yes (not-false b e)

  -- and of the table
  module _ (a : Bool) (table : Decides (Table rows count) a) (keeps : not a ≡ false) where
    pub is_table_lem : Table rows count
    is_table_lem = table.yes (not-false a keeps)
