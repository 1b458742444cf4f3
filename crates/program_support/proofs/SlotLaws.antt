-- Each exit of `slot_place` and `next_record`. Assumes nothing.
use Prim.Native.Nat.{ℕ, ◌+◌, ◌-◌, ◌*◌, ◌≤◌, ◌<◌}
use mathlib.Core.Path.{◌≡◌, refl, sym, ◌∙◌, ap}
use mathlib.Core.Bool.{Bool, true, false}
use mathlib.Core.List.{List, [], ◌∷◌}
use types.Run.{OneOf, miss}
use denote.Enum.Declared.{tag_of}
use lib.ListN.{length}
use native.Mathlib.Omega.{arith}
use borrow.Author.Tests.{lt-leb, le-leb}
use Rattle.shape.specs.Shape.{shape_of, due_in}
use Rattle.shape.specs.declared.Rule.{Rule}
use Rattle.shape.specs.declared.Rule.TheVariants.{Unused, Slot, Name, Any, Base, Flag, Operator, Comparison, Flags}
use Rattle.shape.specs.declared.Shape.{Shape}
use Rattle.shape.specs.declared.Due.{Due}
use Rattle.shape.specs.contracts.Rule.{the_type}
use Rattle.record_bytes.specs.Bytes.{half_at, word_at}
use Rattle.trees.specs.Record.{is_slot, holds_free_bytes}
use Rattle.program_support.specs.Slots.{SlotPlace, NextRecord}

-- A rule that is one of the others
no_slot : (r : Rule) → OneOf (0 ∷ 2 ∷ 3 ∷ 4 ∷ 5 ∷ 6 ∷ 7 ∷ 8 ∷ []) (tag_of the_type r) → is_slot r ≡ false
no_slot Unused o = refl
no_slot Slot o = absurd (miss (0 ∷ 2 ∷ 3 ∷ 4 ∷ 5 ∷ 6 ∷ 7 ∷ 8 ∷ []) 1 tt o)
no_slot Name o = refl
no_slot Any o = refl
no_slot Base o = refl
no_slot Flag o = refl
no_slot Operator o = refl
no_slot Comparison o = refl
no_slot Flags o = refl

module _ (s : List ℕ) (at : ℕ) where
  pub slot_short : length s < at + 20 → SlotPlace s at (length s)
  slot_short p = record { is = simp (lt-leb _ _ p); inside = omega arith }

  pub next_room : at < length s → length s - at < 16 → NextRecord s at (length s)
  next_room i p = record { is = simp (lt-leb _ _ p); behind = i; inside = omega arith }

  module _ (k : ℕ) (r : Shape) (ek : k ≡ half_at s (at + 4)) (er : r ≡ shape_of k) where
    es : shape_of (half_at s (at + 4)) ≡ r
    es = ap shape_of (sym ek) ∙ sym er

    module _ (p₁ : at ≤ length s) (p₂ : 20 ≤ length s - at) where
      fits : at + 20 ≤ length s
      fits = omega arith

      pub slot_there : r.first ≡ Slot → SlotPlace s at (at + 16)
      slot_there e = record { is = simp (es, le-leb _ _ fits, e); inside = omega (arith, fits) }

      pub slot_none : OneOf (0 ∷ 2 ∷ 3 ∷ 4 ∷ 5 ∷ 6 ∷ 7 ∷ 8 ∷ []) (tag_of the_type r.first) → SlotPlace s at (length s)
      slot_none o = record { is = simp (es, le-leb _ _ fits, no_slot r.first o); inside = omega arith }

  module _ (i : at < length s) (len : ℕ) (e : len ≡ word_at s at) (p₁ : 16 ≤ length s - at) where
    pub next_long : length s - at < len → NextRecord s at (length s)
    next_long p = record { is = simp (← e, le-leb _ _ p₁, lt-leb _ _ p); behind = i; inside = omega arith }

    module _ (k : ℕ) (r : Shape) (ek : k ≡ half_at s (at + 4)) (er : r ≡ shape_of k) (p₂ : len ≤ length s - at) where
      pub next_short : len < 16 + 4 * r.fields → NextRecord s at (length s)
      next_short p = record { is = simp (← e, es k r ek er, le-leb _ _ p₁, le-leb _ _ p₂, lt-leb _ _ p); behind = i; inside = omega arith }

      module _ (p₃ : 16 + 4 * r.fields ≤ len) (due : Due) (ed : due ≡ due_in r.holds) where
        free : (b : Bool) → due.free ≡ b → holds_free_bytes (half_at s (at + 4)) ≡ b
        free b p = ap (λ (x : Shape). (due_in x.holds).free) (es k r ek er) ∙ ap (λ (d : Due). d.free) (sym ed) ∙ p

        pub next_past : due.free ≡ true → NextRecord s at (at + len)
        next_past p = record { is = simp (free true p, ← e, es k r ek er, le-leb _ _ p₁, le-leb _ _ p₂, le-leb _ _ p₃); behind = omega arith; inside = omega arith }

        pub next_inside : due.free ≡ false → NextRecord s at (at + (16 + 4 * r.fields))
        next_inside p =
            let f : at + (16 + 4 * r.fields) ≡ at + 16 + 4 * r.fields = omega arith in
            record {
              is = f ∙ simp (free false p, ← e, es k r ek er, le-leb _ _ p₁, le-leb _ _ p₂, le-leb _ _ p₃);
              behind = omega arith;
              inside = omega arith;
            }
