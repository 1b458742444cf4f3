-- A law for each kind. Then its slot is stored, and nothing else is written.
use mathlib.Core.Path.{sym, ◌∙◌}
use Rattle.expression.proofs.Laws as laws
use Rattle.expression.proofs.Heads as heads
use native.Mathlib.Omega.{arith}
use borrow.Author.Rules.{rules}
use Rattle.expression.proofs.leaf.Goals as goal
use Rattle.expression.proofs.leaf.Goals.{in-32, in-33, in-34, in_default}

pub identifier-ty-requires : goal.identifier-ty-requires
identifier-ty-requires c = record { at_in_bounds = heads.identifier_room c.requires.leaf_in.0 (sym c.requires.leaf_in.1 ∙ c.in-32.is); at_in_bounds_2 = heads.identifier_words c.requires.leaf_in.0 (sym c.requires.leaf_in.1 ∙ c.in-32.is) c.requires.leaf_ready.wide }

pub integer-ty-requires : goal.integer-ty-requires
integer-ty-requires c = record { at_bound = (heads.integer_room c.requires.leaf_in.0 (sym c.requires.leaf_in.1 ∙ c.in-33.is), heads.stop_room c.requires.leaf_in.0, heads.few c.requires.leaf_in.0); digit_table = c.requires.leaf_ready.digits }

pub put_slot-requires : goal.put_slot-requires
put_slot-requires c =
    elim c.match-kind.branch [
      | in-32 w ↦ rw w.walk-is (omega (arith, heads.slot_room c.requires.leaf_in.0, c.requires.leaf_ready.long, w.identifier-ty.ensures.loans.same.output_length))
      | in-33 w ↦ rw w.walk-is (omega (arith, heads.slot_room c.requires.leaf_in.0, c.requires.leaf_ready.long, w.integer-ty.ensures.loans.same.output_length))
      | in-34 w ↦ rw w.walk-is (omega (arith, heads.slot_room c.requires.leaf_in.0, c.requires.leaf_ready.long))
      | in_default w ↦ rw w.walk-is (omega (arith, heads.slot_room c.requires.leaf_in.0, c.requires.leaf_ready.long))
    ]

pub returns-clause-effect : goal.returns-clause-effect
returns-clause-effect c names rows index ready =
    rw (c.put_slot.ensures.loans.errors_kept, c.put_slot.ensures.loans.state_kept)
    elim c.match-kind.branch [
      | in-32 w ↦ rw (w.walk-is, w.ty-is) (laws.identifier_carried c.requires.leaf_in.0 ready (sym c.requires.leaf_in.1 ∙ w.in-32.is) w.identifier-ty.ensures.effect _ (rw (w.walk-is, w.ty-is, w.identifier-ty.ensures.loans.output_kept) at c.put_slot.ensures.effect))
      | in-33 w ↦ rw (w.walk-is, w.ty-is) (laws.integer_carried c.requires.leaf_in.0 ready (sym c.requires.leaf_in.1 ∙ w.in-33.is) w.integer-ty.ensures.effect _ (rw (w.walk-is, w.ty-is, w.integer-ty.ensures.loans.output_kept) at c.put_slot.ensures.effect))
      | in-34 w ↦ rw (w.walk-is, w.ty-is) (laws.boolean_carried c.requires.leaf_in.0 ready (sym c.requires.leaf_in.1 ∙ w.in-34.is) _ (rw (w.walk-is, w.ty-is) at c.put_slot.ensures.effect))
      | in_default w ↦ rw (w.walk-is, w.ty-is) (laws.string_carried c.requires.leaf_in.0 ready (heads.string_kind c.requires.leaf_in.0 c.requires.leaf_in.1 c.requires.leaf_in.2 (search rules) (search rules) (search rules)) _ (rw (w.walk-is, w.ty-is) at c.put_slot.ensures.effect))
    ]
