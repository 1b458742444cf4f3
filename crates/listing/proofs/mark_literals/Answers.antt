use native.Mathlib.Omega.{arith}
use Rattle.listing.proofs.Marks as laws
use Rattle.listing.proofs.mark_literals.Goals as goal

pub mark_records-requires : goal.mark_records-requires
mark_records-requires c = (omega arith, laws.marks_room c.args.s.now c.args.marks.now c.requires)

pub returns : goal.returns
returns c = record {
  marked = laws.marks_are _ _ c.requires _ c.mark_records.ensures;
  marks_value = laws.all_marked _ _ _ c.mark_records.ensures;
}
