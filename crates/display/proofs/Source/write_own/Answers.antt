use borrow.Author.Rules.{rules}
use Rattle.display.proofs.Owning as laws
use Rattle.display.proofs.Source.write_own.Goals as goal

pub write_opening-front-requires : goal.write_opening-front-requires
write_opening-front-requires c =
    record {
      printable = (c.requires.measured.printable, c.requires.le_n.0, c.requires.le_n.1);
      fits = laws.opening_fits _ _ _ _ _ _ _ c.requires.measured c.requires.le_n.0 c.requires.le_n.1 _ _ c.requires.fits _ c.kind-kind.ensures _ c.first_part-first.ensures _ c.second_part-second.ensures;
    }

pub overflow_add-end : goal.overflow_add-end
overflow_add-end c = let p = laws.end_inside _ _ _ _ _ _ _ c.requires.measured c.requires.le_n.0 c.requires.le_n.1 _ _ c.requires.fits _ c.kind-kind.ensures _ c.first_part-first.ensures _ c.second_part-second.ensures _ _ c.write_opening-front.ensures _ c.length_of.ensures in
    search rules

pub write_middle-back-requires : goal.write_middle-back-requires
write_middle-back-requires c = laws.middle_fits _ _ _ _ _ _ _ c.requires.measured c.requires.le_n.0 c.requires.le_n.1 _ _ c.requires.fits _ c.kind-kind.ensures _ c.first_part-first.ensures _ c.second_part-second.ensures _ _ c.write_opening-front.ensures _ c.length_of.ensures

pub returns : goal.returns
returns c = laws.owned _ _ _ _ _ _ _ c.requires.measured c.requires.le_n.0 c.requires.le_n.1 _ _ c.requires.fits _ c.kind-kind.ensures _ c.first_part-first.ensures _ c.second_part-second.ensures _ _ c.write_opening-front.ensures _ c.length_of.ensures _ _ c.write_middle-back.ensures
