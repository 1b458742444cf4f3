use mathlib.Core.Path.{refl}
use borrow.Author.Rules.{rules}
use Rattle.reorder.proofs.Listing as laws
use Rattle.reorder.proofs.list_items.Goals as goal

pub loop-at-init : goal.loop-at-init
loop-at-init c = (search laws.listing_start, refl)

pub bounds-places-count : goal.bounds-places-count
bounds-places-count c = search laws.listing_room

pub length_at-at-requires : goal.length_at-at-requires
length_at-at-requires c = search laws.listing_fits

pub loop-at-smaller : goal.loop-at-smaller
loop-at-smaller c = search laws.listing_less

pub loop-at-preserved : goal.loop-at-preserved
loop-at-preserved c = (search laws.listing_on, search rules)

pub returns : goal.returns
returns c = search laws.listing_done
