use Rattle.reorder.proofs.Arranging as laws
use Rattle.reorder.proofs.arrange.Goals as goal

pub items_start-to-requires : goal.items_start-to-requires
items_start-to-requires c = c.requires.places.layout

pub slice_bounds-copy_to-end : goal.slice_bounds-copy_to-end
slice_bounds-copy_to-end c = search laws.head_count

pub copy_to-requires : goal.copy_to-requires
copy_to-requires c = search laws.head_room

pub loop-at-init : goal.loop-at-init
loop-at-init c = search laws.arranging_start

pub length_at-requires : goal.length_at-requires
length_at-requires c = search laws.arranging_fits

pub overflow_add-stop : goal.overflow_add-stop
overflow_add-stop c = search laws.arranging_small

pub copy_to-requires-in-loop-at : goal.copy_to-requires-in-loop-at
copy_to-requires-in-loop-at c = search laws.arranging_room

pub loop-at-preserved : goal.loop-at-preserved
loop-at-preserved c = search laws.arranging_on

pub returns : goal.returns
returns c = search laws.arranging_end

pub slice_bounds-copy_to-end-in-loop-at : goal.slice_bounds-copy_to-end-in-loop-at
slice_bounds-copy_to-end-in-loop-at c = search laws.arranging_stops
