use Rattle.reorder.proofs.Outcomes as laws
use borrow.Author.Rules.{rules}
use Rattle.reorder.proofs.write_items.Goals as goal

pub slice_bounds-permute-end-2 : goal.slice_bounds-permute-end-2
slice_bounds-permute-end-2 c = search laws.listed_count

pub slice_bounds-arrange-end-2 : goal.slice_bounds-arrange-end-2
slice_bounds-arrange-end-2 c = laws.permuted_count _ _ _ _ _ c.list_items-count.ensures c.permute.ensures

pub arrange-requires : goal.arrange-requires
arrange-requires c = record { places = laws.permuted_places _ _ _ _ _ c.list_items-count.ensures c.permute.ensures (search rules); s_in_bounds = search rules }

pub returns : goal.returns
returns c = search laws.written
