use Rattle.name_index.proofs.IndexLaws as laws
use Rattle.names.proofs.NameLaws.{differ_short}
use native.Mathlib.Omega.{arith}
use mathlib.Core.Path.{refl}
use Rattle.name_index.proofs.repeated_name.Goals as goal

pub returns-then-s-lt-FIELD_END : goal.returns-then-s-lt-FIELD_END
returns-then-s-lt-FIELD_END c = search differ_short

pub loop-next-init : goal.loop-next-init
loop-next-init c = laws.index_start _ _ _ c.names_end-end.ensures (omega arith) refl

pub name_at-text-requires : goal.name_at-text-requires
name_at-text-requires c = let f = c.in-Some.ensures in record { at_bound = (omega arith, omega arith); stop_value = f.is }

pub is_listed-requires : goal.is_listed-requires
is_listed-requires c = record { s_len_bound = (omega arith, laws.index_listed _ _ _ _ c.loop-next.invariant); hashed = c.hash-h.ensures }

pub returns-then-is_listed : goal.returns-then-is_listed
returns-then-is_listed c = search (laws.index_hit, c.in-Some.ensures)

pub offset_bounds-index-h : goal.offset_bounds-index-h
offset_bounds-index-h c = let p = c.hash-h.ensures.small in omega arith

pub bounds-index-h : goal.bounds-index-h
bounds-index-h c = let p = c.hash-h.ensures.small in omega arith

pub overflow_add-index : goal.overflow_add-index
overflow_add-index c = let f = c.in-Some.ensures in let e = c.names_end-end.ensures.inside in omega arith

pub offset_bounds-index-at : goal.offset_bounds-index-at
offset_bounds-index-at c = let f = c.in-Some.ensures in let e = c.names_end-end.ensures.inside in omega arith

pub bounds-index-at : goal.bounds-index-at
bounds-index-at c = let f = c.in-Some.ensures in let e = c.names_end-end.ensures.inside in omega arith

pub overflow_cast-index : goal.overflow_cast-index
overflow_cast-index c = let f = c.in-Some.ensures in let e = c.names_end-end.ensures.inside in omega arith

pub offset_bounds-index-h-in-Some : goal.offset_bounds-index-h-in-Some
offset_bounds-index-h-in-Some c = let p = c.hash-h.ensures.small in omega arith

pub bounds-index-h-in-Some : goal.bounds-index-h-in-Some
bounds-index-h-in-Some c = let p = c.hash-h.ensures.small in omega arith

pub loop-next-smaller : goal.loop-next-smaller
loop-next-smaller c = let f = c.in-Some.ensures in omega arith

pub loop-next-preserved : goal.loop-next-preserved
loop-next-preserved c = search (laws.index_on, c.in-Some.ensures)

pub returns : goal.returns
returns c = search (laws.index_done, c.in_default.ensures)
