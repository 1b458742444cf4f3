use Rattle.name_index.proofs.IndexLaws as laws
use native.Mathlib.Omega.{arith}
use Rattle.name_index.proofs.is_listed.Goals as goal

pub offset_bounds-index-h : goal.offset_bounds-index-h
offset_bounds-index-h c = let p = c.requires.hashed.small in omega arith

pub bounds-index-h : goal.bounds-index-h
bounds-index-h c = let p = c.requires.hashed.small in omega arith

pub overflow_cast-at : goal.overflow_cast-at
overflow_cast-at c = omega (arith, laws.look_low _ _ _ _ (laws.look_start _ _ _ _ c.requires.s_len_bound.1 c.requires.hashed), c.requires.s_len_bound.0)

pub loop-at-init : goal.loop-at-init
loop-at-init c = laws.look_start _ _ _ _ c.requires.s_len_bound.1 c.requires.hashed

pub length_at-requires : goal.length_at-requires
length_at-requires c = let g = laws.look_here _ _ _ _ c.loop-at.invariant c.loop-at-test.true in omega arith

pub overflow_add-stop : goal.overflow_add-stop
overflow_add-stop c = let g = laws.look_here _ _ _ _ c.loop-at.invariant c.loop-at-test.true in let e = c.length_at.ensures in omega arith

pub name_at-requires : goal.name_at-requires
name_at-requires c = let g = laws.look_here _ _ _ _ c.loop-at.invariant c.loop-at-test.true in let e = c.length_at.ensures in record { at_bound = (omega arith, omega arith); stop_value = omega arith }

pub returns-then-same_bytes : goal.returns-then-same_bytes
returns-then-same_bytes c = search laws.look_hit

pub overflow_add-at : goal.overflow_add-at
overflow_add-at c = let g = laws.look_here _ _ _ _ c.loop-at.invariant c.loop-at-test.true in let r = c.requires.s_len_bound.0 in omega arith

pub offset_bounds-index-at : goal.offset_bounds-index-at
offset_bounds-index-at c = let g = laws.look_here _ _ _ _ c.loop-at.invariant c.loop-at-test.true in let r = c.requires.s_len_bound.0 in omega arith

pub bounds-index-at : goal.bounds-index-at
bounds-index-at c = let g = laws.look_here _ _ _ _ c.loop-at.invariant c.loop-at-test.true in let r = c.requires.s_len_bound.0 in omega arith

pub overflow_cast-at-in-loop-at : goal.overflow_cast-at-in-loop-at
overflow_cast-at-in-loop-at c = let l = laws.look_less _ _ _ _ c.loop-at.invariant c.loop-at-test.true in let g = laws.look_here _ _ _ _ c.loop-at.invariant c.loop-at-test.true in let r = c.requires.s_len_bound.0 in omega arith

pub loop-at-smaller : goal.loop-at-smaller
loop-at-smaller c = laws.look_less _ _ _ _ c.loop-at.invariant c.loop-at-test.true

pub loop-at-preserved : goal.loop-at-preserved
loop-at-preserved c = search laws.look_on

pub returns : goal.returns
returns c = search laws.look_done
