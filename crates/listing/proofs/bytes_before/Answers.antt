use mathlib.Core.Path.{refl}
use native.Mathlib.Omega.{arith}
use Rattle.shape.specs.Shape.{shape_of, due_in}
use Rattle.shape.proofs.ShapeLaws.{ones}
use Rattle.listing.proofs.Before as laws
use Rattle.listing.proofs.bytes_before.Goals as goal

pub returns-in-3-clause-value : goal.returns-in-3-clause-value
unfolding shape_of due_in
returns-in-3-clause-value c = laws.one_of 0 laws.frees _ refl c.in-3.is

pub returns-in_default-clause-value : goal.returns-in_default-clause-value
unfolding shape_of due_in
returns-in_default-clause-value c = laws.in_range_lem _ c.in_default.in_default-own.rest 16 0 16 refl (omega arith) (omega arith)

pub returns-in_default-2-clause-value : goal.returns-in_default-2-clause-value
unfolding shape_of due_in
returns-in_default-2-clause-value c = laws.in_range_lem _ c.in_default.in_default-own.rest 16 22 10 refl (omega arith) (omega arith)

pub returns-in_default-3-clause-value : goal.returns-in_default-3-clause-value
returns-in_default-3-clause-value c = laws.past_47 _ c.in_default.in_default-own.rest (omega arith) (omega arith)

pub returns-in-16-to-21-clause-value : goal.returns-in-16-to-21-clause-value
unfolding shape_of due_in
returns-in-16-to-21-clause-value c = laws.one_of 20 ones _ refl c.in-16-to-21.in-16-to-21-own.keys4

pub returns-in-16-to-21-2-clause-value : goal.returns-in-16-to-21-2-clause-value
unfolding shape_of due_in
returns-in-16-to-21-2-clause-value c = laws.in_range_lem _ c.in-16-to-21.in_default-own.rest 20 16 6 refl (omega arith) (omega arith)

pub returns-in-16-to-21-3-clause-value : goal.returns-in-16-to-21-3-clause-value
unfolding shape_of due_in
returns-in-16-to-21-3-clause-value c = laws.in_range_lem _ c.in-16-to-21.in_default-own.rest 20 32 13 refl (omega arith) (omega arith)

pub returns-in-16-clause-value : goal.returns-in-16-clause-value
unfolding shape_of due_in
returns-in-16-clause-value c = laws.one_of 24 laws.twos _ refl c.in-16.is

pub returns-in-16-2-clause-value : goal.returns-in-16-2-clause-value
unfolding shape_of due_in
returns-in-16-2-clause-value c = laws.one_of 24 laws.more_twos _ refl c.in-16.is

pub returns-in-16-3-clause-value : goal.returns-in-16-3-clause-value
unfolding shape_of due_in
returns-in-16-3-clause-value c = laws.in_range_lem _ c.in-16.in_default-own.rest 24 45 2 refl (omega arith) (omega arith)
