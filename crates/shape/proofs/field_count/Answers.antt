use Rattle.shape.specs.Shape.{shape_of}
use Rattle.shape.proofs.ShapeLaws.{twos, ones, single_kind, other_kind, kind_past}
use native.Mathlib.Omega.{arith}
use mathlib.Core.Path.{refl}
use Rattle.shape.proofs.field_count.Goals as goal

pub returns-in_default : goal.returns-in_default
unfolding shape_of
returns-in_default c = (other_kind _ c.in_default.in_default-own.rest.0.1 c.in_default.in_default-own.rest.1 0 0 16 refl (omega arith) (omega arith), omega arith)

pub returns-in_default-2 : goal.returns-in_default-2
unfolding shape_of
returns-in_default-2 c = (other_kind _ c.in_default.in_default-own.rest.0.1 c.in_default.in_default-own.rest.1 0 22 10 refl (omega arith) (omega arith), omega arith)

pub returns-in_default-3 : goal.returns-in_default-3
unfolding shape_of
returns-in_default-3 c = (kind_past _ c.in_default.in_default-own.rest.0.1 c.in_default.in_default-own.rest.1 (omega arith) (omega arith), omega arith)

pub returns-in-17 : goal.returns-in-17
unfolding shape_of
returns-in-17 c = (single_kind 1 ones _ refl c.in-17.in-17-own.keys2, omega arith)

pub returns-in-17-2 : goal.returns-in-17-2
unfolding shape_of
returns-in-17-2 c = (other_kind _ c.in-17.in_default-own.rest.0.1 c.in-17.in_default-own.rest.1 1 16 6 refl (omega arith) (omega arith), omega arith)

pub returns-in-17-3 : goal.returns-in-17-3
unfolding shape_of
returns-in-17-3 c = (other_kind _ c.in-17.in_default-own.rest.0.1 c.in-17.in_default-own.rest.1 1 35 10 refl (omega arith) (omega arith), omega arith)

pub returns-in-16 : goal.returns-in-16
unfolding shape_of
returns-in-16 c = (single_kind 2 twos _ refl c.in-16.in-16-own.keys1, omega arith)

pub returns-in-16-2 : goal.returns-in-16-2
unfolding shape_of
returns-in-16-2 c = (other_kind _ c.in-16.in_default-own.rest.0.1 c.in-16.in_default-own.rest.1 2 32 3 refl (omega arith) (omega arith), omega arith)

pub returns-in-16-3 : goal.returns-in-16-3
unfolding shape_of
returns-in-16-3 c = (other_kind _ c.in-16.in_default-own.rest.0.1 c.in-16.in_default-own.rest.1 2 45 2 refl (omega arith) (omega arith), omega arith)
