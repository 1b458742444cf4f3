use native.Mathlib.Omega.{arith}
use Rattle.shape.proofs.ShapeLaws.{shaped, past}
use Rattle.shape.specs.Shape.{shape_of}
use Rattle.shape.proofs.item_shape.Goals as goal

pub returns-in-80 : goal.returns-in-80
unfolding shape_of
returns-in-80 c = shaped _ 80 c.in-80.is c.one_field.ensures

pub returns-in-81 : goal.returns-in-81
unfolding shape_of
returns-in-81 c = shaped _ 81 c.in-81.is c.two_fields.ensures

pub returns-in-82 : goal.returns-in-82
unfolding shape_of
returns-in-82 c = shaped _ 82 c.in-82.is c.no_field.ensures

pub returns-in-83 : goal.returns-in-83
unfolding shape_of
returns-in-83 c = shaped _ 83 c.in-83.is c.one_field-in-83.ensures

pub returns-in_default : goal.returns-in_default
unfolding shape_of
returns-in_default c = shaped _ 84 (omega (arith, past 80 4 _ c.requires.0 c.in_default.in_default-own.rest)) c.no_field-in_default.ensures
