use native.Mathlib.Omega.{arith}
use Rattle.shape.proofs.ShapeLaws.{shaped, past}
use Rattle.shape.specs.Shape.{shape_of}
use Rattle.shape.proofs.type_shape.Goals as goal

pub returns-in-16 : goal.returns-in-16
unfolding shape_of
returns-in-16 c = shaped _ 16 c.in-16.is c.two_fields.ensures

pub returns-in-17 : goal.returns-in-17
unfolding shape_of
returns-in-17 c = shaped _ 17 c.in-17.is c.one_field.ensures

pub returns-in-18 : goal.returns-in-18
unfolding shape_of
returns-in-18 c = shaped _ 18 c.in-18.is c.one_field-in-18.ensures

pub returns-in-19 : goal.returns-in-19
unfolding shape_of
returns-in-19 c = shaped _ 19 c.in-19.is c.two_fields-in-19.ensures

pub returns-in_default : goal.returns-in_default
unfolding shape_of
returns-in_default c = shaped _ 20 (omega (arith, past 16 4 _ c.requires.0 c.in_default.in_default-own.rest)) c.one_field-in_default.ensures
