use native.Mathlib.Omega.{arith}
use Rattle.shape.proofs.ShapeLaws.{shaped, past}
use Rattle.shape.specs.Shape.{shape_of}
use Rattle.shape.proofs.expression_shape.Goals as goal

pub returns-in-32 : goal.returns-in-32
unfolding shape_of
returns-in-32 c = shaped _ 32 c.in-32.is c.two_fields.ensures

pub returns-in-33 : goal.returns-in-33
unfolding shape_of
returns-in-33 c = shaped _ 33 c.in-33.is c.two_fields-in-33.ensures

pub returns-in-34 : goal.returns-in-34
unfolding shape_of
returns-in-34 c = shaped _ 34 c.in-34.is c.two_fields-in-34.ensures

pub returns-in-35 : goal.returns-in-35
unfolding shape_of
returns-in-35 c = shaped _ 35 c.in-35.is c.one_field.ensures

pub returns-in-36 : goal.returns-in-36
unfolding shape_of
returns-in-36 c = shaped _ 36 c.in-36.is c.one_field-in-36.ensures

pub returns-in-37 : goal.returns-in-37
unfolding shape_of
returns-in-37 c = shaped _ 37 c.in-37.is c.one_field-in-37.ensures

pub returns-in_default : goal.returns-in_default
unfolding shape_of
returns-in_default c = shaped _ 38 (omega (arith, past 32 6 _ c.requires.0 c.in_default.in_default-own.rest)) c.one_field-in_default.ensures
