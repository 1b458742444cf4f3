use native.Mathlib.Omega.{arith}
use Rattle.shape.proofs.ShapeLaws.{shaped, past}
use Rattle.shape.specs.Shape.{shape_of}
use Rattle.shape.proofs.operator_shape.Goals as goal

pub returns-in-39 : goal.returns-in-39
unfolding shape_of
returns-in-39 c = shaped _ 39 c.in-39.is c.one_field.ensures

pub returns-in-40 : goal.returns-in-40
unfolding shape_of
returns-in-40 c = shaped _ 40 c.in-40.is c.one_field-in-40.ensures

pub returns-in-41 : goal.returns-in-41
unfolding shape_of
returns-in-41 c = shaped _ 41 c.in-41.is c.two_fields.ensures

pub returns-in-42 : goal.returns-in-42
unfolding shape_of
returns-in-42 c = shaped _ 42 c.in-42.is c.one_field-in-42.ensures

pub returns-in-43 : goal.returns-in-43
unfolding shape_of
returns-in-43 c = shaped _ 43 c.in-43.is c.one_field-in-43.ensures

pub returns-in-44 : goal.returns-in-44
unfolding shape_of
returns-in-44 c = shaped _ 44 c.in-44.is c.one_field-in-44.ensures

pub returns-in-45 : goal.returns-in-45
unfolding shape_of
returns-in-45 c = shaped _ 45 c.in-45.is c.two_fields-in-45.ensures

pub returns-in-46 : goal.returns-in-46
unfolding shape_of
returns-in-46 c = shaped _ 46 c.in-46.is c.two_fields-in-46.ensures

pub returns-in_default : goal.returns-in_default
unfolding shape_of
returns-in_default c = shaped _ 47 (omega (arith, past 39 8 _ c.requires.0 c.in_default.in_default-own.rest)) c.one_field-in_default.ensures
