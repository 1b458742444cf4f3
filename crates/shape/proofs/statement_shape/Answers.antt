use native.Mathlib.Omega.{arith}
use Rattle.shape.proofs.ShapeLaws.{shaped, past}
use Rattle.shape.specs.Shape.{shape_of}
use Rattle.shape.proofs.statement_shape.Goals as goal

pub returns-in-64 : goal.returns-in-64
unfolding shape_of
returns-in-64 c = shaped _ 64 c.in-64.is c.one_field.ensures

pub returns-in-65 : goal.returns-in-65
unfolding shape_of
returns-in-65 c = shaped _ 65 c.in-65.is c.no_field.ensures

pub returns-in-66 : goal.returns-in-66
unfolding shape_of
returns-in-66 c = shaped _ 66 c.in-66.is c.one_field-in-66.ensures

pub returns-in-67 : goal.returns-in-67
unfolding shape_of
returns-in-67 c = shaped _ 67 c.in-67.is c.no_field-in-67.ensures

pub returns-in-68 : goal.returns-in-68
unfolding shape_of
returns-in-68 c = shaped _ 68 c.in-68.is c.no_field-in-68.ensures

pub returns-in-69 : goal.returns-in-69
unfolding shape_of
returns-in-69 c = shaped _ 69 c.in-69.is c.no_field-in-69.ensures

pub returns-in-70 : goal.returns-in-70
unfolding shape_of
returns-in-70 c = shaped _ 70 c.in-70.is c.no_field-in-70.ensures

pub returns-in-71 : goal.returns-in-71
unfolding shape_of
returns-in-71 c = shaped _ 71 c.in-71.is c.no_field-in-71.ensures

pub returns-in-72 : goal.returns-in-72
unfolding shape_of
returns-in-72 c = shaped _ 72 c.in-72.is c.no_field-in-72.ensures

pub returns-in-73 : goal.returns-in-73
unfolding shape_of
returns-in-73 c = shaped _ 73 c.in-73.is c.no_field-in-73.ensures

pub returns-in_default : goal.returns-in_default
unfolding shape_of
returns-in_default c = shaped _ 74 (omega (arith, past 64 10 _ c.requires.0 c.in_default.in_default-own.rest)) c.no_field-in_default.ensures
