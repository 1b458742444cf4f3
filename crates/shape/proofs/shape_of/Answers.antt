use native.Mathlib.Omega.{arith}
use Rattle.shape.proofs.ShapeLaws.{shaped, below_16, below_32, below_64, below_80, above_84}
use Rattle.shape.specs.Shape.{shape_of}
use Rattle.shape.proofs.shape_of.Goals as goal
use Rattle.shape.proofs.shape_of.Goals.{in_default-via-then-kind-lt16, in_default-via-else-kind-lt16+else-kind-lt21+then-kind-lt32, in_default-via-else-kind-lt16+else-kind-lt21+else-kind-lt32+else-kind-lt48+then-kind-lt64, in_default-via-else-kind-lt16+else-kind-lt21+else-kind-lt32+else-kind-lt48+else-kind-lt64+else-kind-lt75+then-kind-lt80, in_default-via-else-kind-lt16+else-kind-lt21+else-kind-lt32+else-kind-lt48+else-kind-lt64+else-kind-lt75+else-kind-lt80+else-kind-lt85}

pub returns-in-1 : goal.returns-in-1
unfolding shape_of
returns-in-1 c = shaped _ 1 c.in-1.is c.no_field.ensures

pub returns-in-2 : goal.returns-in-2
unfolding shape_of
returns-in-2 c = shaped _ 2 c.in-2.is c.no_field-in-2.ensures

pub returns-in-3 : goal.returns-in-3
unfolding shape_of
returns-in-3 c = shaped _ 3 c.in-3.is c.no_field-in-3.ensures

pub returns-in-21 : goal.returns-in-21
unfolding shape_of
returns-in-21 c = shaped _ 21 c.in-21.is c.one_field.ensures

pub returns-in-48 : goal.returns-in-48
unfolding shape_of
returns-in-48 c = shaped _ 48 c.in-48.is c.no_field-in-48.ensures

pub returns-in-49 : goal.returns-in-49
unfolding shape_of
returns-in-49 c = shaped _ 49 c.in-49.is c.no_field-in-49.ensures

pub returns-in-50 : goal.returns-in-50
unfolding shape_of
returns-in-50 c = shaped _ 50 c.in-50.is c.one_field-in-50.ensures

pub returns-in-85 : goal.returns-in-85
unfolding shape_of
returns-in-85 c = shaped _ 85 c.in-85.is c.one_field-in-85.ensures

pub returns-in_default : goal.returns-in_default
returns-in_default c = let r = c.in_default-1.rest in
    elim c.in_default.branch [
      | in_default-via-then-kind-lt16 w ↦ below_16 _ c.no_field-in_default.ensures r.0.0.0.0.0 (omega arith)
      | in_default-via-else-kind-lt16+else-kind-lt21+then-kind-lt32 w ↦ below_32 _ c.no_field-in_default.ensures (tt, r.0.0.0.0.1) (omega arith) (omega arith)
      | in_default-via-else-kind-lt16+else-kind-lt21+else-kind-lt32+else-kind-lt48+then-kind-lt64 w ↦ below_64 _ c.no_field-in_default.ensures (((tt, r.0.0.0.1), r.0.0.1), r.0.1) (omega arith) (omega arith)
      | in_default-via-else-kind-lt16+else-kind-lt21+else-kind-lt32+else-kind-lt48+else-kind-lt64+else-kind-lt75+then-kind-lt80 w ↦ below_80 _ c.no_field-in_default.ensures (omega arith) (omega arith)
      | in_default-via-else-kind-lt16+else-kind-lt21+else-kind-lt32+else-kind-lt48+else-kind-lt64+else-kind-lt75+else-kind-lt80+else-kind-lt85 w ↦ above_84 _ c.no_field-in_default.ensures (tt, r.1) (omega arith) (omega arith)
    ]
