-- A law for each exit.
use Rattle.compound_rules.proofs.Fields as fields
use Rattle.compound_rules.proofs.check_field.Goals as goal

pub returns-then-field-eq0 : goal.returns-then-field-eq0
returns-then-field-eq0 c = search fields.field_missing

pub returns : goal.returns
returns c = search fields.field_checked
