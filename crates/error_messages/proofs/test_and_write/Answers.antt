use mathlib.Core.Path.{refl}
use native.Mathlib.Omega.{arith}
use Rattle.error_messages.proofs.Answers as laws
use Rattle.error_messages.proofs.test_and_write.Goals as goal

pub list_names-names-requires : goal.list_names-names-requires
list_names-names-requires c = (laws.short_module _ c.requires, omega arith)

pub mark_literals-requires : goal.mark_literals-requires
mark_literals-requires c = (laws.short_module _ c.requires, refl)
