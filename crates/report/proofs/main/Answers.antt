-- An accepted module has no more errors than the list has records.
use Rattle.std.proofs.Common.{length-take-le, sym}
use Rattle.report.proofs.LineLaws.{errors_reported}
use Rattle.report.proofs.main.Goals as goal

pub slice_bounds-errors-end : goal.slice_bounds-errors-end
slice_bounds-errors-end c = errors_reported c.report_module-answer.ensures c.in-Ok.is

pub slice_bounds-print_accepted-end : goal.slice_bounds-print_accepted-end
slice_bounds-print_accepted-end c = sym (length-take-le _ _ (errors_reported c.report_module-answer.ensures c.in-Ok.is))
