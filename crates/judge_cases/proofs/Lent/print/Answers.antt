-- `judge_cases::Lent::print` is safe and ends: the text of a file fits. Assumes nothing.
use Rattle.std.proofs.Common.{rules}
use Rattle.report.proofs.Largest.{fits}
use Rattle.judge_cases.proofs.Lent.print.Goals as goal

pub slice_bounds-write_all-end : goal.slice_bounds-write_all-end
slice_bounds-write_all-end g c = search (rules, fits _ _ _ _ _ _ _ _ c.text-k.ensures)
