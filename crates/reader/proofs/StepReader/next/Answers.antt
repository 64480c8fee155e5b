-- `reader::StepReader::next` meets its contract. A step was read, so its place lies within the trace, and the next place
-- fits. Assumes nothing.
use Rattle.std.specs.Prelude.{Ok}
use Rattle.std.proofs.Common.{ap, ◌∙◌, arith}
use Rattle.reader.proofs.Laws.{step_within, read_at_lem}
use Rattle.reader.proofs.StepReader.next.Goals as goal

pub overflow_add-self : goal.overflow_add-self
overflow_add-self c =
    let h = c.args.self.now in
    let e = c.in_ok-read.was ∙ ap Ok c.in-Some.is in
    record { fits = omega (arith, step_within h.trace.now h.place _ (read_at_lem h.trace.now h.place _ _ c.step_at.ensures e)) }
