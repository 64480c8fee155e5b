-- `traces::step_fits` meets its contract. Assumes nothing.
use Rattle.std.proofs.Common.{ap, ◌∙◌}
use borrow.Author.Tests.{ne_eqb}
use Rattle.refusal.specs.Answers.{row, refusal_row}
use Rattle.traces.specs.Traces.{step_check}
use Rattle.traces.proofs.Checks.{step_checked}
use Rattle.traces.proofs.step_fits.Goals as goal

pub returns-then-step-ne-STEP : goal.returns-then-step-ne-STEP
unfolding step_check
returns-then-step-ne-STEP c =
    record { answered = ap refusal_row c.into.ensures ∙ simp (ne_eqb _ _ c.if-step-ne-STEP.true) }

pub returns : goal.returns
returns c =
    let h = c.args in
    record { answered = c.fits.ensures.answered ∙ ap row (step_checked h.step.now h.room c.if-step-ne-STEP.false) }
