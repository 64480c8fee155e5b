-- `monitor::step` meets its contract. Assumes nothing.
use mathlib.Core.Path.{refl}
use Rattle.monitor.proofs.Calls.{admitted, step_admitted, step_judged}
use Rattle.monitor.proofs.step.Goals as goal

pub run_step-requires : goal.run_step-requires
run_step-requires c =
    let h = c.args in
    step_admitted h.memory.now h.layout.now h.step.now h.room.now _
    (admitted h.memory.now h.layout.now _ _ _ _ c.step_fits-rest.ensures.answered c.in_ok-l.ensures refl)

pub returns : goal.returns
returns c =
    let h = c.args in
    step_judged h.memory.now h.layout.now h.step.now h.monitor h.room.now _ _ _ _
    (admitted h.memory.now h.layout.now _ _ _ _ c.step_fits-rest.ensures.answered c.in_ok-l.ensures refl)
    c.run_step.ensures
