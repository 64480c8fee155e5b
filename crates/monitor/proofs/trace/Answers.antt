-- `monitor::trace` meets its contract. Assumes nothing.
use mathlib.Core.Path.{refl}
use Rattle.monitor.proofs.Calls.{admitted, ran}
use Rattle.monitor.proofs.trace.Goals as goal

pub returns : goal.returns
returns c =
    let h = c.args in
    ran h.memory.now h.layout.now h.trace.now h.room.now _ _ _ _
    (admitted h.memory.now h.layout.now _ _ _ _ c.fits-rest.ensures.answered c.in_ok-l.ensures refl)
    c.run_with.ensures
