-- `monitor::run` meets its contract. Assumes nothing.
use Prim.Native.Nat.{◌≤◌}
use Rattle.monitor.proofs.Turns.{After}
use Rattle.monitor.proofs.run.Given as goal

-- after i steps: no more steps have reset than were judged, and monitor, memory, room and resets are those of the run's first i
-- steps
abbrev pub invariant-loop-i : goal.invariant-loop-i
invariant-loop-i l =
    (l.resets ≤ l.i) × After l.l l.trace l.initial.memory l.initial.room l.i l.memory l.room l.m l.resets
