-- `monitor::run_with` meets its contract. Assumes nothing.
use Rattle.monitor.proofs.Calls.{run_of, run_refused, run_without_memory, run_without_room}
use Rattle.monitor.proofs.run_with.Goals as goal

pub returns-then-memory-ne-MEMORY_BYTES : goal.returns-then-memory-ne-MEMORY_BYTES
returns-then-memory-ne-MEMORY_BYTES c =
    let h = c.args in
    run_refused h.l h.trace.now h.memory.now h.room.now _ _ c.into.ensures
    (run_without_memory h.trace.now h.memory.now _ c.if-memory-ne-MEMORY_BYTES.true)

pub returns-then-room-trace : goal.returns-then-room-trace
returns-then-room-trace c =
    let h = c.args in
    run_refused h.l h.trace.now h.memory.now h.room.now _ _ c.into-then-room-trace.ensures
    (run_without_room h.trace.now h.memory.now _ c.if-memory-ne-MEMORY_BYTES.false c.if-room-trace.true)

pub returns : goal.returns
returns c =
    let h = c.args in
    run_of h.l h.trace.now h.memory.now h.room.now _ _ _ c.if-memory-ne-MEMORY_BYTES.false c.if-room-trace.false
    c.run.ensures
