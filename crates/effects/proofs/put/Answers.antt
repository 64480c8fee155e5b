-- `effects::put` meets its contract. Assumes nothing.
use Rattle.effects.proofs.Bounds.{unstored, landed, barred}
use Rattle.effects.proofs.put.Goals as goal

pub returns-then-on-memory : goal.returns-then-on-memory
returns-then-on-memory c =
    let h = c.args in unstored h.l h.on h.a h.v h.memory.now c.if-on-memory.true

pub returns-then-holds : goal.returns-then-holds
returns-then-holds c =
    let h = c.args in
    landed h.l h.on h.a h.v h.memory.now c.if-on-memory.false _ _ c.holds.ensures c.holds-2.ensures c.if-holds.true

pub returns-else-holds : goal.returns-else-holds
returns-else-holds c =
    let h = c.args in
    barred h.l h.on h.a h.v h.memory.now c.if-on-memory.false _ _ c.holds.ensures c.holds-2.ensures c.if-holds.false
