-- `effects::perform` meets its contract. Assumes nothing.
use mathlib.Core.Path.{◌∙◌}
use Rattle.effects.proofs.Quiet.{quiet}
use Rattle.effects.proofs.perform.Goals as goal

pub returns-then-holds-s : goal.returns-then-holds-s
returns-then-holds-s c =
    let h = c.args in
    let q = quiet h.l h.s h.memory.now _ c.holds.ensures c.if-holds-s.true in
    (q.0, c.put.ensures ∙ q.1)
