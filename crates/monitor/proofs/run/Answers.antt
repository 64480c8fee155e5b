-- `monitor::run` meets its contract. Assumes nothing.
use mathlib.Core.Path.{refl, ◌∙◌}
use mathlib.Core.Bool.{not}
use native.Mathlib.Omega.{arith}
use lib.Dec.{eqb}
use Rattle.monitor.proofs.Turns.{none, more, one_if, one_most, whole}
use Rattle.monitor.proofs.run.Goals as goal

pub loop-i-init : goal.loop-i-init
loop-i-init c = (omega arith, none _ _ _ _)

pub overflow_add-resets : goal.overflow_add-resets
overflow_add-resets c =
    let t = not (eqb c.run_step-j.result.answer.cause 0) in
    omega (arith, c.from-resets.ensures ∙ one_if t, one_most t)

pub loop-i-preserved : goal.loop-i-preserved
loop-i-preserved c =
    let j = c.run_step-j in
    let t = not (eqb j.result.answer.cause 0) in
    let e = c.from-resets.ensures ∙ one_if t in (
      omega (arith, c.loop-i.invariant, e, one_most t),
      more _ _ _ _ _ _ _ _ _ c.loop-i.invariant.1 _ _ _ j.ensures _ e,
    )

pub returns : goal.returns
returns c =
    let h = c.loop-i in
    whole _ _ _ _ h.i h.memory h.room h.m h.resets _ h.invariant.1 refl (omega arith)
