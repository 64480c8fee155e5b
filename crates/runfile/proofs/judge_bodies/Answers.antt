-- `runfile::judge_bodies` meets its contract. Assumes nothing.
use mathlib.Core.Path.{◌≡◌, refl, sym, subst}
use Rattle.std.proofs.Common.{rules, Result, Err}
use Rattle.refusal.specs.declared.Refusal.{Refusal}
use Rattle.monitor.specs.declared.Totals.{Totals}
use Rattle.runfile.specs.Inner.{JudgesBodies}
use Rattle.monitor.proofs.Calls.{admitted}
use Rattle.runfile.proofs.Bodies.{passed, judged, refused}
use Rattle.runfile.proofs.judge_bodies.Goals as goal

pub returns-in_err-l : goal.returns-in_err-l
returns-in_err-l c =
    let h = c.args in
    let m = h.memory.now in
    let e : c.from_residual.result ≡ Err c.in_err-l.field-0.0 = search rules in
    let g = admitted m h.layout.now _ _ _ _ c.check_bodies-rest.ensures c.in_err-l.ensures refl in
    subst (λ (x : Result Totals Refusal). JudgesBodies h.layout.now h.segments.now h.trace.now m h.room.now m h.room.now x)
    (sym e) (refused h.layout.now h.segments.now h.trace.now m h.room.now _ g)

pub returns : goal.returns
returns c =
    let h = c.args in
    let m = h.memory.now in
    let g = admitted m h.layout.now _ _ _ _ c.check_bodies-rest.ensures c.in_ok-l.ensures refl in
    let p = passed h.layout.now h.segments.now h.trace.now m h.room.now _ g in
    judged h.layout.now h.segments.now h.trace.now m h.room.now _ _ _ _ _ p
    c.fill.ensures c.run_with.ensures
