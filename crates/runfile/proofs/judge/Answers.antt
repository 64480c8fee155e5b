-- `runfile::judge` meets its contract. Assumes nothing.
use mathlib.Core.Path.{◌≡◌, refl, sym, subst}
use Rattle.std.proofs.Common.{rules, Result, Err}
use Rattle.refusal.specs.declared.Refusal.{Refusal}
use Rattle.monitor.specs.declared.Totals.{Totals}
use Rattle.runfile.specs.Promises.{Judges}
use Rattle.file_contents.proofs.Entries.{layout_within, memory_before, trace_within, layout_part, memory_part}
use Rattle.file_contents.proofs.Entries.{trace_part}
use Rattle.runfile.proofs.Files.{checked, passed, judged, refused}
use Rattle.runfile.proofs.judge.Goals as goal

pub slice_bounds-judge_bodies-end : goal.slice_bounds-judge_bodies-end
slice_bounds-judge_bodies-end c =
    let f = c.args.file.now in
    let s = passed f _ c.in_ok-check_contents.ensures refl in
    layout_within f s

pub slice_bounds-judge_bodies-count-2 : goal.slice_bounds-judge_bodies-count-2
slice_bounds-judge_bodies-count-2 c =
    let f = c.args.file.now in
    let s = passed f _ c.in_ok-check_contents.ensures refl in
    memory_before f s _ c.trace_begins-trace_at.ensures

pub slice_bounds-judge_bodies-start-2 : goal.slice_bounds-judge_bodies-start-2
slice_bounds-judge_bodies-start-2 c =
    let f = c.args.file.now in
    let s = passed f _ c.in_ok-check_contents.ensures refl in
    memory_before f s _ c.trace_begins-trace_at.ensures

pub slice_bounds-judge_bodies-end-2 : goal.slice_bounds-judge_bodies-end-2
slice_bounds-judge_bodies-end-2 c =
    let f = c.args.file.now in
    let s = passed f _ c.in_ok-check_contents.ensures refl in
    trace_within f s _ c.trace_begins-trace_at.ensures

pub slice_bounds-judge_bodies-count-3 : goal.slice_bounds-judge_bodies-count-3
slice_bounds-judge_bodies-count-3 c =
    let f = c.args.file.now in
    let s = passed f _ c.in_ok-check_contents.ensures refl in
    trace_within f s _ c.trace_begins-trace_at.ensures

pub slice_bounds-judge_bodies-start-3 : goal.slice_bounds-judge_bodies-start-3
slice_bounds-judge_bodies-start-3 c =
    let f = c.args.file.now in
    let s = passed f _ c.in_ok-check_contents.ensures refl in
    trace_within f s _ c.trace_begins-trace_at.ensures

pub returns : goal.returns
returns c =
    let h = c.args in
    let f = h.file.now in
    let a = c.in_ok-check_contents.ensures in
    let t = c.trace_begins-trace_at.ensures in
    let s = passed f _ a refl in
    judged f _ _ _ h.memory.now h.room.now _ _ _ (checked f _ _ a refl)
    (layout_part f s) (memory_part f s _ t) (trace_part f s _ t)
    c.judge_bodies.ensures

pub returns-in_err-check_contents : goal.returns-in_err-check_contents
returns-in_err-check_contents c =
    let h = c.args in
    let f = h.file.now in
    let e : c.from_residual.result ≡ Err c.in_err-check_contents.field-0.0 = search rules in
    subst (λ (x : Result Totals Refusal). Judges f h.memory.now h.room.now h.memory.now h.room.now x) (sym e)
    (refused f h.memory.now h.room.now _ (checked f _ _ c.in_err-check_contents.ensures refl))
