-- `traces::fits` meets its contract: each refusal is the first that the definition gives.
use Rattle.std.proofs.Common.{ap, sym, ◌∙◌}
use borrow.Author.Tests.{lt-ltb, le-ltb}
use Rattle.refusal.specs.Answers.{refusal_row}
use Rattle.notions.proofs.First.{found_some, found_nothing}
use Rattle.traces.specs.Traces.{trace_check}
use Rattle.traces.proofs.fits.Goals as goal

pub returns-then-misfits : goal.returns-then-misfits
unfolding trace_check
returns-then-misfits c =
    let m = sym c.misfits.ensures ∙ c.if-misfits.true in
    record { answered = ap refusal_row c.into.ensures ∙ simp m }

pub returns-then-room-trace : goal.returns-then-room-trace
unfolding trace_check
returns-then-room-trace c =
    let m = sym c.misfits.ensures ∙ c.if-misfits.false in
    record { answered = ap refusal_row c.into-then-room-trace.ensures ∙ simp (m, lt-ltb _ _ c.if-room-trace.true) }

pub returns-in-Some : goal.returns-in-Some
unfolding trace_check
returns-in-Some c =
    let m = sym c.misfits.ensures ∙ c.if-misfits.false in
    let f = found_some _ _ _ (sym c.first_unclean.ensures ∙ c.in-Some.is) in
    record { answered = ap refusal_row c.at.ensures ∙ simp (m, le-ltb _ _ c.if-room-trace.false, f.0, f.1) }

pub returns : goal.returns
unfolding trace_check
returns c =
    let m = sym c.misfits.ensures ∙ c.if-misfits.false in
    let f = found_nothing _ _ (sym c.first_unclean.ensures ∙ c.in_default.is) in
    record { answered = simp (m, le-ltb _ _ c.if-room-trace.false, f) }
