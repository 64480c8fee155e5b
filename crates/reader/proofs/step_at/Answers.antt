-- `reader::step_at` meets its contract. Assumes nothing.
use Rattle.std.specs.Prelude.{Some, Ok, Err}
use mathlib.Core.Path.{sym, ap, ◌∙◌}
use mathlib.Core.Bool.{not}
use Rattle.steps.specs.Steps.{clean, step_of}
use Rattle.reader.specs.Reading.{read_row}
use Rattle.traces.proofs.Laws.{record_there}
use Rattle.reader.proofs.Laws.{read_nothing, read_end, read_unclean, read_step}
use Rattle.reader.proofs.step_at.Goals as goal

pub returns-then-misfits : goal.returns-then-misfits
returns-then-misfits c =
    let m = sym c.misfits.ensures ∙ c.if-misfits.true in
    record { answered = ap read_row (ap Err c.into.ensures ∙ sym (read_nothing _ _ m)) }

pub returns-then-trace-place : goal.returns-then-trace-place
returns-then-trace-place c =
    let m = sym c.misfits.ensures ∙ c.if-misfits.false in
    record { answered = ap read_row (sym (read_end _ _ m c.if-trace-place.true)) }

pub returns-then-not-clean : goal.returns-then-not-clean
returns-then-not-clean c =
    let m = sym c.misfits.ensures ∙ c.if-misfits.false in
    let e = record_there _ _ _ c.if-trace-place.false c.step_record-bytes.ensures in
    let u = ap not (sym (c.clean.ensures ∙ ap clean e) ∙ c.if-not-clean.true) in
    record { answered = ap read_row (ap Err c.at.ensures ∙ sym (read_unclean _ _ m c.if-trace-place.false u)) }

pub returns : goal.returns
returns c =
    let m = sym c.misfits.ensures ∙ c.if-misfits.false in
    let e = record_there _ _ _ c.if-trace-place.false c.step_record-bytes.ensures in
    let u = ap not (sym (c.clean.ensures ∙ ap clean e) ∙ c.if-not-clean.false) in
    record {
      answered = ap read_row (ap (λ x. Ok (Some x)) (c.decode.ensures ∙ ap step_of e) ∙ sym (read_step _ _ m c.if-trace-place.false u));
    }
