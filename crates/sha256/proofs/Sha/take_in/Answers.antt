-- `sha256::Sha::take_in` meets its contract. Assumes nothing.
use mathlib.Core.Path.{sym, ap, ◌∙◌}
use Rattle.refusal.specs.Answers.{refusal_row}
use Rattle.sha256.proofs.Sha.take_in.Goals as goal

pub returns-then-over : goal.returns-then-over
returns-then-over c =
    let o = sym c.over.ensures ∙ c.if-over.true in
    record { answered = rw o (ap refusal_row c.into.ensures); handed = rw o }
