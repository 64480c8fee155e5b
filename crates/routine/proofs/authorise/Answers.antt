-- `routine::authorise` meets its contract. Assumes nothing.
use mathlib.Core.Path.{sym, ◌∙◌}
use Rattle.routine.proofs.Requests.{refuses_old, refuses_token, authorises}
use Rattle.routine.proofs.authorise.Goals as goal

pub returns-then-not-greater : goal.returns-then-not-greater
returns-then-not-greater c =
    let z = c.args in
    refuses_old z.key.now z.challenge.now z.received.now z.counter.now (sym c.greater.ensures ∙ c.if-not-greater.true) c.into.ensures

pub returns-then-not-equal : goal.returns-then-not-equal
returns-then-not-equal c =
    let z = c.args in
    refuses_token z.key.now z.challenge.now z.received.now z.counter.now (sym c.greater.ensures ∙ c.if-not-greater.false) c.in_ok-t.ensures
    (sym c.equal.ensures ∙ c.if-not-equal.true) c.into-then-not-equal.ensures

pub returns : goal.returns
returns c =
    let z = c.args in
    authorises z.key.now z.challenge.now z.received.now z.counter.now (sym c.greater.ensures ∙ c.if-not-greater.false) c.in_ok-t.ensures
    (sym c.equal.ensures ∙ c.if-not-equal.false)
