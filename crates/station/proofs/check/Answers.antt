-- `station::check` meets its contract. Assumes nothing.
use Rattle.station.proofs.Checks.{check_refused, checked}
use Rattle.station.proofs.check.Goals as goal

pub returns-then-key-challenge : goal.returns-then-key-challenge
returns-then-key-challenge c =
    let z = c.args in
    check_refused z.key.now z.challenge.now z.reply.now z.region.now c.if-key-challenge.true c.into.ensures

pub returns : goal.returns
returns c =
    let z = c.args in
    checked z.key.now z.challenge.now z.reply.now z.region.now c.if-key-challenge.false _ c.in_ok-due.ensures c.equal.ensures
