-- `routine::reply` meets its contract. Assumes nothing.
use Rattle.routine.proofs.Requests.{reply_made}
use Rattle.routine.proofs.reply.Goals as goal

pub returns : goal.returns
returns c =
    let z = c.args in
    reply_made z.key.now z.challenge.now z.region.now c.in_ok-t.t _ c.in_ok-t.ensures c.reply_to.ensures
