-- `routine::reply_to` meets its contract. Assumes nothing.
use Rattle.routine.proofs.Requests.{reply_to_made}
use Rattle.routine.proofs.reply_to.Goals as goal

pub returns : goal.returns
returns c =
    let z = c.args in
    reply_to_made z.key.now z.t.now z.region.now c.in_ok-one_time_key.one_time_key _ c.in_ok-one_time_key.ensures c.mac-2.ensures
