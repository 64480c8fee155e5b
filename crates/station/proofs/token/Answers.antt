-- `station::token` meets its contract. Assumes nothing.
use Rattle.station.proofs.Checks.{token_given}
use Rattle.station.proofs.token.Goals as goal

pub returns : goal.returns
returns c = token_given c.args.key.now c.args.challenge.now _ c.if-key-challenge.false c.token.ensures
