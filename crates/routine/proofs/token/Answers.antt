-- `routine::token` meets its contract. Assumes nothing.
use Rattle.routine.specs.Routine.{token}
use Rattle.routine.proofs.token.Goals as goal

pub returns : goal.returns
unfolding token
returns c = c.mac.ensures
