-- `speed::speed_attest` meets its contract. Assumes nothing.
use Rattle.speed.proofs.Numbers.{attest_number}
use Rattle.speed.proofs.speed_attest.Goals as goal

pub returns : goal.returns
returns c = attest_number _ _ _ _ _ c.attest.ensures c.number.ensures
