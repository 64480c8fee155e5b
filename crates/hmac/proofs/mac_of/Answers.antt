-- `hmac::mac_of` meets its contract. Assumes nothing.
use Rattle.hmac.specs.Hmac.{hmac}
use Rattle.hmac.proofs.mac_of.Goals as goal

pub returns : goal.returns
unfolding hmac
returns c = cc
