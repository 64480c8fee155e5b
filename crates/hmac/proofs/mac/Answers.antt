-- `hmac::mac` meets its contract. Assumes nothing.
use borrow.Author.Tests.{ltb-false}
use Rattle.notions.proofs.Tests.{neither}
use Rattle.hmac.specs.Promises.{long}
use Rattle.hmac.proofs.mac.Goals as goal

pub mac_of-requires : goal.mac_of-requires
mac_of-requires c =
    let z = c.args in
    let n = neither (long z.key.now) (long z.message.now) c.if-key-message.false in
    (ltb-false _ _ n.0, ltb-false _ _ n.1)
