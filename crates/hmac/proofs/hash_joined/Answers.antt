-- `hmac::hash_joined` meets its contract. Assumes nothing.
use Rattle.std.proofs.Common.{refl}
use native.Mathlib.Omega.{arith}
use Rattle.hmac.proofs.Joined.{joined}
use borrow.Author.Rules.{rules}
use Rattle.hmac.proofs.hash_joined.Goals as goal

pub unwrap-requires : goal.unwrap-requires
unwrap-requires c =
    let z = c.args in
    rw (joined z.block z.message.now c.start.result c.take_in.result c.take_in-2.result c.finish.result (search rules)
    (omega arith) c.start.ensures c.take_in.ensures c.take_in-2.ensures c.finish.ensures) refl

pub returns : goal.returns
returns c =
    let z = c.args in
    let e = joined z.block z.message.now c.start.result c.take_in.result c.take_in-2.result c.finish.result (search rules)
    (omega arith) c.start.ensures c.take_in.ensures c.take_in-2.ensures c.finish.ensures in
    cc (e, c.unwrap.ensures)
