-- `octets::store` meets its contract. Assumes nothing.
use mathlib.Core.Path.{sym}
use native.Mathlib.Omega.{arith}
use Rattle.octets.proofs.Laid.{stored, sets_out}
use Rattle.octets.proofs.store.Goals as goal

pub returns-then-room-at : goal.returns-then-room-at
returns-then-room-at c = let a = c.args in sym (sets_out a.room.now a.x.now a.at c.if-room-at.true)

pub returns : goal.returns
returns c =
    let a = c.args in
    stored a.room.now a.x.now _ a.at _ c.min-k.result c.min-k.ensures (omega arith) c.copy_from_slice.ensures.after
