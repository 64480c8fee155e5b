-- `speed::speed_mac` meets its contract. Assumes nothing.
use Rattle.speed.proofs.Rooms.{holds}
use Rattle.speed.proofs.speed_mac.Goals as goal

pub returns : goal.returns
returns c = holds _ _ _ _ c.args.room.now _ _ c.store.ensures c.unwrap_or-d.ensures c.mac.ensures
