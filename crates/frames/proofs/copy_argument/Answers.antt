-- `frames::copy_argument` meets its contract. Assumes nothing.
use Rattle.frames.proofs.Walk.{copied}
use Rattle.frames.proofs.copy_argument.Goals as goal

pub returns : goal.returns
returns c =
    let a = c.args in
    copied a.bytes.now a.i a.room.now c.argument-given.result.now _ _
    c.argument-given.ensures c.min-fits.ensures c.copy_from_slice.ensures.after
