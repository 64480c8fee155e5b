-- `frames::argument` meets its contract. Assumes nothing.
use Rattle.frames.proofs.Walk.{stands}
use Rattle.frames.proofs.argument.Goals as goal

pub returns : goal.returns
returns c =
    let a = c.args in
    stands a.bytes.now a.i c.begin-at.result c.min.result _ _
    c.begin-at.ensures c.min.ensures c.size_at.ensures c.min-size.ensures
