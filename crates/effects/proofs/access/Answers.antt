-- `effects::access` meets its contract. Assumes nothing.
use Rattle.effects.specs.Effects.{exposing, storing}
use Rattle.effects.proofs.access.Goals as goal

pub returns : goal.returns
unfolding exposing storing
returns c = (
  simp (c.holds.ensures, c.exposure-exposed.ensures, c.peek-cpubyte.ensures, c.peek-dmabyte.ensures),
  simp (c.put-2.ensures, c.put.ensures),
)
