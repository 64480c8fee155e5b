-- `layout::collide` meets its contract. Assumes nothing.
use Rattle.layout.proofs.collide.Goals as goal

pub returns : goal.returns
returns c =
    simp (c.region_at-y.ensures, c.region_at-x.ensures)
