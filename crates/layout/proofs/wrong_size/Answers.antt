-- `layout::wrong_size` meets its contract. Assumes nothing.
use Rattle.layout.proofs.wrong_size.Goals as goal

pub returns : goal.returns
returns c = simp c.size-n.ensures
