-- `step_codecs::step_bytes` meets its contract. Assumes nothing.
use Rattle.steps.specs.Steps.{encode}
use Rattle.step_codecs.proofs.step_bytes.Goals as goal

pub returns : goal.returns
unfolding encode
returns c = simp (c.to_le_bytes.ensures, c.to_le_bytes-2.ensures, c.to_le_bytes-3.ensures, c.flags.ensures)
