-- `step_codecs::monitor_of` meets its contract. Assumes nothing.
use Rattle.step_codecs.specs.Monitors.{monitor_of}
use Rattle.step_codecs.proofs.monitor_of.Goals as goal

pub returns : goal.returns
unfolding monitor_of
returns c = cc (c.byte_at.ensures, c.byte_at-2.ensures, c.byte_at-3.ensures, c.number_of_two.ensures)
