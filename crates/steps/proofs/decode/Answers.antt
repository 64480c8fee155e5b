-- `steps::decode` meets its contract. Assumes nothing.
use Rattle.steps.specs.Steps.{step_of}
use Rattle.steps.proofs.decode.Goals as goal

pub returns : goal.returns
unfolding step_of
returns c =
    cc (
      c.number_of_two.ensures,
      c.number_of_two-2.ensures,
      c.number_of_two-3.ensures,
      c.bit.ensures,
      c.bit-2.ensures,
      c.bit-3.ensures,
      c.bit-4.ensures,
      c.bit-5.ensures,
    )
