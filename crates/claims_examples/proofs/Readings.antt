-- The reader's table holds: both sides are worked out. Assumes nothing.
use mathlib.Core.Path.{refl}
use Rattle.steps.specs.Steps.{step_of}
use Rattle.reader.specs.Reading.{read_at}
use Rattle.claims_examples.specs.Readings.{EachReading}

pub each_reading : EachReading
unfolding read_at step_of
each_reading = (refl, refl)
