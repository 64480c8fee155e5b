-- `frames::frame` meets its contract. Assumes nothing.
use Rattle.std.proofs.Common.{◌∙◌}
use Rattle.frames.proofs.Walk.{framed_none, framed_unlisted, framed_listed}
use Rattle.frames.proofs.frame.Goals as goal

pub returns-in_default : goal.returns-in_default
returns-in_default c = framed_none _ c.in_default.ensures.value

pub returns-in-Some-lengths : goal.returns-in-Some-lengths
returns-in-Some-lengths c =
    c.framed_all.ensures ∙ framed_listed _ _ _ c.in-Some.ensures.value c.in-Some-lengths.ensures

pub returns-in-None : goal.returns-in-None
returns-in-None c = framed_unlisted _ _ c.in-Some.ensures.value c.in-None.ensures
