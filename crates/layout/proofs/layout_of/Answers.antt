use Rattle.std.proofs.Common.{rules}
use Rattle.layout.specs.Layouts.{layout_of}
use Rattle.layout.proofs.layout_of.Goals as goal

pub returns : goal.returns
unfolding layout_of
returns c = search rules
