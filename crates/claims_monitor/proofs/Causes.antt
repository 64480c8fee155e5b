-- Each cause has its step, computed. Assumes nothing.
use mathlib.Core.Path.{refl}
use Rattle.notions.specs.First.{first}
use Rattle.rules.specs.Rules.{cause}
use Rattle.claims_monitor.specs.Causes as claim

pub each_cause : claim.EachCause
unfolding first cause
each_cause p = refl
