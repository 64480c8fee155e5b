-- The marked steps hold of the definitions. Assumes nothing.
use mathlib.Core.Path.{refl}
use Rattle.notions.specs.First.{first}
use Rattle.layout.specs.Layouts.{layout_of, layout_check}
use Rattle.rules.specs.Rules.{cause}
use Rattle.claims_monitor.specs.Marked as claim

pub page_layout : claim.PageLayout
unfolding first layout_of layout_check
page_layout = record { passes = refl; decoded = refl }

pub marked : claim.Marked
unfolding first cause
marked p = refl
