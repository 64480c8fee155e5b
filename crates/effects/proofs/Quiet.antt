-- A step with PC in CR and the DMA at rest, on plain variables. Assumes nothing.
use mathlib.Core.Path.{◌≡◌}
use mathlib.Core.Bool.{Bool, true, false, not, ◌&&◌, and-false}
use mathlib.Core.List.{List}
use Prim.Native.Nat.{ℕ}
use borrow.Author.Tests.{not-true}
use Rattle.notions.proofs.Tests.{both}
use Rattle.layout.specs.declared.Layout.{Layout}
use Rattle.layout.specs.Regions.{within}
use Rattle.steps.specs.declared.Step.{Step}
use Rattle.effects.specs.declared.StepAnswer.{StepAnswer}
use Rattle.effects.specs.Effects.{exposing, stored, storing}

-- it hands out nothing, and of its stores only the CPU's is left
pub quiet : (l : Layout) (s : Step) (memory : List ℕ) (h : Bool) → h ≡ within l.cr s.pc
    → (h && not s.dmaactive) ≡ true
    → (◌≡◌ {A = StepAnswer} (record { cause = 0; exposed = 0; cpubyte = 0; dmabyte = 0 }) (exposing l s memory))
    × (stored l s.cpuwrites s.cpuaddress s.cpudata memory ≡ storing l s memory)
unfolding exposing storing stored
quiet l s memory h e t =
    let b = both h (not s.dmaactive) t in
    let p : within l.cr s.pc ≡ true = cc b.0 in
    let a : s.dmaactive ≡ false = not-true s.dmaactive b.1 in
    (simp (p, a, and-false), simp (a))
