-- What is exposed lies outside KR and XS: rules 1, 5, 7 and 8 see to it. Assumes nothing.
use mathlib.Core.Path.{◌≡◌}
use mathlib.Core.Bool.{Bool, true, false, not, ◌&&◌, false≢true}
use native.Mathlib.Omega.{arith}
use Rattle.notions.proofs.Tests.{neither, both}
use Rattle.layout.specs.declared.Layout.{Layout}
use Rattle.layout.specs.Regions.{within, outside}
use Rattle.steps.specs.declared.Step.{Step}
use Rattle.rules.specs.declared.Monitor.{Monitor}
use Rattle.rules.specs.Rules.{cpu_reads_in, cpu_writes_in, cause}
use Rattle.rules.proofs.Laws.{quiet}
use Rattle.effects.specs.Effects.{cpu_exposed, dma_exposed}

-- of tests: what is on is not inside
on_outside : (on inside : Bool) → on ≡ true → (on && inside) ≡ false → not inside ≡ true
on_outside false inside h e = absurd (false≢true h)
on_outside true inside h e = simp e

module _ (l : Layout) (m : Monitor) (s : Step) (e : cause l m s ≡ 0) where
  pub cpu_outside : cpu_exposed l s ≡ true → (outside l.kr s.cpuaddress ≡ true) × (outside l.xs s.cpuaddress ≡ true)
  cpu_outside h =
      let on = both s.cpureads (outside l.cr s.pc) h in
      let kr = simp on.1 at (quiet l m s e 1 (omega arith)) in
      let xs =
      (neither (cpu_reads_in l.xs s) (cpu_writes_in l.xs s) (simp on.1 at (quiet l m s e 5 (omega arith)))).0 in (
        on_outside s.cpureads (within l.kr s.cpuaddress) on.0 kr,
        on_outside s.cpureads (within l.xs s.cpuaddress) on.0 xs,
      )

  pub dma_outside : dma_exposed s ≡ true → (outside l.kr s.dmaaddress ≡ true) × (outside l.xs s.dmaaddress ≡ true)
  dma_outside h =
      let on = (both s.dmaactive (not s.dmawrites) h).0 in (
        on_outside s.dmaactive (within l.kr s.dmaaddress) on (quiet l m s e 7 (omega arith)),
        on_outside s.dmaactive (within l.xs s.dmaaddress) on (quiet l m s e 8 (omega arith)),
      )
