-- What a step hands out and what it stores, by its cause. Assumes nothing.
use Rattle.std.specs.Prelude.{Bool, not, ◌&&◌, List, [], ◌∷◌, ℕ, ◌+◌, eqb, get_or, set}
use Rattle.notions.specs.Choice.{pick}
use Rattle.layout.specs.declared.Layout.{Layout}
use Rattle.layout.specs.Regions.{outside}
use Rattle.steps.specs.declared.Step.{Step}
use Rattle.effects.specs.declared.StepAnswer.{StepAnswer}

-- a CPU read is exposed if PC is outside CR; a DMA read is exposed
abbrev pub cpu_exposed : Layout → Step → Bool
cpu_exposed l s = s.cpureads && outside l.cr s.pc

abbrev pub dma_exposed : Step → Bool
dma_exposed s = s.dmaactive && not s.dmawrites

-- what a step hands out that does not reset: reads see memory as it was before the step, a byte not exposed is 0
unfoldable pub exposing : Layout → Step → List ℕ → StepAnswer
exposing l s memory = record {
  cause = 0;
  exposed = pick (cpu_exposed l s) 1 0 + pick (dma_exposed s) 2 0;
  cpubyte = pick (cpu_exposed l s) (get_or memory s.cpuaddress 0) 0;
  dmabyte = pick (dma_exposed s) (get_or memory s.dmaaddress 0) 0;
}

-- a step is given with its cause, which is decided elsewhere: it resets exactly if that is not 0
abbrev pub is_reset : ℕ → Bool
is_reset c = not (eqb c 0)

-- a step that resets hands out nothing
unfoldable pub answer : Layout → ℕ → Step → List ℕ → StepAnswer
answer l c s memory =
    pick (is_reset c) (record { cause = c; exposed = 0; cpubyte = 0; dmabyte = 0 }) (exposing l s memory)

-- the four answer bytes
abbrev pub bytes : StepAnswer → List ℕ
bytes a = a.cause ∷ a.exposed ∷ a.cpubyte ∷ a.dmabyte ∷ []

-- a store takes place where its access does and the address is not in CR or KR
abbrev pub lands : Layout → Bool → ℕ → Bool
lands l on a = on && outside l.cr a && outside l.kr a

unfoldable pub stored : Layout → Bool → ℕ → ℕ → List ℕ → List ℕ
stored l on a v memory = pick (lands l on a) (set memory a v) memory

-- the CPU's store is done, then the DMA's
unfoldable pub storing : Layout → Step → List ℕ → List ℕ
storing l s memory =
    stored l (s.dmaactive && s.dmawrites) s.dmaaddress s.dmadata
    (stored l s.cpuwrites s.cpuaddress s.cpudata memory)

-- the memory after a step: one that resets stores nothing
unfoldable pub written : Layout → ℕ → Step → List ℕ → List ℕ
written l c s memory = pick (is_reset c) memory (storing l s memory)
