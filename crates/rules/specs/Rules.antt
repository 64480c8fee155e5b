-- The rules page's table: when a step resets, and by which cause. Assumes nothing.
use Rattle.std.specs.Prelude.{Bool, true, false, not, ◌&&◌, ◌||◌, List, [], ◌∷◌, ℕ, eqb, ltb, get_or}
use Rattle.notions.specs.Choice.{pick}
use Rattle.notions.specs.First.{first}
use Rattle.layout.specs.declared.Region.{Region}
use Rattle.layout.specs.declared.Layout.{Layout}
use Rattle.layout.specs.Regions.{within, outside}
use Rattle.steps.specs.declared.Step.{Step}
use Rattle.rules.specs.declared.Monitor.{Monitor}
use Rattle.rules.specs.declared.Broken.{Broken}

-- the monitor starts held, with PC 0
abbrev pub start : Monitor
start = record { held = true; lastpc = 0 }

-- the CPU reads in a region, or writes in it
abbrev pub cpu_reads_in : Region → Step → Bool
cpu_reads_in r s = s.cpureads && within r s.cpuaddress

abbrev pub cpu_writes_in : Region → Step → Bool
cpu_writes_in r s = s.cpuwrites && within r s.cpuaddress

-- the attestation code writes in a region: PC in CR, and the CPU writes there
abbrev pub code_writes_in : Region → Layout → Step → Bool
code_writes_in r l s = within l.cr s.pc && cpu_writes_in r s

-- the addresses that it may write: XS, MR and CTR
abbrev pub writable : Layout → ℕ → Bool
writable l a = within l.xs a || within l.mr a || within l.ctr a

-- the DMA is active in a region, or writes in it: bit 4 without bit 3 has no effect
abbrev pub dma_active_in : Region → Step → Bool
dma_active_in r s = s.dmaactive && within r s.dmaaddress

abbrev pub dma_writes_in : Region → Step → Bool
dma_writes_in r s = s.dmawrites && dma_active_in r s

-- PC outside CR, CPU reads in KR
abbrev pub rule1 : Layout → Step → Bool
rule1 l s = outside l.cr s.pc && cpu_reads_in l.kr s

-- last PC in CR and not its highest address, PC outside CR
abbrev pub rule2 : Layout → Monitor → Step → Bool
rule2 l m s = within l.cr m.lastpc && not (eqb m.lastpc l.cr.hi) && outside l.cr s.pc

-- last PC outside CR, PC in CR and not its lowest address
abbrev pub rule3 : Layout → Monitor → Step → Bool
rule3 l m s = outside l.cr m.lastpc && within l.cr s.pc && not (eqb s.pc l.cr.lo)

-- interrupt, PC in CR
abbrev pub rule4 : Layout → Step → Bool
rule4 l s = s.interrupt && within l.cr s.pc

-- PC outside CR, CPU reads or writes in XS
abbrev pub rule5 : Layout → Step → Bool
rule5 l s = outside l.cr s.pc && (cpu_reads_in l.xs s || cpu_writes_in l.xs s)

-- PC in CR, CPU writes outside XS, MR and CTR
abbrev pub rule6 : Layout → Step → Bool
rule6 l s =
    within l.cr s.pc && s.cpuwrites
    && (outside l.xs s.cpuaddress && outside l.mr s.cpuaddress && outside l.ctr s.cpuaddress)

-- DMA active in KR
abbrev pub rule7 : Layout → Step → Bool
rule7 l s = dma_active_in l.kr s

-- DMA active in XS
abbrev pub rule8 : Layout → Step → Bool
rule8 l s = dma_active_in l.xs s

-- DMA active, PC in CR
abbrev pub rule9 : Layout → Step → Bool
rule9 l s = s.dmaactive && within l.cr s.pc

-- PC outside CR and CPU writes in CTR, or DMA writes in CTR
abbrev pub rule10 : Layout → Step → Bool
rule10 l s = outside l.cr s.pc && cpu_writes_in l.ctr s || dma_writes_in l.ctr s

-- held and PC not 0
abbrev pub rule15 : Monitor → Step → Bool
rule15 m s = m.held && not (eqb s.pc 0)

-- which of the ten are tried at a step and apply to it: not held, all are tried; held, only 1, 5, 7, 8 and 10
abbrev pub broken : Layout → Monitor → Step → Broken
broken l m s = record {
  r1 = rule1 l s;
  r2 = not m.held && rule2 l m s;
  r3 = not m.held && rule3 l m s;
  r4 = not m.held && rule4 l s;
  r5 = rule5 l s;
  r6 = not m.held && rule6 l s;
  r7 = rule7 l s;
  r8 = rule8 l s;
  r9 = not m.held && rule9 l s;
  r10 = rule10 l s;
}

-- whether each of them is broken, by number from 1 on
abbrev pub in_order : Broken → List Bool
in_order b = b.r1 ∷ b.r2 ∷ b.r3 ∷ b.r4 ∷ b.r5 ∷ b.r6 ∷ b.r7 ∷ b.r8 ∷ b.r9 ∷ b.r10 ∷ []

-- rule number k among them; number 0 is no rule
abbrev pub numbered : Broken → ℕ → Bool
numbered b k = get_or (false ∷ in_order b) k false

-- the ten rules' numbers and 0, which is none of them, are below this
abbrev pub rule_numbers : ℕ
rule_numbers = 11

-- the lowest number, 0 if there is none
abbrev pub lowest : Broken → ℕ
lowest b = pick (ltb (first rule_numbers (numbered b)) rule_numbers) (first rule_numbers (numbered b)) 0

-- why a step resets, 0 if it does not. Held and PC not 0: cause 15 always
unfoldable pub cause : Layout → Monitor → Step → ℕ
cause l m s = pick (rule15 m s) 15 (lowest (broken l m s))
