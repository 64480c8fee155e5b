-- Steps with PC outside CR: exactly which of them reset; fetches do not, and stores to ROM make no difference.
-- Assumes nothing.
use Rattle.std.specs.Prelude.{◌≡◌, ◌↔◌, Bool, true, false, ◌||◌, List, [], ◌∷◌, map, ℕ, eqb}
use Rattle.layout.specs.declared.Layout.{Layout}
use Rattle.layout.specs.Regions.{within, outside}
use Rattle.layout.specs.Layouts.{layout_of}
use Rattle.layout.specs.Good.{Good}
use Rattle.steps.specs.declared.Step.{Step}
use Rattle.rules.specs.declared.Monitor.{Monitor}
use Rattle.rules.specs.Rules.{cause}
use Rattle.monitor.specs.Decisions.{decided_memory}
use Rattle.claims_monitor.specs.Marked.{page, at, reads, writes, dma_reads, dma_stores, bit4_alone, held, last}
use Rattle.claims_monitor.specs.Marked.{monitor_of, Row, row}
use Rattle.claims_monitor.specs.Traces.{cr_or_kr}

-- ---- which steps reset there

-- the monitor lets PC be outside CR: it is not held, and CR is not left where it may not be, as the last PC was outside
-- CR too, or CR's highest address
pub record LetsOut (l : Layout) (m : Monitor) : Type 0 where
  pub unheld : m.held ≡ false
  pub last : (outside l.cr m.lastpc || eqb m.lastpc l.cr.hi) ≡ true

-- the CPU does not read in KR, read or write in XS, or write in CTR; no DMA is in KR or XS, and none writes in CTR
pub record Lawful (l : Layout) (s : Step) : Type 0 where
  pub key : s.cpureads ≡ true → outside l.kr s.cpuaddress ≡ true
  pub scratch : (s.cpureads || s.cpuwrites) ≡ true → outside l.xs s.cpuaddress ≡ true
  pub counter : s.cpuwrites ≡ true → outside l.ctr s.cpuaddress ≡ true
  pub dma_key : s.dmaactive ≡ true → outside l.kr s.dmaaddress ≡ true
  pub dma_scratch : s.dmaactive ≡ true → outside l.xs s.dmaaddress ≡ true
  pub dma_counter : s.dmaactive ≡ true → s.dmawrites ≡ true → outside l.ctr s.dmaaddress ≡ true

-- then a step with PC outside CR passes exactly if it is lawful, with any layout
abbrev pub Outside : Type 0
Outside =
    (l : Layout) (m : Monitor) (s : Step) → LetsOut l m → outside l.cr s.pc ≡ true
    → (cause l m s ≡ 0) ↔ Lawful l s

-- and so it is with a held monitor and PC 0, where CR does not hold 0
abbrev pub ReleaseExact : Type 0
ReleaseExact =
    (l : Layout) (m : Monitor) (s : Step) → m.held ≡ true → s.pc ≡ 0 → within l.cr 0 ≡ false
    → (cause l m s ≡ 0) ↔ Lawful l s

-- ---- fetches

-- the CPU neither reads nor writes, and the DMA is idle
pub record AccessesNothing (s : Step) : Type 0 where
  pub reads : s.cpureads ≡ false
  pub writes : s.cpuwrites ≡ false
  pub idle : s.dmaactive ≡ false

-- the address is in a region in which code outside CR may not read
abbrev pub kr_or_xs : Layout → ℕ → Bool
kr_or_xs l a = within l.kr a || within l.xs a

-- no rule on fetches: with a layout that passes the check, a step passes whose PC is in KR or XS and that accesses
-- nothing, if the monitor lets PC be outside CR
abbrev pub FetchPasses : Type 0
FetchPasses =
    (layout : List ℕ) (m : Monitor) (s : Step) → Good layout
    → (let l = layout_of layout in LetsOut l m → kr_or_xs l s.pc ≡ true → AccessesNothing s → cause l m s ≡ 0)

-- ---- stores to ROM

-- the step without its CPU write
abbrev pub without_cpu_write : Step → Step
without_cpu_write s = record {
  pc = s.pc;
  cpuaddress = s.cpuaddress;
  dmaaddress = s.dmaaddress;
  cpureads = s.cpureads;
  cpuwrites = false;
  interrupt = s.interrupt;
  dmaactive = s.dmaactive;
  dmawrites = s.dmawrites;
  cpudata = s.cpudata;
  dmadata = s.dmadata;
}

-- the step without its DMA access
abbrev pub without_dma : Step → Step
without_dma s = record {
  pc = s.pc;
  cpuaddress = s.cpuaddress;
  dmaaddress = s.dmaaddress;
  cpureads = s.cpureads;
  cpuwrites = s.cpuwrites;
  interrupt = s.interrupt;
  dmaactive = false;
  dmawrites = s.dmawrites;
  cpudata = s.cpudata;
  dmadata = s.dmadata;
}

-- two steps have the same cause, and leave the same memory of every one
pub record SameEffect (l : Layout) (m : Monitor) (s t : Step) : Type 0 where
  pub causes : cause l m s ≡ cause l m t
  pub memories : (memory : List ℕ) → decided_memory l m s memory ≡ decided_memory l m t memory

-- a store to ROM is no reset and has no effect: with a layout that passes the check and PC outside CR, it makes no
-- difference to cause and memory that the CPU writes in CR or KR, whatever else the step does and the monitor remembers
abbrev pub RomStoreIgnored : Type 0
RomStoreIgnored =
    (layout : List ℕ) (m : Monitor) (s : Step) → Good layout
    → (let l = layout_of layout in
    outside l.cr s.pc ≡ true → cr_or_kr l s.cpuaddress ≡ true → SameEffect l m s (without_cpu_write s))

-- nor that the DMA is active in CR, whether it stores there or reads; from KR rule 7 bars it
abbrev pub RomDmaIgnored : Type 0
RomDmaIgnored =
    (layout : List ℕ) (m : Monitor) (s : Step) → Good layout
    → (let l = layout_of layout in
    outside l.cr s.pc ≡ true → within l.cr s.dmaaddress ≡ true → SameEffect l m s (without_dma s))

-- ---- a step for each

-- with the page's layout: reads that pass, fetches in KR and XS, stores to CR and KR, flag bit 4 alone in CTR and KR, a
-- read behind CR's highest address; then a step for each access that resets; then two of a held monitor
abbrev pub outsiders : List Row
outsiders =
    row (last 0xC000) (reads 0xC002 0x0300) 0
    ∷ row (last 0xC000) (reads 0xC002 0xA000) 0
    ∷ row (last 0xC000) (dma_reads 0xC002 0x0300) 0
    ∷ row (last 0xC000) (at 0x6A00) 0
    ∷ row (last 0xC000) (at 0x0400) 0
    ∷ row (last 0xC000) (writes 0xC002 0xA000) 0
    ∷ row (last 0xC000) (writes 0xC002 0x6A00) 0
    ∷ row (last 0xC000) (dma_stores 0xC002 0xA000) 0
    ∷ row (last 0xC000) (bit4_alone 0xC002 0x0300) 0
    ∷ row (last 0xC000) (bit4_alone 0xC002 0x6A00) 0
    ∷ row (last 0xA0FF) (reads 0xC002 0x0300) 0
    ∷ row (last 0xC000) (reads 0xC002 0x6A00) 1
    ∷ row (last 0xC000) (reads 0xC002 0x0400) 5
    ∷ row (last 0xC000) (writes 0xC002 0x0400) 5
    ∷ row (last 0xC000) (writes 0xC002 0x0300) 10
    ∷ row (last 0xC000) (dma_reads 0xC002 0x6A00) 7
    ∷ row (last 0xC000) (dma_reads 0xC002 0x0400) 8
    ∷ row (last 0xC000) (dma_stores 0xC002 0x0300) 10
    ∷ row held (reads 0 0x0300) 0
    ∷ row held (dma_reads 0 0x0400) 8
    ∷ []

abbrev pub OutsideWitness : Type 0
OutsideWitness =
    (p : ℕ) → map (λ r. cause page (monitor_of r.before p) r.step) outsiders ≡ map (λ r. r.cause) outsiders
