-- The rules page's table of marked steps: one table, and one claim over it. Assumes nothing.
use Rattle.std.specs.Prelude.{◌≡◌, Bool, true, false, List, [], ◌∷◌, map, ℕ, Ok}
use Rattle.layout.specs.declared.Layout.{Layout}
use Rattle.layout.specs.Layouts.{layout_of, layout_check}
use Rattle.steps.specs.declared.Step.{Step}
use Rattle.rules.specs.declared.Monitor.{Monitor}
use Rattle.rules.specs.Rules.{cause}

-- ---- the page's layout

abbrev pub page : Layout
page = record {
  cr = record { lo = 0xA000; hi = 0xA0FF };
  kr = record { lo = 0x6A00; hi = 0x6A3F };
  xs = record { lo = 0x0400; hi = 0x07FF };
  mr = record { lo = 0x0230; hi = 0x028F };
  ctr = record { lo = 0x0300; hi = 0x031F };
  ar = record { lo = 0xE000; hi = 0xFFFF };
}

-- its 24 bytes, as in the page's case
abbrev pub page_bytes : List ℕ
page_bytes =
    0x00 ∷ 0xa0 ∷ 0xff ∷ 0xa0 ∷ 0x00 ∷ 0x6a ∷ 0x3f ∷ 0x6a ∷ 0x00 ∷ 0x04 ∷ 0xff ∷ 0x07
    ∷ 0x30 ∷ 0x02 ∷ 0x8f ∷ 0x02 ∷ 0x00 ∷ 0x03 ∷ 0x1f ∷ 0x03 ∷ 0x00 ∷ 0xe0 ∷ 0xff ∷ 0xff ∷ []

-- the bytes are refused nothing, and they are this layout's
pub record PageLayout : Type 0 where
  pub passes : layout_check page_bytes ≡ Ok tt
  pub decoded : layout_of page_bytes ≡ page

-- ---- steps, in the table's words

-- a step by its PC, its flags in the page's order (CPU read, CPU write, interrupt, DMA active, DMA writes), CPU address
-- and DMA address; below, the address of the one that accesses nothing is 0
abbrev step : ℕ → Bool → Bool → Bool → Bool → Bool → ℕ → ℕ → Step
step pc r w i d e cpu dma = record {
  pc = pc;
  cpuaddress = cpu;
  dmaaddress = dma;
  cpureads = r;
  cpuwrites = w;
  interrupt = i;
  dmaactive = d;
  dmawrites = e;
  cpudata = 0;
  dmadata = 0;
}

abbrev pub at : ℕ → Step
at pc = step pc false false false false false 0 0

abbrev pub reads : ℕ → ℕ → Step
reads pc a = step pc true false false false false a 0

abbrev pub writes : ℕ → ℕ → Step
writes pc a = step pc false true false false false a 0

abbrev pub interrupted : ℕ → Step
interrupted pc = step pc false false true false false 0 0

abbrev pub dma_reads : ℕ → ℕ → Step
dma_reads pc a = step pc false false false true false 0 a

abbrev pub dma_stores : ℕ → ℕ → Step
dma_stores pc a = step pc false false false true true 0 a

-- flag bit 4 without bit 3
abbrev pub bit4_alone : ℕ → ℕ → Step
bit4_alone pc a = step pc false false false false true 0 a

-- ---- the table

-- its first column: the monitor is held, or the last PC
pub data Last : Type 0 where
  held : Last
  last : ℕ → Last

-- what the monitor remembers there; where it is held, p is whichever PC it remembers
abbrev pub monitor_of : Last → ℕ → Monitor
monitor_of held p = record { held = true; lastpc = p }
monitor_of (last pc) p = record { held = false; lastpc = pc }

pub record Row : Type 0 where
  pub before : Last
  pub step : Step
  pub cause : ℕ

abbrev pub row : Last → Step → ℕ → Row
row b s n = record { before = b; step = s; cause = n }

abbrev pub marked : List Row
marked =
    row held (at 0) 0
    ∷ row held (at 2) 15
    ∷ row held (reads 0 0x6A3F) 1
    ∷ row (last 0xC000) (reads 0xC002 0x6A3F) 1
    ∷ row (last 0xC000) (reads 0xC002 0x6A40) 0
    ∷ row (last 0xC000) (at 0xA000) 0
    ∷ row (last 0xC000) (interrupted 0xA002) 3
    ∷ row (last 0xA0FF) (at 0xC000) 0
    ∷ row (last 0xA0FE) (at 0xC000) 2
    ∷ row (last 0xA000) (writes 0xA010 0x028F) 0
    ∷ row (last 0xA000) (writes 0xA010 0x0290) 6
    ∷ row (last 0xC000) (writes 0xC002 0x0400) 5
    ∷ row (last 0xC000) (dma_reads 0xC002 0x0310) 0
    ∷ row (last 0xC000) (dma_stores 0xC002 0x0310) 10
    ∷ []

-- row by row, and for every remembered PC where the monitor is held, the cause is the table's
abbrev pub Marked : Type 0
Marked = (p : ℕ) → map (λ r. cause page (monitor_of r.before p) r.step) marked ≡ map (λ r. r.cause) marked
