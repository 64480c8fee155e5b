-- For each cause a step that has it: one table, and one claim over it. Assumes nothing.
use Rattle.std.specs.Prelude.{◌≡◌, List, [], ◌∷◌, map, ℕ}
use Rattle.rules.specs.Rules.{cause}
use Rattle.claims_monitor.specs.Marked.{page, at, reads, writes, interrupted, dma_reads, held, last, monitor_of}
use Rattle.claims_monitor.specs.Marked.{Row, row}

-- with the page's layout
abbrev pub caused : List Row
caused =
    row (last 0xC000) (at 0xC002) 0
    ∷ row (last 0xC000) (reads 0xC002 0x6A00) 1
    ∷ row (last 0xA000) (at 0xC000) 2
    ∷ row (last 0xC000) (at 0xA001) 3
    ∷ row (last 0xC000) (interrupted 0xA000) 4
    ∷ row (last 0xC000) (reads 0xC002 0x07FF) 5
    ∷ row (last 0xA000) (writes 0xA001 0xE000) 6
    ∷ row (last 0xC000) (dma_reads 0xC002 0x6A3F) 7
    ∷ row (last 0xC000) (dma_reads 0xC002 0x0400) 8
    ∷ row (last 0xA000) (dma_reads 0xA001 0xE000) 9
    ∷ row (last 0xC000) (writes 0xC002 0x0300) 10
    ∷ row held (at 0xC000) 15
    ∷ []

abbrev pub EachCause : Type 0
EachCause = (p : ℕ) → map (λ r. cause page (monitor_of r.before p) r.step) caused ≡ map (λ r. r.cause) caused
