-- What the rules give for every trace, from any state, by the step's number. Assumes nothing.
use Rattle.std.specs.Prelude.{◌≡◌, ◌≢◌, ◌↔◌, ◌⊎◌, Bool, true, false, ◌&&◌, ◌||◌, List, [], ◌∷◌, ◌++◌, ℕ, zero, suc, ◌+◌, ◌*◌, ◌≤◌, ◌<◌, eqb, length, get_or, take, drop, Ok, Result}
use Rattle.notions.specs.Choice.{pick}
use Rattle.layout.specs.declared.Layout.{Layout}
use Rattle.layout.specs.Regions.{within, outside}
use Rattle.layout.specs.Layouts.{layout_of}
use Rattle.layout.specs.Good.{Good}
use Rattle.steps.specs.declared.Step.{Step}
use Rattle.rules.specs.declared.Monitor.{Monitor}
use Rattle.steps.specs.Steps.{bit}
use Rattle.rules.specs.Rules.{writable, cause, start}
use Rattle.monitor.specs.Decisions.{resets}
use Rattle.monitor.specs.declared.Totals.{Totals}
use Rattle.effects.specs.Effects.{bytes}
use Rattle.monitor.specs.Runs.{State, before, said, answers, resetting}
use Rattle.traces.specs.Traces.{step_size, answer_size, count, step_bytes, steps}
use Rattle.monitor.specs.Promises.{Steps, Traces}
use Rattle.refusal.specs.declared.Refusal.{Refusal}

-- ---- step n of a run of trace t from state x

module _ (l : Layout) (t : ℕ → Step) (x : State) where
  -- what the monitor remembers before step n
  abbrev pub remembers : ℕ → Monitor
  remembers n = (before l t x n).monitor

  -- why step n resets, 0 if it does not
  abbrev pub cause_at : ℕ → ℕ
  cause_at n = cause l (remembers n) (t n)

  abbrev pub resets_at : ℕ → Bool
  resets_at n = resets l (remembers n) (t n)

  -- the byte at address a before step n
  abbrev pub byte_at : ℕ → ℕ → ℕ
  byte_at n a = get_or (before l t x n).memory a 0

-- ---- memory

-- the memory keeps its length
abbrev pub LengthKept : Type 0
LengthKept = (l : Layout) (t : ℕ → Step) (x : State) (n : ℕ) → length (before l t x n).memory ≡ length x.memory

-- the step's DMA store is to address a, and it has an effect there: a is outside CR and KR
abbrev pub dma_stores_at : Layout → Step → ℕ → Bool
dma_stores_at l s a =
    s.dmaactive && s.dmawrites && eqb s.dmaaddress a && outside l.cr a && outside l.kr a

-- and so the CPU's
abbrev pub cpu_stores_at : Layout → Step → ℕ → Bool
cpu_stores_at l s a = s.cpuwrites && eqb s.cpuaddress a && outside l.cr a && outside l.kr a

-- what step n leaves at each address of the memory: if it resets, the byte from before; else the DMA's, if the DMA
-- stores there, else the CPU's, if the CPU does, else the byte from before
abbrev pub StoredByte : Type 0
StoredByte =
    (l : Layout) (t : ℕ → Step) (x : State) (n a : ℕ) → a < length x.memory
    → byte_at l t x (suc n) a
    ≡ pick (resets_at l t x n) (byte_at l t x n a)
    (pick (dma_stores_at l (t n) a) (t n).dmadata (pick (cpu_stores_at l (t n) a) (t n).cpudata (byte_at l t x n a)))

-- the address is in a ROM region
abbrev pub cr_or_kr : Layout → ℕ → Bool
cr_or_kr l a = within l.cr a || within l.kr a

-- no byte of CR or KR ever changes
abbrev pub Rom : Type 0
Rom = (l : Layout) (t : ℕ → Step) (x : State) (n a : ℕ) → cr_or_kr l a ≡ true → byte_at l t x n a ≡ get_or x.memory a 0

-- the address is in a region that only the attestation code writes
abbrev pub ctr_or_xs : Layout → ℕ → Bool
ctr_or_xs l a = within l.ctr a || within l.xs a

-- step n is the attestation code's store to address a: it does not reset, its PC is in CR, and the CPU's byte then
-- stands there
pub record CodeStores (l : Layout) (t : ℕ → Step) (x : State) (n a : ℕ) : Type 0 where
  pub passes : resets_at l t x n ≡ false
  pub inside : within l.cr (t n).pc ≡ true
  pub writes : (t n).cpuwrites ≡ true
  pub address : (t n).cpuaddress ≡ a
  pub byte : byte_at l t x (suc n) a ≡ (t n).cpudata

-- a byte of CTR or XS stays at every step but the attestation code's stores to it
abbrev pub Guarded : Type 0
Guarded =
    (l : Layout) (t : ℕ → Step) (x : State) (n a : ℕ) → ctr_or_xs l a ≡ true
    → (byte_at l t x (suc n) a ≡ byte_at l t x n a) ⊎ CodeStores l t x n a

-- a step in the attestation code that breaks no rule there: no interrupt, no DMA, and it writes only XS, MR and CTR
pub record Inside (l : Layout) (s : Step) : Type 0 where
  pub pc : within l.cr s.pc ≡ true
  pub calm : s.interrupt ≡ false
  pub idle : s.dmaactive ≡ false
  pub writes : s.cpuwrites ≡ true → writable l s.cpuaddress ≡ true

-- so the attestation code runs alone, with a monitor that is not held
pub record Alone (l : Layout) (t : ℕ → Step) (x : State) (n : ℕ) : Type 0 where
  pub unheld : (remembers l t x n).held ≡ false
  pub inside : Inside l (t n)

-- where CR does not hold 0, it does in each step with PC in CR that does not reset
abbrev pub RunsAlone : Type 0
RunsAlone =
    (l : Layout) (t : ℕ → Step) (x : State) (n : ℕ) → within l.cr 0 ≡ false
    → resets_at l t x n ≡ false → within l.cr (t n).pc ≡ true → Alone l t x n

-- so there each store to CTR or XS is made alone
abbrev pub GuardedAlone : Type 0
GuardedAlone =
    (l : Layout) (t : ℕ → Step) (x : State) (n a : ℕ) → within l.cr 0 ≡ false → ctr_or_xs l a ≡ true
    → (byte_at l t x (suc n) a ≡ byte_at l t x n a) ⊎ (CodeStores l t x n a × Alone l t x n)

-- with a layout that passes the check, no byte of AR changes while PC is in CR, whether these steps reset or not
abbrev pub AttestedStays : Type 0
AttestedStays =
    (layout : List ℕ) (t : ℕ → Step) (x : State) (n k a : ℕ) → Good layout
    → (let l = layout_of layout in
    ((i : ℕ) → n ≤ i → i < n + k → within l.cr (t i).pc ≡ true) → within l.ar a ≡ true
    → byte_at l t x (n + k) a ≡ byte_at l t x n a)

-- ---- answers

-- step n has a cause, changes no byte and hands out nothing
pub record Nothing (l : Layout) (t : ℕ → Step) (x : State) (n : ℕ) : Type 0 where
  pub because : cause_at l t x n ≢ 0
  pub stored : (before l t x (suc n)).memory ≡ (before l t x n).memory
  pub handed : bytes (said l t x n) ≡ cause_at l t x n ∷ 0 ∷ 0 ∷ 0 ∷ []

-- so it is with every step that resets
abbrev pub ResetsNothing : Type 0
ResetsNothing = (l : Layout) (t : ℕ → Step) (x : State) (n : ℕ) → resets_at l t x n ≡ true → Nothing l t x n

-- step n hands out what the CPU reads: it does not reset, the CPU reads, and PC is outside CR
pub record CpuHands (l : Layout) (t : ℕ → Step) (x : State) (n : ℕ) : Type 0 where
  pub passes : resets_at l t x n ≡ false
  pub reads : (t n).cpureads ≡ true
  pub apart : outside l.cr (t n).pc ≡ true

-- step n hands out what the DMA reads: it does not reset, and the DMA is active and does not write
pub record DmaHands (l : Layout) (t : ℕ → Step) (x : State) (n : ℕ) : Type 0 where
  pub passes : resets_at l t x n ≡ false
  pub active : (t n).dmaactive ≡ true
  pub reads : (t n).dmawrites ≡ false

-- bit 0 tells the one and bit 1 the other: each is set exactly then
abbrev pub CpuExposed : Type 0
CpuExposed =
    (l : Layout) (t : ℕ → Step) (x : State) (n : ℕ) → (bit 0 (said l t x n).exposed ≡ true) ↔ CpuHands l t x n

abbrev pub DmaExposed : Type 0
DmaExposed =
    (l : Layout) (t : ℕ → Step) (x : State) (n : ℕ) → (bit 1 (said l t x n).exposed ≡ true) ↔ DmaHands l t x n

-- no other bit is ever set
abbrev pub TwoBits : Type 0
TwoBits = (l : Layout) (t : ℕ → Step) (x : State) (n : ℕ) → (said l t x n).exposed < 4

-- step n shows v, the byte at address a before it: the address is outside KR and XS
pub record Shows (l : Layout) (t : ℕ → Step) (x : State) (n a v : ℕ) : Type 0 where
  pub key : outside l.kr a ≡ true
  pub scratch : outside l.xs a ≡ true
  pub byte : v ≡ byte_at l t x n a

-- so it is with the CPU's byte where bit 0 is set, and with the DMA's where bit 1 is
abbrev pub CpuShown : Type 0
CpuShown =
    (l : Layout) (t : ℕ → Step) (x : State) (n : ℕ) → bit 0 (said l t x n).exposed ≡ true
    → Shows l t x n (t n).cpuaddress (said l t x n).cpubyte

abbrev pub DmaShown : Type 0
DmaShown =
    (l : Layout) (t : ℕ → Step) (x : State) (n : ℕ) → bit 1 (said l t x n).exposed ≡ true
    → Shows l t x n (t n).dmaaddress (said l t x n).dmabyte

-- a byte that is not exposed is 0
abbrev pub NotExposed : Type 0
NotExposed =
    (l : Layout) (t : ℕ → Step) (x : State) (n : ℕ)
    → (bit 0 (said l t x n).exposed ≡ false → (said l t x n).cpubyte ≡ 0)
    × (bit 1 (said l t x n).exposed ≡ false → (said l t x n).dmabyte ≡ 0)

-- ---- hold

-- after a reset each step has cause 15 until one with PC 0
abbrev pub Hold : Type 0
Hold =
    (l : Layout) (t : ℕ → Step) (x : State) (n k : ℕ) → resets_at l t x n ≡ true → n < k
    → ((i : ℕ) → n < i → i ≤ k → (t i).pc ≢ 0) → cause_at l t x k ≡ 15

-- a held monitor lets a step with PC 0 pass that accesses nothing, interrupt or not
abbrev pub Release : Type 0
Release =
    (l : Layout) (t : ℕ → Step) (x : State) (n : ℕ) → (remembers l t x n).held ≡ true → (t n).pc ≡ 0
    → (t n).cpureads ≡ false → (t n).cpuwrites ≡ false → (t n).dmaactive ≡ false → cause_at l t x n ≡ 0

-- ---- a trace in parts

-- judging n + k steps of t is judging n of u, and then k of v from what stands after these
pub record InParts (l : Layout) (t u v : ℕ → Step) (x : State) (n k : ℕ) : Type 0 where
  pub left : before l t x (n + k) ≡ before l v (before l u x n) k
  pub answered : answers l t x (n + k) ≡ answers l u x n ++ answers l v (before l u x n) k
  pub counted : resetting l t x (n + k) ≡ resetting l u x n + resetting l v (before l u x n) k

-- every trace can be judged in two parts, cut anywhere
abbrev pub Parts : Type 0
Parts = (l : Layout) (t : ℕ → Step) (x : State) (n k : ℕ) → InParts l t t (λ i. t (n + i)) x n k

-- the steps of b ++ c are the n of b and then those of c
pub record Joined (b c : List ℕ) (n : ℕ) : Type 0 where
  pub first : (i : ℕ) → i < n → steps (b ++ c) i ≡ steps b i
  pub second : (i : ℕ) → steps (b ++ c) (n + i) ≡ steps c i

-- so it is where b is n whole steps
abbrev pub Joins : Type 0
Joins = (b c : List ℕ) (n : ℕ) → length b ≡ step_size * n → Joined b c n

-- so judging b ++ c is judging b, and then c from what stands after it
abbrev pub PartsOfBytes : Type 0
PartsOfBytes =
    (l : Layout) (b c : List ℕ) (x : State) (n k : ℕ) → length b ≡ step_size * n
    → InParts l (steps (b ++ c)) (steps b) (steps c) x n k

-- ---- a trace by one_step calls

-- one_step calls for the steps of a trace, each from the monitor and the memory that the one before handed back
pub record Calls (memory layout trace : List ℕ) (monitors : ℕ → Monitor) (memories rooms rooms' : ℕ → List ℕ)
    (r : ℕ → Result Monitor Refusal)
    : Type 0 where
  pub starts : monitors 0 ≡ start
  pub lends : memories 0 ≡ memory
  pub fits : (i : ℕ) → i < count trace → answer_size ≤ length (rooms i)
  pub calls : (i : ℕ) → i < count trace
      → Steps (memories i) layout (step_bytes trace i) (monitors i) (rooms i) (memories (suc i)) (rooms' i) (r i)
  pub hands : (i : ℕ) → i < count trace → (m : Monitor) → r i ≡ Ok m → monitors (suc i) ≡ m

-- there are such calls for every memory, layout and trace, and for all rooms of at least four bytes
abbrev pub CanBeCalled : Type 0
CanBeCalled =
    (memory layout trace : List ℕ) (rooms : ℕ → List ℕ) → ((i : ℕ) → i < count trace → answer_size ≤ length (rooms i))
    → (monitors : ℕ → Monitor) × (memories : ℕ → List ℕ) × (rooms' : ℕ → List ℕ) × (r : ℕ → Result Monitor Refusal)
    × Calls memory layout trace monitors memories rooms rooms' r

-- how many of the first n calls handed back a monitor that is held
unfoldable pub held_after : (ℕ → Monitor) → ℕ → ℕ
held_after monitors zero = 0
held_after monitors (suc n) = held_after monitors n + pick (monitors (suc n)).held 1 0

-- none of them is refused, and they leave the memory and the answers, and tell the resets, that the one call leaves and
-- tells
pub record Leaves (trace : List ℕ) (monitors : ℕ → Monitor) (memories rooms' : ℕ → List ℕ) (r : ℕ → Result Monitor Refusal)
    (memory' room' : List ℕ) (total : Totals)
    : Type 0 where
  pub judged : (i : ℕ) → i < count trace → r i ≡ Ok (monitors (suc i))
  pub left : memories (count trace) ≡ memory'
  pub answered : (i : ℕ) → i < count trace → take answer_size (rooms' i) ≡ take answer_size (drop (answer_size * i) room')
  pub counted : held_after monitors (count trace) ≡ total.resets

-- where the one call for the trace is not refused, one_step calls with rooms of at least four bytes do the same
abbrev pub ByCalls : Type 0
ByCalls =
    (memory layout trace room memory' room' : List ℕ) (total : Totals)
    (monitors : ℕ → Monitor) (memories rooms rooms' : ℕ → List ℕ) (r : ℕ → Result Monitor Refusal)
    → Traces memory layout trace room memory' room' (Ok total)
    → Calls memory layout trace monitors memories rooms rooms' r
    → Leaves trace monitors memories rooms' r memory' room' total
