-- A visit that is cut: between the reply's last byte and the counter's first the board has answered and not counted.
-- Definitions and claims; the proofs are in proofs/Cut.antt. Assumes nothing.
use Rattle.std.specs.Prelude.{◌≡◌, ◌⊎◌, true, false, ◌||◌, List, ℕ, suc, ◌≤◌, ◌<◌, ltb, Ok}
use Rattle.notions.specs.Bytes.{Bytes}
use Rattle.notions.specs.Choice.{pick}
use Rattle.layout.specs.declared.Layout.{Layout}
use Rattle.layout.specs.Layouts.{layout_of}
use Rattle.layout.specs.Regions.{within}
use Rattle.steps.specs.declared.Step.{Step}
use Rattle.rules.specs.Rules.{writable}
use Rattle.monitor.specs.Runs.{State, before}
use Rattle.routine.specs.Strings.{greater}
use Rattle.board.specs.Memory.{counter, replied}
use Rattle.board.specs.Attestation.{due}
use Rattle.board.specs.Promises.{Attests}
use Rattle.claims_monitor.specs.Outside.{kr_or_xs}
use Rattle.claims_monitor.specs.Traces.{cause_at, resets_at}
use Rattle.claims_attestation.specs.Demand2.{SameRequest}
use Rattle.claims_histories.specs.Visit.{Free, VisitBegins, cut_after, made, Makes, played}
use Rattle.refusal.specs.Answers.{Answer}

-- ---- answered and not counted

-- in y stands the reply to the request that stands in memory; the request, the counter, the key and AR are as they were
pub record Uncounted (l : Layout) (memory y : List ℕ) : Type 0 where
  pub request : SameRequest l y memory
  pub reply : replied l y ≡ due l memory

-- after 32 of the 64 stores of an accepted call it is so
abbrev pub AnsweredUncounted : Type 0
AnsweredUncounted =
    (memory layout memory' : List ℕ) → Bytes layout → Attests memory layout memory' (Ok tt)
    → Uncounted (layout_of layout) memory (cut_after (layout_of layout) memory 32)

-- and so in every visit that makes them, before a step with 32 of them behind it
abbrev pub VisitUncounted : Type 0
VisitUncounted =
    (layout memory' : List ℕ) (t : ℕ → Step) (x : State) (n i : ℕ) → Bytes layout → Free (layout_of layout) x
    → Attests x.memory layout memory' (Ok tt) → Makes (layout_of layout) x.memory t n → i ≤ n
    → made (layout_of layout) t i ≡ 32
    → Uncounted (layout_of layout) x.memory (before (layout_of layout) t x i).memory

-- the next call of `attest` then accepts the same request, and answers it a second time
abbrev pub AnsweredAgain : Type 0
AnsweredAgain =
    (memory layout memory' y y' : List ℕ) (r : Answer) → Bytes layout → Attests memory layout memory' (Ok tt)
    → Uncounted (layout_of layout) memory y → Attests y layout y' r
    → (r ≡ Ok tt) × (replied (layout_of layout) y' ≡ due (layout_of layout) memory)

-- ---- cut anywhere

-- after any number of the 64 stores the counter is as it was or has risen; the half of a greater challenge may stand in
-- it, so it may still be below the challenge, or above it
abbrev pub CutRises : Type 0
CutRises =
    (memory layout memory' : List ℕ) (k : ℕ) → Bytes layout → Attests memory layout memory' (Ok tt) → k ≤ 64
    → (let l = layout_of layout in
    let y = cut_after l memory k in
    (counter l y ≡ counter l memory) ⊎ (greater (counter l y) (counter l memory) ≡ true))

-- and after 32 or more the reply is there
abbrev pub CutReplied : Type 0
CutReplied =
    (memory layout memory' : List ℕ) (k : ℕ) → Bytes layout → Attests memory layout memory' (Ok tt) → 32 ≤ k → k ≤ 64
    → replied (layout_of layout) (cut_after (layout_of layout) memory k) ≡ due (layout_of layout) memory

-- ---- what cuts a visit

-- an interrupt at the next step, while PC is in CR, resets with cause 4; an active DMA resets too, without an interrupt
-- and where no lower rule applies with cause 9
pub record Cuts (l : Layout) (t : ℕ → Step) (x : State) (n : ℕ) : Type 0 where
  pub resets : ((t n).interrupt || (t n).dmaactive) ≡ true → resets_at l t x n ≡ true
  pub interrupt : (t n).interrupt ≡ true → cause_at l t x n ≡ 4
  pub dma : (t n).interrupt ≡ false → (t n).dmaactive ≡ true → kr_or_xs l (t n).dmaaddress ≡ false
      → ((t n).cpuwrites ≡ true → writable l (t n).cpuaddress ≡ true) → cause_at l t x n ≡ 9

abbrev pub CutResets : Type 0
CutResets =
    (l : Layout) (t : ℕ → Step) (x : State) (n : ℕ) → Free l x → VisitBegins l t n → 0 < n
    → within l.cr (t n).pc ≡ true → Cuts l t x n

-- a reset behind the 32nd store, whatever its cause, leaves the board so
abbrev pub CutUncounted : Type 0
CutUncounted =
    (layout memory' : List ℕ) (t : ℕ → Step) (x : State) (n : ℕ) → Bytes layout → Free (layout_of layout) x
    → Attests x.memory layout memory' (Ok tt) → (let l = layout_of layout in
    Makes l x.memory t n → made l t n ≡ 32 → resets_at l t x n ≡ true
    → Uncounted l x.memory (before l t x (suc n)).memory)

-- the visit `played` up to step k, and then s
abbrev pub played_to : Layout → List ℕ → ℕ → Step → ℕ → Step
played_to l memory k s i = pick (ltb i k) (played l memory i) s

-- so for every accepted call there is a visit with k of the stores made, and with any step next
abbrev pub CanBeCut : Type 0
CanBeCut =
    (memory layout memory' : List ℕ) (k : ℕ) (s : Step) → Bytes layout → Attests memory layout memory' (Ok tt)
    → 0 < k → k ≤ 64 → (let l = layout_of layout in
    let t = played_to l memory k s in
    Makes l memory t k × (made l t k ≡ k) × (t k ≡ s))
