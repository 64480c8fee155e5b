-- The source's properties of a monitor, LTL specifications 3.2 to 3.11, 3.15 and 3.16 and Lemma 1 of source document
-- 004, of every run from any state. Each claim is the source's formula, except where the line above it says otherwise.
-- Assumes nothing.
use Rattle.std.specs.Prelude.{◌≡◌, true, false, List, [], ◌∷◌, ℕ, suc, ◌≤◌, ◌<◌, get_or}
use Rattle.layout.specs.declared.Region.{Region}
use Rattle.layout.specs.declared.Layout.{Layout}
use Rattle.layout.specs.Regions.{within}
use Rattle.layout.specs.Layouts.{layout_of}
use Rattle.layout.specs.Good.{Good}
use Rattle.steps.specs.declared.Step.{Step}
use Rattle.monitor.specs.Runs.{State, begin}
use Rattle.claims_monitor.specs.Marked.{page, at, writes, dma_reads}
use Rattle.claims_monitor.specs.Traces.{resets_at, byte_at}

-- ---- the source's logic

-- a layout, a trace, and what stands before its first step
pub record Run : Type 0 where
  pub layout : Layout
  pub trace : ℕ → Step
  pub from : State

-- what a run has at each step: a number, a region, or what holds there
abbrev pub Signal {ℓ} : Type ℓ → Type ℓ
Signal A = Run → ℕ → A

abbrev pub Formula : Type 1
Formula = Signal (Type 0)

infixr 10 ◌⇒◌
infixr 12 ◌or◌
infixr 14 ◌&◌
infix 16 ◌U◌
infixr 18 ~◌
infix 20 ◌∈◌ ◌is◌
-- it does not hold here
abbrev pub ~◌ : Formula → Formula
(~ φ) r n = φ r n → ⊥

-- both hold here
abbrev pub ◌&◌ : Formula → Formula → Formula
(φ & ψ) r n = φ r n × ψ r n

-- one of the two holds here: the second, where the first fails. It is not told which one, since no computation tells of
-- an endless trace whether PC 0 ever comes
abbrev pub ◌or◌ : Formula → Formula → Formula
(φ or ψ) r n = (φ r n → ⊥) → ψ r n

-- where the first holds, so does the second
abbrev pub ◌⇒◌ : Formula → Formula → Formula
(φ ⇒ ψ) r n = φ r n → ψ r n

-- at the next step
abbrev pub X {ℓ} : {A : Type ℓ} → Signal A → Signal A
X s r n = s r (suc n)

-- from here on
abbrev pub G : Formula → Formula
G φ r n = (k : ℕ) → n ≤ k → φ r k

-- the second holds here or later, and until then the first
abbrev pub ◌U◌ : Formula → Formula → Formula
(φ U ψ) r n = (k : ℕ) × (n ≤ k) × ψ r k × ((j : ℕ) → n ≤ j → j < k → φ r j)

-- the address is in the region
abbrev pub ◌∈◌ : Signal ℕ → Signal Region → Formula
(a ∈ g) r n = within (g r n) (a r n) ≡ true

abbrev pub ◌is◌ : Signal ℕ → Signal ℕ → Formula
(a is b) r n = a r n ≡ b r n

-- of every run
abbrev pub Every : Formula → Type 0
Every φ = (r : Run) → φ r 0

-- ---- the source's signals and regions, in its names

abbrev pub PC : Signal ℕ
PC r n = (r.trace n).pc

abbrev pub Ren : Formula
Ren r n = (r.trace n).cpureads ≡ true

abbrev pub Wen : Formula
Wen r n = (r.trace n).cpuwrites ≡ true

abbrev pub Daddr : Signal ℕ
Daddr r n = (r.trace n).cpuaddress

abbrev pub DMAen : Formula
DMAen r n = (r.trace n).dmaactive ≡ true

abbrev pub DMAaddr : Signal ℕ
DMAaddr r n = (r.trace n).dmaaddress

abbrev pub irq : Formula
irq r n = (r.trace n).interrupt ≡ true

abbrev pub reset : Formula
reset r n = resets_at r.layout r.trace r.from n ≡ true

abbrev pub CR : Signal Region
CR r n = r.layout.cr

abbrev pub CRmin : Signal ℕ
CRmin r n = r.layout.cr.lo

abbrev pub CRmax : Signal ℕ
CRmax r n = r.layout.cr.hi

abbrev pub KR : Signal Region
KR r n = r.layout.kr

abbrev pub XS : Signal Region
XS r n = r.layout.xs

abbrev pub MR : Signal Region
MR r n = r.layout.mr

abbrev pub CTR : Signal Region
CTR r n = r.layout.ctr

abbrev pub address : ℕ → Signal ℕ
address a r n = a

-- not the source's: the DMA writes
abbrev pub DMAwen : Formula
DMAwen r n = (r.trace n).dmawrites ≡ true

-- not the source's: CR does not hold 0, as in every layout that passes the check. Rules 4, 6 and 9 are not tried at a
-- held step with PC 0
abbrev pub zero_outside : Formula
zero_outside r n = within r.layout.cr 0 ≡ false

-- ---- key access control

-- code outside CR that reads in KR resets
abbrev pub ltl_3_2 : Type 0
ltl_3_2 = Every (G (~ (PC ∈ CR) & Ren & (Daddr ∈ KR) ⇒ reset))

-- ---- atomicity and controlled invocation

-- CR is left from its highest address only
abbrev pub ltl_3_3 : Type 0
ltl_3_3 = Every (G (~ reset & (PC ∈ CR) & ~ (X PC ∈ CR) ⇒ (PC is CRmax) or X reset))

-- CR is entered at its lowest address only
abbrev pub ltl_3_4 : Type 0
ltl_3_4 = Every (G (~ reset & ~ (PC ∈ CR) & (X PC ∈ CR) ⇒ (X PC is CRmin) or X reset))

-- no interrupt in CR; the premise `zero_outside` is not the source's
abbrev pub ltl_3_5 : Type 0
ltl_3_5 = Every (zero_outside ⇒ G (irq & (PC ∈ CR) ⇒ reset))

-- ---- key confidentiality

-- code outside CR that reads or writes in XS resets
abbrev pub ltl_3_6 : Type 0
ltl_3_6 = Every (G (~ (PC ∈ CR) & (Ren or Wen) & (Daddr ∈ XS) ⇒ reset))

-- code in CR writes in XS, MR and CTR only: the source relaxes its formula by CTR for verifier authentication, as the
-- page does; the premise `zero_outside` is not the source's
abbrev pub ltl_3_7 : Type 0
ltl_3_7 = Every (zero_outside ⇒ G ((PC ∈ CR) & Wen & ~ (Daddr ∈ XS) & ~ (Daddr ∈ MR) & ~ (Daddr ∈ CTR) ⇒ reset))

-- the formula as printed
abbrev pub source_3_7 : Formula
source_3_7 = G ((PC ∈ CR) & Wen & ~ (Daddr ∈ XS) & ~ (Daddr ∈ MR) ⇒ reset)

-- it is false of a run in which CR is entered and writes in CTR
abbrev pub counter_written : Run
counter_written = record {
  layout = page;
  trace = λ n. get_or (at 0 ∷ at 0xA000 ∷ writes 0xA010 0x0300 ∷ []) n (at 0);
  from = begin [];
}

abbrev pub departs_3_7 : Type 0
departs_3_7 = source_3_7 counter_written 0 → ⊥

-- ---- DMA

-- no DMA in KR
abbrev pub ltl_3_8 : Type 0
ltl_3_8 = Every (G (DMAen & (DMAaddr ∈ KR) ⇒ reset))

-- no DMA in XS
abbrev pub ltl_3_9 : Type 0
ltl_3_9 = Every (G (DMAen & (DMAaddr ∈ XS) ⇒ reset))

-- no DMA while PC is in CR; the premise `zero_outside` is not the source's
abbrev pub ltl_3_10 : Type 0
ltl_3_10 = Every (zero_outside ⇒ G ((PC ∈ CR) & DMAen ⇒ reset))

-- ---- temporal consistency

-- AR is M: before this step, each address of AR has M's byte for it
abbrev pub ARis : (ℕ → ℕ) → Formula
ARis M r n = (a : ℕ) → within r.layout.ar a ≡ true → byte_at r.layout r.trace r.from n a ≡ M a

-- not the source's: the layout is one that passes the check
abbrev pub checked : Formula
checked r n = (b : List ℕ) × Good b × (r.layout ≡ layout_of b)

-- AR does not change while CR runs from its lowest to its highest address without a reset; the premise `checked` is not
-- the source's
abbrev pub lemma_1 : Type 0
lemma_1 =
    (M : ℕ → ℕ)
    → Every (checked ⇒ G ((PC is CRmin) & ARis M & (~ reset U (PC is CRmax)) ⇒ ARis M U (PC is CRmax)))

-- ---- secure reset

-- a reset lasts until PC is 0, or for ever; `Hold` says more, as it begins behind the step that resets, whose own PC
-- may be 0
abbrev pub ltl_3_11 : Type 0
ltl_3_11 = Every (G (reset ⇒ (reset U (PC is address 0)) or G reset))

-- ---- verifier authentication

-- code outside CR that writes in CTR resets
abbrev pub ltl_3_15 : Type 0
ltl_3_15 = Every (G (~ (PC ∈ CR) & Wen & (Daddr ∈ CTR) ⇒ reset))

-- a DMA that writes in CTR resets: the page lets it read there
abbrev pub ltl_3_16 : Type 0
ltl_3_16 = Every (G (DMAen & DMAwen & (DMAaddr ∈ CTR) ⇒ reset))

-- the formula as printed
abbrev pub source_3_16 : Formula
source_3_16 = G (DMAen & (DMAaddr ∈ CTR) ⇒ reset)

-- it is false of a run in which the DMA reads in CTR
abbrev pub counter_read : Run
counter_read = record {
  layout = page;
  trace = λ n. get_or (at 0 ∷ dma_reads 0xC002 0x0310 ∷ []) n (at 0);
  from = begin [];
}

abbrev pub departs_3_16 : Type 0
departs_3_16 = source_3_16 counter_read 0 → ⊥
