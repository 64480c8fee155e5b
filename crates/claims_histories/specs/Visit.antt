-- A lawful visit to the attestation code passes the monitor, and attestation is such a visit.
-- Definitions and claims; the proofs are in proofs/Visit.antt. Assumes nothing.
use Rattle.std.specs.Prelude.{◌≡◌, ◌↔◌, Bool, true, false, ◌&&◌, List, ℕ, zero, suc, ◌+◌, ◌-◌, ◌≤◌, ◌<◌, eqb, ltb, length, get_or, set, Ok}
use Rattle.notions.specs.Bytes.{Bytes}
use Rattle.notions.specs.Choice.{pick}
use Rattle.layout.specs.declared.Layout.{Layout}
use Rattle.layout.specs.Layouts.{layout_of}
use Rattle.layout.specs.Good.{Good}
use Rattle.layout.specs.Regions.{within, outside}
use Rattle.steps.specs.declared.Step.{Step}
use Rattle.rules.specs.Rules.{cpu_writes_in}
use Rattle.monitor.specs.Runs.{State, before}
use Rattle.board.specs.Memory.{challenge, reply_at}
use Rattle.board.specs.Attestation.{due}
use Rattle.board.specs.Promises.{Attests}
use Rattle.claims_monitor.specs.Marked.{writes}
use Rattle.claims_monitor.specs.Demand3.{with_data}
use Rattle.claims_monitor.specs.Outside.{Lawful}
use Rattle.claims_monitor.specs.Traces.{Inside, cause_at, byte_at}

-- ---- a lawful visit

-- n steps in CR that break no rule there, from its lowest address on: a visit, or the beginning of one that is cut
pub record VisitBegins (l : Layout) (t : ℕ → Step) (n : ℕ) : Type 0 where
  pub enters : (t 0).pc ≡ l.cr.lo
  pub each : (i : ℕ) → i < n → Inside l (t i)

-- a whole one ends at CR's highest address
pub record Visit (l : Layout) (t : ℕ → Step) (n : ℕ) : Type 0 where
  pub some : 0 < n
  pub begins : VisitBegins l t n
  pub ends : (t (n - 1)).pc ≡ l.cr.hi

-- the monitor is not held and the last PC was outside CR
pub record Free (l : Layout) (x : State) : Type 0 where
  pub unheld : x.monitor.held ≡ false
  pub outside : within l.cr x.monitor.lastpc ≡ false

-- no step of a visit resets, cut or whole
abbrev pub VisitPasses : Type 0
VisitPasses =
    (l : Layout) (t : ℕ → Step) (x : State) (n : ℕ) → Free l x → VisitBegins l t n
    → (i : ℕ) → i < n → cause_at l t x i ≡ 0

-- a step outside CR that follows a whole one passes exactly if it is lawful by itself, as one that accesses nothing is
abbrev pub LeavesFreely : Type 0
LeavesFreely =
    (l : Layout) (t : ℕ → Step) (x : State) (n : ℕ) → Free l x → Visit l t n → within l.cr (t n).pc ≡ false
    → (cause_at l t x n ≡ 0) ↔ Lawful l (t n)

-- ---- attestation as a visit

-- the 64 stores of an accepted call, in order: the reply's bytes, then the challenge's into CTR
abbrev pub store_at : Layout → ℕ → ℕ
store_at l i = pick (ltb i 32) (reply_at l + i) (l.ctr.lo + (i - 32))

abbrev pub store_byte : Layout → List ℕ → ℕ → ℕ
store_byte l memory i = pick (ltb i 32) (get_or (due l memory) i 0) (get_or (challenge l memory) (i - 32) 0)

-- the memory with the first k of them made
unfoldable pub cut_after : Layout → List ℕ → ℕ → List ℕ
cut_after l memory zero = memory
cut_after l memory (suc k) = set (cut_after l memory k) (store_at l k) (store_byte l memory k)

-- with all of them made it is the memory that `attest` leaves
abbrev pub AllStores : Type 0
AllStores =
    (memory layout memory' : List ℕ) → Bytes layout → Attests memory layout memory' (Ok tt)
    → cut_after (layout_of layout) memory 64 ≡ memory'

-- the step is a CPU store outside XS
abbrev pub stores_out : Layout → Step → Bool
stores_out l s = s.cpuwrites && outside l.xs s.cpuaddress

-- how many of the first n steps are
unfoldable pub made : Layout → (ℕ → Step) → ℕ → ℕ
made l t zero = 0
made l t (suc n) = made l t n + pick (stores_out l (t n)) 1 0

-- step i stores the next byte of the 64
pub record StoresNext (l : Layout) (memory : List ℕ) (t : ℕ → Step) (i : ℕ) : Type 0 where
  pub more : made l t i < 64
  pub address : (t i).cpuaddress ≡ store_at l (made l t i)
  pub byte : (t i).cpudata ≡ store_byte l memory (made l t i)

-- n steps of a visit, cut or whole, that makes the 64 stores in their order: each of its stores outside XS is the next
-- of them. Reads, stores into XS and steps that access nothing may stand anywhere between
pub record Makes (l : Layout) (memory : List ℕ) (t : ℕ → Step) (n : ℕ) : Type 0 where
  pub begins : VisitBegins l t n
  pub next : (i : ℕ) → i < n → stores_out l (t i) ≡ true → StoresNext l memory t i

-- two memories of one length with the same byte at every address outside XS
pub record SameOutside (l : Layout) (x y : List ℕ) : Type 0 where
  pub long : length x ≡ length y
  pub same : (a : ℕ) → outside l.xs a ≡ true → get_or x a 0 ≡ get_or y a 0

-- before each of its steps, and after the last, the memory is the first one with the stores made so far, but for XS
abbrev pub CutVisit : Type 0
CutVisit =
    (layout memory' : List ℕ) (t : ℕ → Step) (x : State) (n i : ℕ) → Bytes layout → Free (layout_of layout) x
    → Attests x.memory layout memory' (Ok tt) → Makes (layout_of layout) x.memory t n → i ≤ n
    → (let l = layout_of layout in
    SameOutside l (before l t x i).memory (cut_after l x.memory (made l t i)))

-- a whole visit that makes all of them
pub record Plays (l : Layout) (memory : List ℕ) (t : ℕ → Step) (n : ℕ) : Type 0 where
  pub visit : Visit l t n
  pub makes : Makes l memory t n
  pub all : made l t n ≡ 64

-- it leaves the memory that `attest` leaves, but for XS
abbrev pub VisitAttests : Type 0
VisitAttests =
    (layout memory' : List ℕ) (t : ℕ → Step) (x : State) (n : ℕ) → Bytes layout → Free (layout_of layout) x
    → Attests x.memory layout memory' (Ok tt) → Plays (layout_of layout) x.memory t n
    → SameOutside (layout_of layout) (before (layout_of layout) t x n).memory memory'

-- and exactly that memory where none of its steps stores into XS
abbrev pub ExactVisit : Type 0
ExactVisit =
    (layout memory' : List ℕ) (t : ℕ → Step) (x : State) (n : ℕ) → Bytes layout → Free (layout_of layout) x
    → Attests x.memory layout memory' (Ok tt) → Plays (layout_of layout) x.memory t n
    → ((i : ℕ) → i < n → cpu_writes_in (layout_of layout).xs (t i) ≡ false)
    → (before (layout_of layout) t x n).memory ≡ memory'

-- a step that writes v to address a
abbrev pub writing : ℕ → ℕ → ℕ → Step
writing pc a v = with_data (writes pc a) v

-- there is such a visit for every accepted call: a store a step, all its steps but the last at CR's lowest address, the
-- last at its highest
abbrev pub played : Layout → List ℕ → ℕ → Step
played l memory i = writing (pick (eqb i 63) l.cr.hi l.cr.lo) (store_at l i) (store_byte l memory i)

abbrev pub CanBePlayed : Type 0
CanBePlayed =
    (memory layout memory' : List ℕ) → Bytes layout → Attests memory layout memory' (Ok tt)
    → Plays (layout_of layout) memory (played (layout_of layout) memory) 64

-- a trace with one more step s, which is step k
abbrev pub inserted : (ℕ → Step) → ℕ → Step → ℕ → Step
inserted t k s i = pick (ltb i k) (t i) (pick (eqb i k) s (t (i - 1)))

-- between any two steps of such a visit may stand one more, in CR, that stores nothing outside XS
abbrev pub MayPause : Type 0
MayPause =
    (l : Layout) (memory : List ℕ) (t : ℕ → Step) (n k : ℕ) (s : Step) → Plays l memory t n → 0 < k → k < n
    → Inside l s → stores_out l s ≡ false → Plays l memory (inserted t k s) (suc n)

-- ---- any other store of the attestation code into CTR

-- at CR's lowest address it may write any v to an address of CTR, by rule 6, and v then stands there.
-- So a history of the counter has to say that no trace does this
abbrev pub CodeMayStore : Type 0
CodeMayStore =
    (layout : List ℕ) (x : State) (a v : ℕ) → Good layout → Free (layout_of layout) x
    → within (layout_of layout).ctr a ≡ true → a < length x.memory
    → (let l = layout_of layout in
    let t : ℕ → Step = λ i. writing l.cr.lo a v in
    (cause_at l t x 0 ≡ 0) × (byte_at l t x 1 a ≡ v))
