-- The counter's history: what can happen to a board, and that no call of `attest` accepts an old request again.
-- Definitions and claims; the proofs are in proofs/History.antt. What it rests on is in Limits.antt. Assumes nothing.
use Rattle.std.specs.Prelude.{◌≡◌, ◌↔◌, ◌⊎◌, Bool, true, false, not, ◌&&◌, List, ℕ, suc, ◌≤◌, ◌<◌, length, Ok, Result}
use Rattle.notions.specs.Bytes.{Bytes}
use Rattle.refusal.specs.Answers.{Answer, refused_at}
use Rattle.refusal.specs.declared.Reason.TheVariants.{ChallengeNotGreater}
use Rattle.layout.specs.declared.Layout.{Layout}
use Rattle.layout.specs.Layouts.{layout_of}
use Rattle.layout.specs.Calls.{memory_bytes}
use Rattle.layout.specs.Good.{Good}
use Rattle.steps.specs.declared.Step.{Step}
use Rattle.rules.specs.declared.Monitor.{Monitor}
use Rattle.rules.specs.Rules.{code_writes_in}
use Rattle.monitor.specs.Decisions.{resets}
use Rattle.traces.specs.Traces.{count, steps}
use Rattle.monitor.specs.Runs.{begin}
use Rattle.monitor.specs.Promises.{Steps, Traces}
use Rattle.routine.specs.Strings.{greater, weight}
use Rattle.routine.specs.Routine.{reply}
use Rattle.board.specs.Memory.{bytes_of, key, counter, attested, challenge, replied}
use Rattle.board.specs.Promises.{Attests}
use Rattle.station.specs.Promises.{ChecksReply}
use Rattle.claims_monitor.specs.Traces.{remembers}
use Rattle.refusal.specs.declared.Refusal.{Refusal}
use Rattle.monitor.specs.declared.Totals.{Totals}

-- ---- what can happen to a board

pub data Event : Type 0 where
  -- a call of `attest`, and its answer
  attest : Answer → Event
  -- a call of `trace` with these steps, and its answer
  trace : List ℕ → Result Totals Refusal → Event
  -- anything else: power loss, the loading of forms
  change : Event

-- CR, KR and CTR stay; every other byte may change. (CR is ROM; the claims below need KR and CTR alone)
pub record Keeps (l : Layout) (x y : List ℕ) : Type 0 where
  pub long : length y ≡ length x
  pub code : bytes_of l.cr y ≡ bytes_of l.cr x
  pub key : key l y ≡ key l x
  pub counter : counter l y ≡ counter l x

-- the attestation code stores into CTR at this step, and the step does not reset
abbrev pub stores_counter : Layout → Monitor → Step → Bool
stores_counter l m s = not (resets l m s) && code_writes_in l.ctr l s

-- it does so at no step of a trace
abbrev pub CounterLeft : Layout → List ℕ → List ℕ → Type 0
CounterLeft l b memory =
    (i : ℕ) → i < count b → stores_counter l (remembers l (steps b) (begin memory) i) (steps b i) ≡ false

-- an event turns the memory x into y
abbrev pub Happens : List ℕ → Event → List ℕ → List ℕ → Type 0
Happens layout (attest r) x y = Attests x layout y r
Happens layout (trace b r) x y =
    ((room : List ℕ) × (room' : List ℕ) × Traces x layout b room y room' r) × CounterLeft (layout_of layout) b x
Happens layout change x y = Keeps (layout_of layout) x y

-- a trace in which the attestation code leaves CTR alone keeps CR, KR and CTR
abbrev pub TraceKeeps : Type 0
TraceKeeps =
    (memory layout b room memory' room' : List ℕ) (r : Result Totals Refusal) → Traces memory layout b room memory' room' r
    → CounterLeft (layout_of layout) b memory → Keeps (layout_of layout) memory memory'

-- so does a step judged by itself, which counts as any other event
abbrev pub StepKeeps : Type 0
StepKeeps =
    (memory layout step : List ℕ) (m : Monitor) (room memory' room' : List ℕ) (r : Result Monitor Refusal)
    → Steps memory layout step m room memory' room' r → stores_counter (layout_of layout) m (steps step 0) ≡ false
    → Keeps (layout_of layout) memory memory'

-- what happened to a board: n events, where memories i is the memory before event i
pub record History : Type 0 where
  -- the layout is bytes, so that no region ends behind the memory
  pub layout : List ℕ
  pub in_bytes : Bytes layout
  pub n : ℕ
  pub events : ℕ → Event
  pub memories : ℕ → List ℕ
  pub happens : (i : ℕ) → i < n → Happens layout (events i) (memories i) (memories (suc i))

-- ---- over every history of a board

-- the counter before event i
abbrev pub counter_at : History → ℕ → List ℕ
counter_at h i = counter (layout_of h.layout) (h.memories i)

-- event i is an accepted request, for the challenge c
pub record Accepted (h : History) (i : ℕ) (c : List ℕ) : Type 0 where
  pub happened : i < h.n
  pub event : h.events i ≡ attest (Ok tt)
  pub request : c ≡ challenge (layout_of h.layout) (h.memories i)

-- the counter never falls
abbrev pub CounterRises : Type 0
CounterRises =
    (h : History) (i j : ℕ) → i ≤ j → j ≤ h.n
    → (counter_at h j ≡ counter_at h i) ⊎ (greater (counter_at h j) (counter_at h i) ≡ true)

-- a challenge that is not greater than the counter never is again
abbrev pub OldStaysOld : Type 0
OldStaysOld =
    (h : History) (i j : ℕ) → i ≤ j → j ≤ h.n
    → (c : List ℕ) → greater c (counter_at h i) ≡ false → greater c (counter_at h j) ≡ false

-- accepted challenges strictly increase
abbrev pub Increase : Type 0
Increase = (h : History) (i j : ℕ) (c d : List ℕ) → Accepted h i c → Accepted h j d → i < j → greater d c ≡ true

-- as numbers too
abbrev pub NumbersIncrease : Type 0
NumbersIncrease =
    (h : History) (i j : ℕ) (c d : List ℕ) → Bytes (h.memories i) → Bytes (h.memories j)
    → Accepted h i c → Accepted h j d → i < j → weight c < weight d

-- no challenge is accepted twice
abbrev pub NeverTwice : Type 0
NeverTwice = (h : History) (i j : ℕ) (c : List ℕ) → Accepted h i c → Accepted h j c → i ≡ j

-- of two accepted checks the later has the larger challenge: sorting by challenge is sorting by time
abbrev pub LaterIsLarger : Type 0
LaterIsLarger =
    (h : History) (i j : ℕ) (c d : List ℕ) → Accepted h i c → Accepted h j d → (i < j) ↔ (greater d c ≡ true)

-- a call of `attest` at event j that finds in the mailbox a challenge not greater than c is refused with 10
abbrev pub RefusesAsOld : History → List ℕ → ℕ → Type 0
RefusesAsOld h c j =
    (r : Answer) → h.events j ≡ attest r → greater (challenge (layout_of h.layout) (h.memories j)) c ≡ false
    → r ≡ refused_at ChallengeNotGreater 0

-- once c is accepted, so it is for ever: one request above all that were issued sets a board right whose counter fell
-- back
abbrev pub Recovery : Type 0
Recovery =
    (h : History) (i : ℕ) (c : List ℕ) → Accepted h i c → (j : ℕ) → i < j → j < h.n → RefusesAsOld h c j

-- once a challenge is refused with 10, it is for ever
abbrev pub RefusedForEver : Type 0
RefusedForEver =
    (h : History) (i : ℕ) → i < h.n → h.events i ≡ attest (refused_at ChallengeNotGreater 0)
    → (j : ℕ) → i ≤ j → j < h.n → RefusesAsOld h (challenge (layout_of h.layout) (h.memories i)) j

-- ---- what the station learns

-- the key before event i is the key at the start
abbrev pub key_at : History → ℕ → List ℕ
key_at h i = key (layout_of h.layout) (h.memories i)

abbrev pub KeyStays : Type 0
KeyStays = (h : History) (i : ℕ) → i ≤ h.n → key_at h i ≡ key_at h 0

-- the request c was accepted at event i, and the station, which has the board's key and expects a region, said v to the
-- reply that the call left
pub record CheckedReply (h : History) (i : ℕ) (c expected : List ℕ) (v : Result Bool Refusal) : Type 0 where
  pub accepted : Accepted h i c
  pub some : 1 ≤ length expected
  pub most : length expected ≤ 65536
  pub said : ChecksReply (key_at h 0) c (replied (layout_of h.layout) (h.memories (suc i))) expected v

-- v is yes exactly if the routine's reply for the expected region is that for AR as it stood before event i
abbrev pub Tells : History → ℕ → List ℕ → List ℕ → Result Bool Refusal → Type 0
Tells h i c expected v =
    (v ≡ (Ok true))
    ↔ (reply (key_at h 0) c expected ≡ reply (key_at h 0) c (attested (layout_of h.layout) (h.memories i)))

-- of two checks the one with the larger challenge is the later, and tells of AR as it stood then: so whoever sorts by
-- challenge may believe the last
abbrev pub LastTells : Type 0
LastTells =
    (h : History) (i j : ℕ) (c d x y : List ℕ) (v w : Result Bool Refusal) → CheckedReply h i c x v → CheckedReply h j d y w
    → greater d c ≡ true → (i < j) × Tells h j d y w

-- ---- there are such histories

-- on every board, two requests for rising challenges, each put into the mailbox and accepted
abbrev pub BothServed : Type 0
BothServed =
    (memory layout c d : List ℕ) → Bytes layout → length memory ≡ memory_bytes → Good layout
    → length c ≡ 32 → length d ≡ 32 → greater c (counter (layout_of layout) memory) ≡ true → greater d c ≡ true
    → (h : History) × (h.layout ≡ layout) × (h.memories 0 ≡ memory) × Accepted h 1 c × Accepted h 3 d
