-- Demand 1: every public call takes any bytes, lengths and addresses and answers; wrong input gets the numbered refusal
-- of the rules page, in exactly the listed cases, and changes no lent byte. The page's table as lists of conditions, in
-- its order and in numbers; then the claims. Of the tests that the checks make one stands here too: `greater`, which
-- compares challenges. The proofs are in proofs/Demand1.antt. Assumes nothing.
use Rattle.std.specs.Prelude.{◌≡◌, ◌≢◌, ◌⊎◌, false, List, [], ◌∷◌, ◌++◌, ℕ, ◌+◌, ◌*◌, ◌%◌, ◌≤◌, ◌<◌, length, get_or, Bool, Option, Result}
use Rattle.conditions.specs.Conditions.{Condition, placed, plain, first_of, RefusedAs, NothingLent, Answers}
use Rattle.sha256.specs.declared.Sha.{Sha}
use Rattle.sha256.specs.declared.Taken.{Taken}
use Rattle.sha256.specs.Promises.{TakesIn, Finishes, Hashes}
use Rattle.lent_hash.specs.Promises as lent_hash
use Rattle.hmac.specs.Hmac.{hmac}
use Rattle.hmac.specs.Promises.{Macs}
use Rattle.layout.specs.declared.Region.{Region}
use Rattle.layout.specs.Layouts.{CR, KR, MR, CTR, AR, region, layout_of}
use Rattle.layout.specs.Promises.{Checks}
use Rattle.rules.specs.declared.Monitor.{Monitor}
use Rattle.traces.specs.Traces.{count}
use Rattle.monitor.specs.Promises.{Steps, Traces}
use Rattle.reader.specs.declared.StepReader.{StepReader}
use Rattle.reader.specs.Promises.{Reads}
use Rattle.routine.specs.Strings.{greater}
use Rattle.board.specs.Memory.{key, counter, challenge, received}
use Rattle.board.specs.Promises.{Attests}
use Rattle.station.specs.Promises.{MakesToken, ChecksReply}
use Rattle.file_contents.specs.Contents.{layout_entry, memory_entry, trace_entry, offset, size, begins, body}
use Rattle.file_segments.specs.Segments.{start_at, size_at, place, reached, segments}
use Rattle.runfile.specs.Promises.{Judges}
use Rattle.refusal.specs.Answers.{Answer}
use Rattle.layout.specs.declared.Layout.{Layout}
use Rattle.refusal.specs.declared.Refusal.{Refusal}
use Rattle.monitor.specs.declared.Totals.{Totals}
use Rattle.steps.specs.declared.Step.{Step}

-- ---- the page's table, from 1 to 15

abbrev pub memory_length : List ℕ → Condition
memory_length memory = plain 1 (length memory ≢ 65536)

-- an address is in a region
abbrev pub In : ℕ → Region → Type 0
In a r = (r.lo ≤ a) × (a ≤ r.hi)

-- a region has n bytes: both its ends are counted
abbrev pub HasBytes : Region → ℕ → Type 0
HasBytes r n = r.hi + 1 ≡ r.lo + n

pub record SharedAddress (layout : List ℕ) : Type 0 where
  pub one : ℕ
  pub other : ℕ
  pub address : ℕ
  pub ordered : one < other
  pub listed : other < 6
  -- AR and CR may share
  pub forbidden : (one ≡ CR) × (other ≡ AR) → ⊥
  pub in_one : In address (region layout one)
  pub in_other : In address (region layout other)

abbrev pub WrongSize : List ℕ → ℕ → Type 0
WrongSize layout k =
    ((k ≡ KR) × (HasBytes (region layout k) 64 → ⊥))
    ⊎ ((k ≡ MR) × ((region layout k).hi + 1 < (region layout k).lo + 96))
    ⊎ ((k ≡ CTR) × (HasBytes (region layout k) 32 → ⊥))

abbrev pub layout_conditions : List ℕ → List Condition
layout_conditions layout =
    plain 2 (length layout ≢ 24)
    ∷ first_of 3 6 (λ k. (region layout k).hi < (region layout k).lo)
    ∷ first_of 4 6 (WrongSize layout)
    ∷ plain 5 (In 0 (region layout CR))
    ∷ plain 6 (SharedAddress layout)
    ∷ []

-- step k has a bit or a byte set that is zero in a step
abbrev pub NotZero : List ℕ → ℕ → Type 0
NotZero steps k =
    (32 ≤ get_or steps (12 * k + 6) 0)
    ⊎ (get_or steps (12 * k + 9) 0 ≢ 0)
    ⊎ (get_or steps (12 * k + 10) 0 ≢ 0)
    ⊎ (get_or steps (12 * k + 11) 0 ≢ 0)

abbrev pub trace_length : List ℕ → Condition
trace_length trace = plain 7 ((length trace % 12 ≢ 0) ⊎ (4096 < count trace))

abbrev pub trace_conditions : List ℕ → List ℕ → List Condition
trace_conditions trace room =
    trace_length trace
    ∷ plain 8 (length room < 4 * count trace)
    ∷ first_of 9 (count trace) (NotZero trace)
    ∷ []

abbrev pub step_conditions : List ℕ → List ℕ → List Condition
step_conditions step room = plain 7 (length step ≢ 12) ∷ plain 8 (length room < 4) ∷ plain 9 (NotZero step 0) ∷ []

-- a reader looks at the step at its place alone, and only where the trace has one
abbrev pub reader_conditions : List ℕ → ℕ → List Condition
reader_conditions trace place = trace_length trace ∷ placed 9 place ((place < count trace) × NotZero trace place) ∷ []

abbrev pub request_conditions : List ℕ → List ℕ → List Condition
request_conditions memory layout =
    let l = layout_of layout in
    plain 10 (greater (challenge l memory) (counter l memory) ≡ false)
    ∷ plain 11 (received l memory ≢ hmac (key l memory) (challenge l memory))
    ∷ []

-- 12, where P says what is wrong with the lengths or the total
abbrev pub length_conditions : Type 0 → List Condition
length_conditions P = plain 12 P ∷ []

-- an entry of a run file
abbrev pub EntryFails : List ℕ → ℕ → Type 0
EntryFails file k =
    (length file < 24)
    ⊎ (offset file k ≢ begins file k)
    ⊎ (length file < begins file k + size file k)
    ⊎ ((k ≡ layout_entry) × (size file k ≢ 24))
    ⊎ ((k ≡ trace_entry) × (begins file k + size file k < length file))

-- a segment of a memory body
abbrev pub SegmentFails : List ℕ → ℕ → Type 0
SegmentFails b k =
    (length b < place b k + 4)
    ⊎ (size_at b (place b k) ≡ 0)
    ⊎ (length b < place b k + 4 + size_at b (place b k))
    ⊎ (start_at b (place b k) < reached b k)
    ⊎ (65536 < start_at b (place b k) + size_at b (place b k))

abbrev pub segment_condition : List ℕ → Condition
segment_condition b = first_of 14 (segments b) (SegmentFails b)

-- ---- each call's conditions in order

abbrev pub trace_call : List ℕ → List ℕ → List ℕ → List ℕ → List Condition
trace_call memory layout trace room = memory_length memory ∷ layout_conditions layout ++ trace_conditions trace room

abbrev pub step_call : List ℕ → List ℕ → List ℕ → List ℕ → List Condition
step_call memory layout step room = memory_length memory ∷ layout_conditions layout ++ step_conditions step room

abbrev pub attest_call : List ℕ → List ℕ → List Condition
attest_call memory layout = memory_length memory ∷ layout_conditions layout ++ request_conditions memory layout

-- 15 and 13 come first for files, and 14 stands before 7
abbrev pub file_call : List ℕ → List ℕ → List ℕ → List Condition
file_call file memory room =
    plain 15 (49152 < length file)
    ∷ first_of 13 3 (EntryFails file)
    ∷ memory_length memory
    ∷ layout_conditions (body file layout_entry)
    ++ (segment_condition (body file memory_entry) ∷ trace_conditions (body file trace_entry) room)

-- ---- the claims, one for each call

-- a call that is lent a memory and room for its answers leaves both as they were
abbrev pub BothKept : List ℕ → List ℕ → List ℕ → List ℕ → Type 0
BothKept memory room memory' room' = (memory' ≡ memory) × (room' ≡ room)

abbrev pub LayoutAnswers : Type 0
LayoutAnswers =
    (layout : List ℕ) (r : Result Layout Refusal) → Checks layout r
    → Answers (layout_conditions layout) (RefusedAs r) NothingLent

abbrev pub TraceAnswers : Type 0
TraceAnswers =
    (memory layout trace room memory' room' : List ℕ) (r : Result Totals Refusal) → Traces memory layout trace room memory' room' r
    → Answers (trace_call memory layout trace room) (RefusedAs r) (BothKept memory room memory' room')

abbrev pub StepAnswers : Type 0
StepAnswers =
    (memory layout step : List ℕ) (m : Monitor) (room memory' room' : List ℕ) (r : Result Monitor Refusal)
    → Steps memory layout step m room memory' room' r
    → Answers (step_call memory layout step room) (RefusedAs r) (BothKept memory room memory' room')

abbrev pub AttestAnswers : Type 0
AttestAnswers =
    (memory layout memory' : List ℕ) (r : Answer) → Attests memory layout memory' r
    → Answers (attest_call memory layout) (RefusedAs r) (memory' ≡ memory)

abbrev pub JudgeAnswers : Type 0
JudgeAnswers =
    (file memory room memory' room' : List ℕ) (r : Result Totals Refusal) → Judges file memory room memory' room' r
    → Answers (file_call file memory room) (RefusedAs r) (BothKept memory room memory' room')

abbrev pub TokenAnswers : Type 0
TokenAnswers =
    (k challenge : List ℕ) (r : Result (List ℕ) Refusal) → MakesToken k challenge r
    → Answers (length_conditions ((length k ≢ 64) ⊎ (length challenge ≢ 32))) (RefusedAs r) NothingLent

abbrev pub CheckAnswers : Type 0
CheckAnswers =
    (k challenge given region : List ℕ) (r : Result Bool Refusal) → ChecksReply k challenge given region r
    → Answers
    (length_conditions
    ((length k ≢ 64) ⊎ (length challenge ≢ 32) ⊎ (length given ≢ 32) ⊎ (length region ≡ 0) ⊎ (65536 < length region)))
    (RefusedAs r) NothingLent

abbrev pub HashAnswers : Type 0
HashAnswers =
    (m : List ℕ) (r : Result (List ℕ) Refusal) → Hashes m r
    → Answers (length_conditions (131072 < length m)) (RefusedAs r) NothingLent

-- a state that is refused is handed back as it was
abbrev pub TakeInAnswers : Type 0
TakeInAnswers =
    (s : Sha) (x : List ℕ) (r : Taken) → TakesIn s x r
    → Answers (length_conditions (131072 < s.total + length x))
    (RefusedAs r.answer) (r.state ≡ s)

abbrev pub FinishAnswers : Type 0
FinishAnswers =
    (s : Sha) (r : Result (List ℕ) Refusal) → Finishes s r → Answers (length_conditions (131072 < s.total)) (RefusedAs r) NothingLent

abbrev pub MacAnswers : Type 0
MacAnswers =
    (k m : List ℕ) (r : Result (List ℕ) Refusal) → Macs k m r
    → Answers (length_conditions ((65536 < length k) ⊎ (65536 < length m))) (RefusedAs r) NothingLent

-- an object that is lent and refused is as it was, and one that is finished is lent to be read only
abbrev pub LentTakeInAnswers : Type 0
LentTakeInAnswers =
    (s : Sha) (x : List ℕ) (s' : Sha) (r : Answer) → lent_hash.TakesIn s x s' r
    → Answers (length_conditions (131072 < s.total + length x)) (RefusedAs r) (s' ≡ s)

abbrev pub LentFinishAnswers : Type 0
LentFinishAnswers =
    (s : Sha) (r : Result (List ℕ) Refusal) → lent_hash.Finishes s r
    → Answers (length_conditions (131072 < s.total)) (RefusedAs r) NothingLent

-- a reader that refuses holds the same trace and stays at its place
abbrev pub ReaderAnswers : Type 0
ReaderAnswers =
    (h h' : StepReader) (r : Result (Option Step) Refusal) → Reads h h' r
    → Answers (reader_conditions h.trace.now h.place) (RefusedAs r) (h' ≡ h)
