-- What the counter's history rests on: the counter is kept, the layout stays, a visit runs to its end. Where one of
-- these three fails, an old request is accepted again, or a check stands in the wrong order. Definitions and claims;
-- the proofs are in proofs/Limits.antt. Assumes nothing.
use Rattle.std.specs.Prelude.{◌≡◌, true, false, List, [], ◌∷◌, ◌++◌, ℕ, zero, suc, length, take, drop, Ok}
use Rattle.notions.specs.Bytes.{Bytes}
use Rattle.layout.specs.declared.Layout.{Layout}
use Rattle.layout.specs.Regions.{within, size}
use Rattle.layout.specs.Layouts.{layout_of, layout_check}
use Rattle.layout.specs.Calls.{memory_bytes}
use Rattle.layout.specs.Good.{Good}
use Rattle.steps.specs.declared.Step.{Step}
use Rattle.traces.specs.Traces.{steps}
use Rattle.monitor.specs.Runs.{begin}
use Rattle.routine.specs.Strings.{greater}
use Rattle.board.specs.Memory.{key, counter, attested, challenge, received, replied}
use Rattle.board.specs.Promises.{Attests}
use Rattle.claims_monitor.specs.Marked.{page_bytes, at, interrupted}
use Rattle.claims_monitor.specs.Traces.{cause_at}
use Rattle.claims_attestation.specs.Demand2.{Request, Agrees}
use Rattle.claims_histories.specs.History.{trace, Keeps, History, Accepted}
use Rattle.claims_histories.specs.Cut.{played_to}
use Rattle.claims_histories.specs.Script.{encoded}
use Rattle.refusal.specs.Answers.{Answer}

-- ---- the counter is kept

-- where it falls back below the challenge of a request that was accepted, that request is accepted again
abbrev pub FallenBack : Type 0
FallenBack =
    (layout x x' y y' : List ℕ) (r : Answer) → Attests x layout x' (Ok tt) → Attests y layout y' r → length y ≡ length x
    → (let l = layout_of layout in
    key l y ≡ key l x → challenge l y ≡ challenge l x → received l y ≡ received l x
    → greater (challenge l y) (counter l y) ≡ true → r ≡ Ok tt)

-- ---- the layout stays

-- two layouts with one KR and one MR, and with CTR elsewhere
pub record Moved (l m : Layout) : Type 0 where
  pub key : m.kr ≡ l.kr
  pub mail : m.mr ≡ l.mr
  pub apart : (a : ℕ) → within m.ctr a ≡ true → within l.ctr a ≡ false

-- one request for c, put into the mailbox of a board, accepted with the one layout and then again, as it stands there,
-- with the other
pub record AcceptedTwice (layout moved memory c : List ℕ) : Type 0 where
  pub request : List ℕ
  pub once : List ℕ
  pub twice : List ℕ
  pub posts : Keeps (layout_of layout) memory request
  pub asks : challenge (layout_of layout) request ≡ c
  pub first : Attests request layout once (Ok tt)
  pub asks_again : challenge (layout_of moved) once ≡ c
  pub second : Attests once moved twice (Ok tt)

-- so it is on every board, for every challenge above what stands in both places
abbrev pub CounterMoved : Type 0
CounterMoved =
    (layout moved memory c : List ℕ) → Bytes layout → Good layout → Good moved
    → Moved (layout_of layout) (layout_of moved)
    → length memory ≡ memory_bytes → length c ≡ 32
    → greater c (counter (layout_of layout) memory) ≡ true → greater c (counter (layout_of moved) memory) ≡ true
    → AcceptedTwice layout moved memory c

-- two such layouts: the page's, and the same with CTR at 0900
abbrev pub moved_bytes : List ℕ
moved_bytes = take 16 page_bytes ++ (0x00 ∷ 0x09 ∷ 0x1f ∷ 0x09 ∷ []) ++ drop 20 page_bytes

pub record PageMoved : Type 0 where
  pub passes : layout_check moved_bytes ≡ Ok tt
  pub moved : Moved (layout_of page_bytes) (layout_of moved_bytes)

-- so a board with the page's layout, moved so, accepts every such request twice
abbrev pub PageTwice : Type 0
PageTwice =
    (memory c : List ℕ) → length memory ≡ memory_bytes → length c ≡ 32
    → greater c (counter (layout_of page_bytes) memory) ≡ true → greater c (counter (layout_of moved_bytes) memory) ≡ true
    → AcceptedTwice page_bytes moved_bytes memory c

-- ---- a visit runs to its end

-- a visit for the request in a memory, cut: a step at PC 0, the 32 stores of the reply, and an interrupt in CR
abbrev pub cut_steps : Layout → List ℕ → ℕ → Step
cut_steps l memory zero = at 0
cut_steps l memory (suc i) = played_to l memory 32 (interrupted l.cr.lo) i

abbrev pub cut_trace : Layout → List ℕ → List ℕ
cut_trace l memory = encoded (cut_steps l memory) 34

-- a history in which the check with the larger challenge c is the earlier one
pub record OutOfOrder (layout memory c d altered : List ℕ) : Type 0 where
  pub history : History
  pub laid : history.layout ≡ layout
  pub from : history.memories 0 ≡ memory
  -- a request for c, as `attest` accepts it, is put into the mailbox; event 1 is a visit for it that an interrupt cuts,
  -- and no call of `attest`
  pub asks : challenge (layout_of layout) (history.memories 1) ≡ c
  pub request : Request (layout_of layout) (history.memories 1)
  pub cut : history.events 1 ≡ trace (cut_trace (layout_of layout) (history.memories 1))
      (Ok (record { steps = 34; resets = 1 }))
  pub because :
      (let b = cut_trace (layout_of layout) (history.memories 1) in
      cause_at (layout_of layout) (steps b) (begin (history.memories 1)) 33 ≡ 4)
  -- the reply to c is there all the same, for AR as it was
  pub answered :
      (let l = layout_of layout in
      Agrees (key l memory) c (attested l memory) (replied l (history.memories 2)))
  -- and the counter has not moved: AR is altered, and a request for d is accepted
  pub uncounted : counter (layout_of layout) (history.memories 2) ≡ counter (layout_of layout) memory
  pub region : attested (layout_of layout) (history.memories 4) ≡ altered
  pub accepted : Accepted history 4 d
  pub larger : greater c d ≡ true
  pub told : (let l = layout_of layout in Agrees (key l memory) d altered (replied l (history.memories 5)))

-- there is one on every board whose AR shares no address with CR, for all d above CTR and c above d. To the reply to d
-- the station, which expects AR as it was, says yes only if both regions have one reply; to the reply to c it says yes.
-- Sorted by challenge, the earlier check stands last
abbrev pub CheckedOutOfOrder : Type 0
CheckedOutOfOrder =
    (layout memory c d altered : List ℕ) → Bytes layout → Good layout
    → (let l = layout_of layout in
    ((a : ℕ) → within l.ar a ≡ true → within l.cr a ≡ false)
    → length memory ≡ memory_bytes → length c ≡ 32 → length d ≡ 32 → length altered ≡ size l.ar
    → greater d (counter l memory) ≡ true → greater c d ≡ true → OutOfOrder layout memory c d altered)
