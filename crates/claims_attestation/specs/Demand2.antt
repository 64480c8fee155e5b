-- Demand 2, the routine's part: replies are those of the routine over HMAC-SHA-256, and the station says yes exactly to
-- the reply that the routine works out. Definitions and claims; the proofs are in proofs/Demand2.antt. Assumes nothing.
use Rattle.std.specs.Prelude.{◌≡◌, ◌≢◌, ◌↔◌, true, false, List, ℕ, ◌+◌, ◌≤◌, length, get_or, Bool, Err, Ok, Result}
use Rattle.std.proofs.lemmas.List.Edits.{sets}
use Rattle.notions.specs.Bytes.{Bytes}
use Rattle.refusal.specs.Numbers.{number}
use Rattle.refusal.specs.Answers.{Answer, refused_at}
use Rattle.refusal.specs.declared.Reason.TheVariants.{ChallengeNotGreater, TokenDiffers, LengthOrTotal}
use Rattle.refusal.specs.declared.Refusal.{Refusal}
use Rattle.layout.specs.declared.Layout.{Layout}
use Rattle.layout.specs.Layouts.{layout_of}
use Rattle.layout.specs.Good.{Good}
use Rattle.layout.specs.Calls.{memory_bytes}
use Rattle.hmac.specs.Hmac.{hmac}
use Rattle.routine.specs.Strings.{greater}
use Rattle.routine.specs.Routine.{reply}
use Rattle.board.specs.Memory.{bytes_at, key, counter, attested, challenge, received, replied}
use Rattle.board.specs.Attestation.{Listed, stores_to}
use Rattle.board.specs.Promises.{Attests}
use Rattle.station.specs.Lengths.{Lengths}
use Rattle.station.specs.Promises.{MakesToken, ChecksReply}

-- ---- the routine, on the board

-- steps 1 and 2
pub record Request (l : Layout) (memory : List ℕ) : Type 0 where
  pub fresh : greater (challenge l memory) (counter l memory) ≡ true
  pub genuine : received l memory ≡ hmac (key l memory) (challenge l memory)

-- `attest` accepts exactly these
abbrev pub AcceptsExactly : Type 0
AcceptsExactly =
    (memory layout memory' : List ℕ) (r : Answer) → Attests memory layout memory' r
    → (r ≡ Ok tt) ↔ ((length memory ≡ memory_bytes) × Good layout × Request (layout_of layout) memory)

-- the reply that the routine works out for the key k, a challenge and a region, in HMACs alone
abbrev pub worked_out : List ℕ → List ℕ → List ℕ → List ℕ
worked_out k challenge region = hmac (hmac k (hmac k challenge)) region

-- step 3: the reply, the counter, and every other byte
pub record Served (l : Layout) (memory memory' : List ℕ) : Type 0 where
  pub reply : replied l memory' ≡ worked_out (key l memory) (challenge l memory) (attested l memory)
  pub counted : counter l memory' ≡ challenge l memory
  pub kept : (a : ℕ) → stores_to l a ≡ false → get_or memory' a 0 ≡ get_or memory a 0
  pub long : length memory' ≡ length memory

-- so an accepted call answers
abbrev pub AnswersSo : Type 0
AnswersSo =
    (memory layout memory' : List ℕ) → Bytes layout → Attests memory layout memory' (Ok tt)
    → Served (layout_of layout) memory memory'

-- a refused call has the number 1 to 6, 10 or 11, so never that of a length, and changes nothing
abbrev pub RefusesSo : Type 0
RefusesSo =
    (memory layout memory' : List ℕ) (q : Refusal) → Attests memory layout memory' (Err q)
    → Listed (number q.reason) × (memory' ≡ memory)

-- refused with 10 is exactly an old request, for a challenge that is not greater than CTR, whatever its token
abbrev pub OldRefused : Type 0
OldRefused =
    (memory layout memory' : List ℕ) (r : Answer) → Attests memory layout memory' r
    → (let l = layout_of layout in
    (r ≡ refused_at ChallengeNotGreater 0)
    ↔ ((length memory ≡ memory_bytes) × Good layout × (greater (challenge l memory) (counter l memory) ≡ false)))

-- and with 11 exactly one for a greater challenge, whose token is not T
abbrev pub ForgedRefused : Type 0
ForgedRefused =
    (memory layout memory' : List ℕ) (r : Answer) → Attests memory layout memory' r
    → (let l = layout_of layout in
    (r ≡ refused_at TokenDiffers 0)
    ↔ ((length memory ≡ memory_bytes) × Good layout × (greater (challenge l memory) (counter l memory) ≡ true)
    × (received l memory ≢ hmac (key l memory) (challenge l memory))))

-- what it stores are bytes
abbrev pub StoresBytes : Type 0
StoresBytes =
    (memory layout memory' : List ℕ) (r : Answer) → Bytes memory → Attests memory layout memory' r → Bytes memory'

-- ---- frame: what attestation does not depend on

-- two memories of one length with the same bytes in KR, in MR's first 64, in CTR and in AR
pub record SameRequest (l : Layout) (x y : List ℕ) : Type 0 where
  pub long : length x ≡ length y
  pub key : key l x ≡ key l y
  pub mail : bytes_at l.mr.lo 64 x ≡ bytes_at l.mr.lo 64 y
  pub counter : counter l x ≡ counter l y
  pub attested : attested l x ≡ attested l y

-- they get the same answer, and the same bytes are stored
abbrev pub Frame : Type 0
Frame =
    (layout x y x' y' : List ℕ) (r q : Answer) → Bytes layout → SameRequest (layout_of layout) x y
    → Attests x layout x' r → Attests y layout y' q
    → (r ≡ q) × (r ≡ Ok tt → (a : ℕ) → stores_to (layout_of layout) a ≡ true → get_or x' a 0 ≡ get_or y' a 0)

-- ---- the station

-- the station says yes exactly to the reply that the routine works out
abbrev pub YesExactly : Type 0
YesExactly =
    (k challenge given region : List ℕ) (v : Result Bool Refusal) → ChecksReply k challenge given region v
    → (v ≡ Ok true) ↔ (Lengths k challenge given region × (given ≡ worked_out k challenge region))

-- no exactly to every other
abbrev pub NoExactly : Type 0
NoExactly =
    (k challenge given region : List ℕ) (v : Result Bool Refusal) → ChecksReply k challenge given region v
    → (v ≡ Ok false) ↔ (Lengths k challenge given region × (given ≢ worked_out k challenge region))

-- and refuses exactly the wrong lengths
abbrev pub RefusesExactly : Type 0
RefusesExactly =
    (k challenge given region : List ℕ) (v : Result Bool Refusal) → ChecksReply k challenge given region v
    → (v ≡ Err (record { reason = LengthOrTotal; place = 0 })) ↔ (Lengths k challenge given region → ⊥)

-- yes to one reply for two requests or regions, as to an old reply sent again: only where the routine's replies for
-- both are equal
abbrev pub YesTwice : Type 0
YesTwice =
    (k c d given x y : List ℕ) → ChecksReply k c given x (Ok true) → ChecksReply k d given y (Ok true) → reply k c x ≡ reply k d y

-- ---- board and station agree

-- what the station, with the key k and the challenge c, says to a reply that a board gave for a region
pub record Agrees (k c region given : List ℕ) : Type 0 where
  -- for that region: yes
  pub same : ChecksReply k c given region (Ok true)
  -- for another expected region: yes exactly if the routine's replies for the two are equal
  pub other : (expected : List ℕ) → 1 ≤ length expected → length expected ≤ 65536
      → ChecksReply k c given expected (Ok true) ↔ (reply k c expected ≡ reply k c region)

-- the station makes a token for a challenge above CTR with the board's key: the board accepts it, and they agree on AR
-- as it was
abbrev pub BoardAndStation : Type 0
BoardAndStation =
    (memory layout memory' : List ℕ) (made : Result (List ℕ) Refusal) (r : Answer)
    → Bytes layout → length memory ≡ memory_bytes → Good layout
    → (let l = layout_of layout in
    greater (challenge l memory) (counter l memory) ≡ true
    → MakesToken (key l memory) (challenge l memory) made
    → (t : List ℕ) × (made ≡ Ok t)
    × (received l memory ≡ t
    → Attests memory layout memory' r
    → (r ≡ Ok tt) × Agrees (key l memory) (challenge l memory) (attested l memory) (replied l memory')))

-- the memory with a challenge and a token put into the mailbox
abbrev pub posted : Layout → List ℕ → List ℕ → List ℕ → List ℕ
posted l c t memory = sets (sets memory l.mr.lo c) (l.mr.lo + 32) t

-- so every request of the station is served, whatever else the memory holds: the counter is then the challenge, and
-- they agree, by the board's own key and challenge c, on AR as it stood before the request came
abbrev pub RequestServed : Type 0
RequestServed =
    (memory layout c memory' : List ℕ) (made : Result (List ℕ) Refusal) (r : Answer)
    → Bytes layout → length memory ≡ memory_bytes → Good layout → length c ≡ 32
    → (let l = layout_of layout in
    greater c (counter l memory) ≡ true
    → MakesToken (key l memory) c made
    → (t : List ℕ) × (made ≡ Ok t)
    × (Attests (posted l c t memory) layout memory' r
    → (r ≡ Ok tt) × (counter l memory' ≡ c) × Agrees (key l memory) c (attested l memory) (replied l memory')))
