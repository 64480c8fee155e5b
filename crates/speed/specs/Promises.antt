-- What the functions for a C program promise, for all inputs. Assumes nothing.
use Rattle.std.specs.Prelude.{◌≡◌, ◌||◌, List, ◌++◌, ℕ, ltb, length, get_or, drop, replicate, Result, Ok, Err}
use Rattle.notions.specs.Choice.{pick}
use Rattle.refusal.specs.Answers.{Answer, row, after_call}
use Rattle.layout.specs.Layouts.{layout_of}
use Rattle.layout.specs.Calls.{call_check}
use Rattle.sha256_digest.specs.Hash.{sha256}
use Rattle.sha256.specs.Promises.{over}
use Rattle.hmac.specs.Hmac.{hmac}
use Rattle.hmac.specs.Promises.{long}
use Rattle.board.specs.Attestation.{attest_check, accepted}
use Rattle.monitor.specs.Runs.{memory_after, room_after}
use Rattle.traces.specs.Traces.{trace_check}
use Rattle.monitor.specs.Promises.{traced_row}
use Rattle.runfile.specs.Promises.{judge_check, memory_left, room_left}
use Rattle.monitor.specs.declared.Totals.{Totals}
use Rattle.refusal.specs.Numbers.{number}
use Rattle.refusal.specs.declared.Refusal.{Refusal}

-- the bytes of a digest
abbrev pub digest_bytes : ℕ
digest_bytes = 32

-- the bytes that `hash` answers for the message m
abbrev pub hash_answer : List ℕ → List ℕ
hash_answer m = pick (over (length m)) (replicate digest_bytes 0) (sha256 m)

-- the bytes that `mac` answers for the key k and the message m
abbrev pub mac_answer : List ℕ → List ℕ → List ℕ
mac_answer k m = pick (long k || long m) (replicate digest_bytes 0) (hmac k m)

-- a room with the 32 bytes d at its start; one that is too short for them is as it was
abbrev pub holding : List ℕ → List ℕ → List ℕ
holding d room = pick (ltb (length room) digest_bytes) room (d ++ drop digest_bytes room)

-- `speed_hash`: the room before and after
abbrev pub StoresHash : List ℕ → List ℕ → List ℕ → Type 0
StoresHash m room after = after ≡ holding (hash_answer m) room

-- `speed_mac`, likewise
abbrev pub StoresMac : List ℕ → List ℕ → List ℕ → List ℕ → Type 0
StoresMac k m room after = after ≡ holding (mac_answer k m) room

-- 0, or the refusal's number
abbrev pub number_of : {T : Type 0} → Result T Refusal → ℕ
number_of (Ok v) = 0
number_of (Err r) = number r.reason

-- what an answer's row begins with: 0, or the refusal's number
abbrev pub answer_number : Answer → ℕ
answer_number a = get_or (row a) 0 0

-- the same of `trace` and `judge`
abbrev pub traced_number : Result Totals Refusal → ℕ
traced_number t = get_or (traced_row t) 0 0

-- `speed_attest`: 0, or the refusal's number; and what `attest` leaves
pub record NumbersAttest (memory layout memory' : List ℕ) (r : ℕ) : Type 0 where
  pub answered : r ≡ answer_number (attest_check memory layout)
  pub memory_left : memory' ≡ after_call (attest_check memory layout) (accepted (layout_of layout) memory) memory

-- `speed_trace`: the same of `trace`
pub record NumbersTrace (memory layout trace room memory' room' : List ℕ) (r : ℕ) : Type 0 where
  pub answered : r ≡ answer_number (call_check memory layout (trace_check trace (length room)))
  pub memory_left :
      memory'
      ≡ after_call (call_check memory layout (trace_check trace (length room)))
      (memory_after (layout_of layout) trace memory) memory
  pub room_left :
      room'
      ≡ after_call (call_check memory layout (trace_check trace (length room)))
      (room_after (layout_of layout) trace memory room) room

-- `speed_judge`: the same of `judge`
pub record NumbersJudge (file memory room memory' room' : List ℕ) (r : ℕ) : Type 0 where
  pub answered : r ≡ answer_number (judge_check file memory room)
  pub memory_left : memory' ≡ memory_left file memory room
  pub room_left : room' ≡ room_left file memory room
