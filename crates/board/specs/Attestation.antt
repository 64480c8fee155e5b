-- Attestation on a board's memory. Assumes nothing.
use Rattle.std.specs.Prelude.{◌⊎◌, Bool, ◌||◌, List, ℕ, ◌+◌, ◌≤◌}
use Rattle.std.proofs.lemmas.List.Edits.{sets}
use Rattle.refusal.specs.declared.Reason.TheVariants.{MemorySize, RegionsShare, ChallengeNotGreater, TokenDiffers}
use Rattle.layout.specs.declared.Layout.{Layout}
use Rattle.layout.specs.Regions.{within}
use Rattle.layout.specs.Layouts.{layout_of}
use Rattle.layout.specs.Calls.{call_check}
use Rattle.routine.specs.Routine.{reply, request_check}
use Rattle.board.specs.Memory.{key, counter, attested, challenge, received, reply_at}
use Rattle.refusal.specs.Numbers.{number}
use Rattle.refusal.specs.Answers.{Answer}

-- steps 1 and 2 on what stands in the memory
abbrev pub request_check_in : Layout → List ℕ → Answer
request_check_in l memory = request_check (key l memory) (challenge l memory) (received l memory) (counter l memory)

-- refusals 1, 2 to 6, 10, 11
unfoldable pub attest_check : List ℕ → List ℕ → Answer
attest_check memory layout = call_check memory layout (request_check_in (layout_of layout) memory)

-- their numbers
abbrev pub Listed : ℕ → Type 0
Listed n = ((number MemorySize ≤ n) × (n ≤ number RegionsShare)) ⊎ ((number ChallengeNotGreater ≤ n) × (n ≤ number TokenDiffers))

-- step 3: the reply that the routine works out
unfoldable pub due : Layout → List ℕ → List ℕ
due l memory = reply (key l memory) (challenge l memory) (attested l memory)

-- the reply is stored, and CTR becomes the challenge
unfoldable pub accepted : Layout → List ℕ → List ℕ
accepted l memory = sets (sets memory (reply_at l) (due l memory)) l.ctr.lo (challenge l memory)

-- the addresses that it stores to: the reply's 32 and those of CTR
abbrev pub stores_to : Layout → ℕ → Bool
stores_to l a = within (record { lo = reply_at l; hi = reply_at l + 31 }) a || within l.ctr a
