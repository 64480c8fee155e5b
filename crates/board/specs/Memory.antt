-- What attestation reads in a board's memory, and where. Assumes nothing.
use Rattle.std.specs.Prelude.{List, ℕ, ◌+◌, ◌*◌, take, drop}
use Rattle.layout.specs.declared.Region.{Region}
use Rattle.layout.specs.declared.Layout.{Layout}
use Rattle.layout.specs.Regions.{size}
use Rattle.routine.specs.Routine.{string_bytes}

-- n bytes of the memory from address a on
abbrev pub bytes_at : ℕ → ℕ → List ℕ → List ℕ
bytes_at a n memory = take n (drop a memory)

-- a region's bytes
abbrev pub bytes_of : Region → List ℕ → List ℕ
bytes_of r memory = bytes_at r.lo (size r) memory

-- K is the bytes of KR
abbrev pub key : Layout → List ℕ → List ℕ
key l memory = bytes_of l.kr memory

-- the bytes of CTR, and of AR
abbrev pub counter : Layout → List ℕ → List ℕ
counter l memory = bytes_of l.ctr memory

abbrev pub attested : Layout → List ℕ → List ℕ
attested l memory = bytes_of l.ar memory

-- the challenge is MR's first 32 bytes, the token the next 32, the reply the next 32
abbrev pub challenge : Layout → List ℕ → List ℕ
challenge l memory = bytes_at l.mr.lo string_bytes memory

abbrev pub received : Layout → List ℕ → List ℕ
received l memory = bytes_at (l.mr.lo + string_bytes) string_bytes memory

abbrev pub reply_at : Layout → ℕ
reply_at l = l.mr.lo + 2 * string_bytes

abbrev pub replied : Layout → List ℕ → List ℕ
replied l memory = bytes_at (reply_at l) string_bytes memory
