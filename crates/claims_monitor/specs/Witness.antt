-- A witness that demand 3 is about something: two calls with different keys, scratch and bytes stored there, in which
-- bytes are exposed, the mailbox is used and steps reset. proofs/Witness.antt has the proof. Assumes nothing.
use Rattle.std.specs.Prelude.{◌≡◌, List, [], ◌∷◌, ◌++◌, ℕ, get_or, replicate, Ok}
use Rattle.layout.specs.Layouts.{layout_of}
use Rattle.monitor.specs.Promises.{Traces}
use Rattle.claims_monitor.specs.Demand3.{Agree, SameTrace}

-- a region in the first 256 addresses
abbrev pub region_bytes : ℕ → ℕ → List ℕ
region_bytes lo hi = lo ∷ 0 ∷ hi ∷ 0 ∷ []

-- CR, KR, XS, MR, CTR, AR
abbrev pub layout : List ℕ
layout =
    region_bytes 0x01 0x02
    ++ region_bytes 0x26 0x65
    ++ region_bytes 0x03 0x04
    ++ region_bytes 0x66 0xc5
    ++ region_bytes 0xc6 0xe5
    ++ region_bytes 0x05 0x25

unfoldable pub others : List ℕ
others = replicate 65433 0

-- a memory: XS has these two bytes, AR begins with 11 22 33 44, KR has one byte 64 times, MR this first byte; all
-- others are 0
abbrev pub board : ℕ → ℕ → ℕ → ℕ → List ℕ
board a b key mailbox =
    (0 ∷ 0 ∷ 0 ∷ a ∷ b ∷ 0x11 ∷ 0x22 ∷ 0x33 ∷ 0x44 ∷ []) ++ replicate 29 0 ++ replicate 64 key ++ mailbox ∷ others

-- a step: PC's two bytes, CPU address, DMA address, flags, CPU data
abbrev pub small_step : ℕ → ℕ → ℕ → ℕ → ℕ → ℕ → List ℕ
small_step low high cpu dma flags byte = low ∷ high ∷ cpu ∷ 0 ∷ dma ∷ 0 ∷ flags ∷ byte ∷ 0 ∷ 0 ∷ 0 ∷ 0 ∷ []

-- eight steps, of which the second stores `byte` into the scratch
abbrev pub trace : ℕ → List ℕ
trace byte =
    -- PC 0: CPU and DMA read in AR
    small_step 0x00 0x00 0x06 0x07 9 0
    -- PC in CR: a store into the scratch, a read there, a store in MR
    ++ small_step 0x01 0x00 0x03 0x00 2 byte
    ++ small_step 0x01 0x00 0x03 0x00 1 0
    ++ small_step 0x02 0x00 0x66 0x00 2 0x5a
    -- PC outside CR: a read in MR, a read in the scratch
    ++ small_step 0x00 0xe0 0x66 0x00 1 0
    ++ small_step 0x02 0xe0 0x03 0x00 1 0
    -- held: PC is not 0; PC 0 and the DMA reads in KR
    ++ small_step 0x04 0xe0 0x00 0x00 0 0
    ++ small_step 0x00 0x00 0x00 0x26 8 0

-- their answers
abbrev pub answered : List ℕ
answered =
    (0 ∷ 3 ∷ 0x22 ∷ 0x33 ∷ [])
    ++ (0 ∷ 0 ∷ 0 ∷ 0 ∷ [])
    ++ (0 ∷ 0 ∷ 0 ∷ 0 ∷ [])
    ++ (0 ∷ 0 ∷ 0 ∷ 0 ∷ [])
    ++ (0 ∷ 1 ∷ 0x5a ∷ 0 ∷ [])
    ++ (5 ∷ 0 ∷ 0 ∷ 0 ∷ [])
    ++ (15 ∷ 0 ∷ 0 ∷ 0 ∷ [])
    ++ (7 ∷ 0 ∷ 0 ∷ 0 ∷ [])

-- an answer room with a byte more than it needs
abbrev pub room : List ℕ
room = replicate 33 0xee

-- what the call leaves: `byte` in the scratch and 5a in MR, the answers and the spare byte, 8 steps with 3 resets
abbrev pub Call : ℕ → ℕ → ℕ → ℕ → Type 0
Call a b key byte =
    Traces (board a b key 0) layout (trace byte) room
    (board byte b key 0x5a) (answered ++ 0xee ∷ []) (Ok (record { steps = 8; resets = 3 }))

-- both calls are as demand 3 has them, and both are judged: the same answers, and each board keeps its own key and
-- scratch
pub record Demand3Witness : Type 0 where
  pub boards : Agree (layout_of layout) (board 0xb1 0xb2 0xa1 0) (board 0x1b 0x2b 0x1a 0)
  pub traces : SameTrace (layout_of layout) (trace 0xc1) (trace 0x1c)
  pub one : Call 0xb1 0xb2 0xa1 0xc1
  pub other : Call 0x1b 0x2b 0x1a 0x1c
  -- the byte that the traces store differs, and so does what then stands at XS's lowest address and at KR's
  pub sent : (get_or (trace 0xc1) 19 0 ≡ 0xc1) × (get_or (trace 0x1c) 19 0 ≡ 0x1c)
  pub scratch : (get_or (board 0xc1 0xb2 0xa1 0x5a) 0x03 0 ≡ 0xc1) × (get_or (board 0x1c 0x2b 0x1a 0x5a) 0x03 0 ≡ 0x1c)
  pub keys : (get_or (board 0xc1 0xb2 0xa1 0x5a) 0x26 0 ≡ 0xa1) × (get_or (board 0x1c 0x2b 0x1a 0x5a) 0x26 0 ≡ 0x1a)
