-- For each refusal number a call that is refused with it: its inputs, its answer, and what it leaves. Assumes nothing.
use Rattle.std.specs.Prelude.{◌≡◌, List, [], ◌∷◌, ◌++◌, ℕ, replicate, Err}
use Rattle.refusal.specs.Numbers.{number}
use Rattle.refusal.specs.declared.Reason.{Reason}
use Rattle.refusal.specs.declared.Reason.TheVariants.{MemorySize, LayoutSize, RegionReversed, RegionSize, ZeroInCode}
use Rattle.refusal.specs.declared.Reason.TheVariants.{RegionsShare, TraceSize, RoomSize, StepNotZero}
use Rattle.refusal.specs.declared.Reason.TheVariants.{ChallengeNotGreater, TokenDiffers, LengthOrTotal}
use Rattle.refusal.specs.declared.Reason.TheVariants.{Contents, Segment, FileSize}
use Rattle.refusal.specs.declared.Refusal.{Refusal}
use Rattle.layout.specs.Promises.{Checks}
use Rattle.monitor.specs.Promises.{Traces}
use Rattle.board.specs.Promises.{Attests}
use Rattle.station.specs.Promises.{MakesToken}
use Rattle.runfile.specs.Promises.{Judges}
use Rattle.claims_monitor.specs.Marked.{page_bytes}
use Rattle.claims_monitor.specs.Witness as small
use Rattle.claims_monitor.specs.Witness.{region_bytes}
use Rattle.claims_examples.specs.PageCase.{entry}

-- the refusal for this reason at this place
abbrev refusal : Reason → ℕ → Refusal
refusal n p = record { reason = n; place = p }

abbrev pub zero_bytes : ℕ → List ℕ
zero_bytes n = replicate n 0

-- a memory of zeros
unfoldable pub zero_memory : List ℕ
zero_memory = zero_bytes 65536

-- the small layout with another CR, MR, CTR or AR
abbrev small_with : List ℕ → List ℕ → List ℕ → List ℕ → List ℕ
small_with cr mr ctr ar = cr ++ region_bytes 0x26 0x65 ++ region_bytes 0x03 0x04 ++ mr ++ ctr ++ ar

-- AR's lowest address is above its highest
abbrev pub backward : List ℕ
backward = small_with (region_bytes 0x01 0x02) (region_bytes 0x66 0xc5) (region_bytes 0xc6 0xe5) (region_bytes 0x25 0x05)

-- MR has 95 bytes
abbrev pub narrow : List ℕ
narrow = small_with (region_bytes 0x01 0x02) (region_bytes 0x66 0xc4) (region_bytes 0xc6 0xe5) (region_bytes 0x05 0x25)

-- CR holds address 0
abbrev pub zeroed : List ℕ
zeroed = small_with (region_bytes 0x00 0x02) (region_bytes 0x66 0xc5) (region_bytes 0xc6 0xe5) (region_bytes 0x05 0x25)

-- CTR begins with MR's last address
abbrev pub shared : List ℕ
shared = small_with (region_bytes 0x01 0x02) (region_bytes 0x66 0xc5) (region_bytes 0xc5 0xe4) (region_bytes 0x05 0x25)

-- two steps, of which the second has bit 5 of its flags set
abbrev pub unclean_trace : List ℕ
unclean_trace = zero_bytes 12 ++ zero_bytes 6 ++ 32 ∷ zero_bytes 5

-- a file with the page's layout and no trace, whose second segment starts before the end of the first
abbrev pub overlapping : List ℕ
overlapping =
    entry 24 24 ++ entry 48 11 ++ entry 59 0 ++ page_bytes
    ++ (0x00 ∷ 0x10 ∷ 2 ∷ 0 ∷ 0xaa ∷ 0xbb ∷ [])
    ++ (0x01 ∷ 0x10 ∷ 1 ∷ 0 ∷ 0xcc ∷ [])

pub record EachRefusal : Type 0 where
  -- the reasons have the page's numbers
  pub numbers :
      number MemorySize ∷ number LayoutSize ∷ number RegionReversed ∷ number RegionSize ∷ number ZeroInCode
      ∷ number RegionsShare ∷ number TraceSize ∷ number RoomSize ∷ number StepNotZero ∷ number ChallengeNotGreater
      ∷ number TokenDiffers ∷ number LengthOrTotal ∷ number Contents ∷ number Segment ∷ number FileSize ∷ []
      ≡ 1 ∷ 2 ∷ 3 ∷ 4 ∷ 5 ∷ 6 ∷ 7 ∷ 8 ∷ 9 ∷ 10 ∷ 11 ∷ 12 ∷ 13 ∷ 14 ∷ 15 ∷ []
  pub memory_size : Traces [] page_bytes [] [] [] [] (Err (refusal MemorySize 0))
  pub layout_size : Checks [] (Err (refusal LayoutSize 0))
  pub region_reversed : Checks backward (Err (refusal RegionReversed 5))
  pub region_size : Checks narrow (Err (refusal RegionSize 3))
  pub zero_in_code : Checks zeroed (Err (refusal ZeroInCode 0))
  pub regions_share : Checks shared (Err (refusal RegionsShare 0))
  pub trace_size : Traces zero_memory page_bytes (zero_bytes 13) [] zero_memory [] (Err (refusal TraceSize 0))
  pub room_size : Traces zero_memory page_bytes (zero_bytes 12) (zero_bytes 3) zero_memory (zero_bytes 3)
      (Err (refusal RoomSize 0))
  pub step_not_zero : Traces zero_memory page_bytes unclean_trace (zero_bytes 8) zero_memory (zero_bytes 8)
      (Err (refusal StepNotZero 1))
  -- challenge and CTR are 32 zeros
  pub challenge_not_greater : Attests (small.board 0 0 0 0) small.layout (small.board 0 0 0 0)
      (Err (refusal ChallengeNotGreater 0))
  -- the challenge begins with 1, and the token is 32 zeros
  pub token_differs : Attests (small.board 0 0 0 1) small.layout (small.board 0 0 0 1) (Err (refusal TokenDiffers 0))
  pub length_or_total : MakesToken (zero_bytes 63) (zero_bytes 32)
      (Err (refusal LengthOrTotal 0))
  pub contents : Judges (zero_bytes 23) [] [] [] [] (Err (refusal Contents 0))
  pub segment : Judges overlapping zero_memory [] zero_memory [] (Err (refusal Segment 1))
  pub file_size : Judges (zero_bytes 49153) [] [] [] [] (Err (refusal FileSize 0))
