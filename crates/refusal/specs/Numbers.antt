-- The rules page's refusal numbers, each under a name that says when it is given.
-- Assumes nothing.
use Rattle.std.specs.Prelude.{ℕ}
use Rattle.refusal.specs.declared.Reason.{Reason}
use Rattle.refusal.specs.declared.Reason.TheVariants.{MemorySize, LayoutSize, RegionReversed, RegionSize, ZeroInCode}
use Rattle.refusal.specs.declared.Reason.TheVariants.{RegionsShare, TraceSize, RoomSize, StepNotZero}
use Rattle.refusal.specs.declared.Reason.TheVariants.{ChallengeNotGreater, TokenDiffers, LengthOrTotal}
use Rattle.refusal.specs.declared.Reason.TheVariants.{Contents, Segment, FileSize}

abbrev pub number : Reason → ℕ
-- memory not 65,536 bytes
number MemorySize = 1
-- layout not 24 bytes
number LayoutSize = 2
-- a region's lowest address above its highest
number RegionReversed = 3
-- the size of KR, MR or CTR
number RegionSize = 4
-- CR holds address 0
number ZeroInCode = 5
-- two regions that may not share an address do
number RegionsShare = 6
-- trace not a multiple of 12 bytes, or over 4,096 steps; one step not 12 bytes
number TraceSize = 7
-- answer room too small
number RoomSize = 8
-- a zero bit or byte of a step is set
number StepNotZero = 9
-- challenge not greater than CTR
number ChallengeNotGreater = 10
-- token differs
number TokenDiffers = 11
-- a length of key, challenge, token, reply, region or message, or a running total
number LengthOrTotal = 12
-- contents of a run file
number Contents = 13
-- a memory segment
number Segment = 14
-- run file over 49,152 bytes
number FileSize = 15
