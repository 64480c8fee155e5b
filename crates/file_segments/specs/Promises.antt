-- What the reading of a run file's segments promises, for all inputs. Assumes nothing.
use Rattle.std.specs.Prelude.{◌≡◌, List, ℕ, length}
use Rattle.refusal.specs.Answers.{Answer, row}
use Rattle.file_segments.specs.Segments.{segment_check, segments, image}

-- `check_segments`
abbrev pub ChecksSegments : List ℕ → Answer → Type 0
ChecksSegments b r = row r ≡ row (segment_check b)

-- `fill`: a memory of any size holds what all segments say, whether they fail or not; memory' is what stands in it
-- afterwards
abbrev pub Fills : List ℕ → List ℕ → List ℕ → Type 0
Fills b memory memory' = memory' ≡ image (length memory) b (segments b)
