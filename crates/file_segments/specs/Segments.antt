-- The memory body of a run file: segments of start, length and bytes, and the memory that they describe.
-- Assumes nothing.
use Rattle.std.specs.Prelude.{Bool, ◌||◌, List, ℕ, zero, suc, ◌+◌, leb, ltb, eqb, length, get_or, take, drop, replicate, Ok}
use Rattle.std.proofs.lemmas.List.Edits.{sets}
use Rattle.notions.specs.Choice.{pick}
use Rattle.notions.specs.First.{first}
use Rattle.refusal.specs.Answers.{Answer, refused_at}
use Rattle.refusal.specs.declared.Reason.TheVariants.{Segment}
use Rattle.octets.specs.Numbers.{number_of_two}
use Rattle.layout.specs.Calls.{memory_bytes}

-- a segment's bytes before its contents: start (2) and length (2)
abbrev pub head_size : ℕ
head_size = 4

-- the start and the length that the segment at a place of the body names
abbrev pub start_at : List ℕ → ℕ → ℕ
start_at b p = number_of_two (get_or b p 0) (get_or b (p + 1) 0)

abbrev pub size_at : List ℕ → ℕ → ℕ
size_at b p = number_of_two (get_or b (p + 2) 0) (get_or b (p + 3) 0)

-- the place of segment k: behind the contents of the one before
unfoldable pub place : List ℕ → ℕ → ℕ
place b zero = 0
place b (suc k) = place b k + head_size + size_at b (place b k)

-- the address at which the segment before segment k ends
unfoldable pub reached : List ℕ → ℕ → ℕ
reached b zero = 0
reached b (suc k) = start_at b (place b k) + size_at b (place b k)

-- how many segments there are: the first number whose place is not in the body
unfoldable pub segments : List ℕ → ℕ
segments b = first (length b) (λ k. leb (length b) (place b k))

-- a segment fails if its four bytes run past the body, its length is 0, its contents run past the body, it starts
-- before the end of the one before, or it ends past 65,536; p is its place, and `end` where the one before ends
abbrev pub fails_at : List ℕ → ℕ → ℕ → Bool
fails_at b p end =
    ltb (length b) (p + head_size)
    || eqb (size_at b p) 0
    || ltb (length b) (p + head_size + size_at b p)
    || ltb (start_at b p) end
    || ltb memory_bytes (start_at b p + size_at b p)

unfoldable pub segment_fails : List ℕ → ℕ → Bool
segment_fails b k = fails_at b (place b k) (reached b k)

-- the first segment that fails; their number if none does
unfoldable pub first_wrong : List ℕ → ℕ
first_wrong b = first (segments b) (segment_fails b)

-- refusal 14
unfoldable pub segment_check : List ℕ → Answer
segment_check b = pick (ltb (first_wrong b) (segments b)) (refused_at Segment (first_wrong b)) (Ok tt)

-- the contents of the segment at a place: the bytes behind its head, as many of them as there are
abbrev pub contents_at : List ℕ → ℕ → List ℕ
contents_at b p = take (size_at b p) (drop (p + head_size) b)

-- n bytes of memory that hold what the first k segments say, as far as they reach: unnamed bytes are 0
unfoldable pub image : ℕ → List ℕ → ℕ → List ℕ
image n b zero = replicate n 0
image n b (suc k) = sets (image n b k) (start_at b (place b k)) (contents_at b (place b k))

-- the memory that a body describes
abbrev pub described : List ℕ → List ℕ
described b = image memory_bytes b (segments b)
