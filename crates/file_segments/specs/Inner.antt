-- The walk over a body's segments: the place of each in turn, while it is in the body. Assumes nothing.
use Rattle.std.specs.Prelude.{◌≡◌, ℕ, ◌+◌, ◌≤◌, ◌<◌, length, Option, Some, None}
use Rattle.file_segments.specs.declared.Places.{Places}
use Rattle.file_segments.specs.Segments.{head_size, size_at}

-- what a turn of the walk gives, and where it goes on
abbrev pub GivesPlace : Places → Option ℕ → Places → Type 0
GivesPlace s None t = length s.body.now ≤ s.at
GivesPlace s (Some p) t =
    (p ≡ s.at) × (s.at < length s.body.now) × (t.body ≡ s.body) × (t.at ≡ s.at + head_size + size_at s.body.now s.at)
