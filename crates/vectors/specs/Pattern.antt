-- The pattern whose first bytes are hashed: none is 0, since a 0 could get lost among the zeros that fill a block.
-- Assumes nothing.
use Rattle.std.specs.Prelude.{List, [], ◌∷◌, ◌++◌, ℕ, zero, suc, ◌+◌, ◌%◌}

-- its byte i
abbrev pub pattern_byte : ℕ → ℕ
pattern_byte i = i % 251 + 1

-- its first n bytes
unfoldable pub pattern_of : ℕ → List ℕ
pattern_of zero = []
pattern_of (suc n) = pattern_of n ++ (pattern_byte n ∷ [])
