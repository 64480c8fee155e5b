-- Numbers in bytes, the lightest byte first. Assumes nothing.
use Rattle.std.specs.Prelude.{List, [], ◌∷◌, ℕ, zero, suc, ◌+◌, ◌*◌, ◌/◌, ◌%◌, take, drop}

-- the number that bytes stand for
unfoldable pub number : List ℕ → ℕ
number [] = 0
number (b ∷ bs) = b + 256 * number bs

-- a number in k bytes
unfoldable pub little : ℕ → ℕ → List ℕ
little zero n = []
little (suc k) n = n % 256 ∷ little k (n / 256)

-- the number that k bytes from a place on stand for; bytes that are missing count as 0
abbrev pub number_at : List ℕ → ℕ → ℕ → ℕ
number_at b p k = number (take k (drop p b))

-- the most bytes that a number is read from
abbrev pub number_bytes : ℕ
number_bytes = 8

-- the number of two bytes; `two_number` shows that this is no other notion
abbrev pub number_of_two : ℕ → ℕ → ℕ
number_of_two low high = low + 256 * high
