-- Nothing is lost: bytes that are read as a number are written back as they were.
-- And a word is a number of two bytes. Assumes nothing.
use Rattle.std.specs.Prelude.{◌≡◌, List, ℕ, ◌+◌, ◌<◌, ◌^◌, length, get_or}
use Rattle.notions.specs.Bytes.{Bytes}
use Rattle.octets.specs.Numbers.{number, little, number_at, number_of_two}

-- bytes are those of their number, and a number is that of its bytes
abbrev pub BytesBack : Type 0
BytesBack = (b : List ℕ) → Bytes b → little (length b) (number b) ≡ b

abbrev pub NumberBack : Type 0
NumberBack = (k n : ℕ) → n < 256 ^ k → number (little k n) ≡ n

abbrev pub TwoNumber : Type 0
TwoNumber = (b : List ℕ) (p : ℕ) → number_at b p 2 ≡ number_of_two (get_or b p 0) (get_or b (p + 1) 0)
