-- A state of the running hash as bytes, as the program `calls` takes and prints it. Assumes nothing.
use Rattle.std.specs.Prelude.{List, [], ◌∷◌, ◌++◌, ℕ, zero, suc, ◌+◌, ◌*◌, take, drop}
use Rattle.sha256.specs.declared.Sha.{Sha}
use Rattle.sha256.specs.Running.{block_of}
use Rattle.octets.specs.Numbers.{number, little, number_at}

-- a state: eight words of four bytes, the block of 64, the total in eight
abbrev pub word_count : ℕ
word_count = 8

abbrev pub word_bytes : ℕ
word_bytes = 4

abbrev pub block_at : ℕ
block_at = word_count * word_bytes

abbrev pub total_at : ℕ
total_at = block_at + 64

abbrev pub total_bytes : ℕ
total_bytes = 8

abbrev pub state_length : ℕ
state_length = total_at + total_bytes

-- k words
unfoldable pub words_of : ℕ → List ℕ → List ℕ
words_of zero b = []
words_of (suc k) b = number (take word_bytes b) ∷ words_of k (drop word_bytes b)

unfoldable pub words_bytes : List ℕ → List ℕ
words_bytes [] = []
words_bytes (w ∷ ws) = little word_bytes w ++ words_bytes ws

-- the state that bytes stand for; bytes that are missing count as 0
unfoldable pub state_of : List ℕ → Sha
state_of b = record {
  words = words_of word_count b;
  block = block_of (drop block_at b);
  total = number_at b total_at total_bytes;
}

unfoldable pub state_bytes : Sha → List ℕ
state_bytes s = words_bytes s.words ++ s.block ++ little total_bytes s.total
