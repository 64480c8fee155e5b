-- FIPS 180-4, 2.2.2, 3.1 and 3.2: words, and the operations on them.
-- A word is a number below 2 ^ 32, a byte one below 2 ^ 8.
-- Assumes nothing.
use Rattle.std.specs.Prelude.{ℕ, zero, suc, ◌+◌, ◌-◌, ◌*◌, ◌/◌, ◌%◌, ◌^◌, List, [], ◌∷◌, ◌++◌, bit_or, slice_index}

-- 3.1: the word of the four bytes from i on, the first byte heaviest
unfoldable pub word : List ℕ → ℕ → ℕ
word m i = slice_index m i * 2 ^ 24 + slice_index m (i + 1) * 2 ^ 16 + slice_index m (i + 2) * 2 ^ 8 + slice_index m (i + 3)

-- the first n words of the bytes m
unfoldable pub words : List ℕ → ℕ → List ℕ
words m zero = []
words m (suc n) = words m n ++ (word m (n * 4) ∷ [])

-- 3.1: the n low bytes of x, the heaviest first
unfoldable pub bytes : ℕ → ℕ → List ℕ
bytes zero x = []
bytes (suc n) x = x / 2 ^ (n * 8) % 2 ^ 8 ∷ bytes n x

-- 3.2, 1: AND, OR and XOR of words are the library's on the bits of numbers; this is NOT
abbrev pub complement : ℕ → ℕ
complement x = 2 ^ 32 - 1 - x

-- 3.2, 2: the sum of two words, modulo 2 ^ 32
unfoldable pub add : ℕ → ℕ → ℕ
add x y = (x + y) % 2 ^ 32

-- 3.2, 3: x shifted right by n, SHR
abbrev pub shr : ℕ → ℕ → ℕ
shr n x = x / 2 ^ n

-- 3.2, 4: x rotated right by n, ROTR
abbrev pub rotr : ℕ → ℕ → ℕ
rotr n x = bit_or (shr n x) (x * 2 ^ (32 - n) % 2 ^ 32)
