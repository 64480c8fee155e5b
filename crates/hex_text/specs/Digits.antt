-- Bytes in hexadecimal digits. Assumes nothing.
use Rattle.std.specs.Prelude.{List, [], ◌∷◌, ◌++◌, ℕ}
use Rattle.io.specs.Digits.{last_digits}

abbrev pub base : ℕ
base = 16

-- each byte in two lower-case digits
abbrev pub byte_digits : ℕ
byte_digits = 2

unfoldable pub hex_text : List ℕ → List ℕ
hex_text [] = []
hex_text (b ∷ bs) = last_digits base byte_digits b ++ hex_text bs
