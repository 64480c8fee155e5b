-- The rules page's case: its file, and the text that is printed of it. Assumes nothing.
use Rattle.std.specs.Prelude.{◌≡◌, List, [], ◌∷◌, ◌++◌, ℕ, ◌≤◌, length}
use Rattle.claims_monitor.specs.Marked.{page_bytes}
use Rattle.report.specs.Text.{header, file_text}

-- offset and length of a body, both under 256
abbrev pub entry : ℕ → ℕ → List ℕ
entry offset size = offset ∷ 0 ∷ 0 ∷ 0 ∷ size ∷ 0 ∷ 0 ∷ 0 ∷ []

-- the first seven bytes of a step; the other five are 0
abbrev pub page_step : ℕ → ℕ → ℕ → ℕ → ℕ → ℕ → ℕ → List ℕ
page_step a b c d e f g = a ∷ b ∷ c ∷ d ∷ e ∷ f ∷ g ∷ 0 ∷ 0 ∷ 0 ∷ 0 ∷ 0 ∷ []

abbrev pub file : List ℕ
file =
    entry 0x18 0x18 ++ entry 0x30 0x0b ++ entry 0x3b 0x54
    ++ page_bytes
    ++ (0x00 ∷ 0x6a ∷ 0x01 ∷ 0x00 ∷ 0x5a ∷ []) ++ (0x00 ∷ 0xe0 ∷ 0x02 ∷ 0x00 ∷ 0x11 ∷ 0x22 ∷ [])
    ++ page_step 0x00 0x00 0x00 0x00 0x00 0x00 0x00
    ++ page_step 0x00 0xc0 0x01 0xe0 0x00 0x00 0x01
    ++ page_step 0x02 0xc0 0x00 0x6a 0x00 0x00 0x01
    ++ page_step 0x04 0xc0 0x00 0x00 0x00 0x00 0x00
    ++ page_step 0x00 0x00 0x00 0x00 0x00 0xe0 0x08
    ++ page_step 0x00 0xa0 0x00 0x6a 0x00 0x00 0x01
    ++ page_step 0x06 0xc0 0x00 0x00 0x00 0x00 0x00

-- the header's line, then
--   0 0 - -
--   1 0 22 -
--   2 1 - -
--   3 15 - -
--   4 0 - 11
--   5 0 - -
--   6 2 - -
--   steps 7 resets 3
abbrev pub text : List ℕ
text =
    header
    ++ (48 ∷ 32 ∷ 48 ∷ 32 ∷ 45 ∷ 32 ∷ 45 ∷ 10 ∷ [])
    ++ (49 ∷ 32 ∷ 48 ∷ 32 ∷ 50 ∷ 50 ∷ 32 ∷ 45 ∷ 10 ∷ [])
    ++ (50 ∷ 32 ∷ 49 ∷ 32 ∷ 45 ∷ 32 ∷ 45 ∷ 10 ∷ [])
    ++ (51 ∷ 32 ∷ 49 ∷ 53 ∷ 32 ∷ 45 ∷ 32 ∷ 45 ∷ 10 ∷ [])
    ++ (52 ∷ 32 ∷ 48 ∷ 32 ∷ 45 ∷ 32 ∷ 49 ∷ 49 ∷ 10 ∷ [])
    ++ (53 ∷ 32 ∷ 48 ∷ 32 ∷ 45 ∷ 32 ∷ 45 ∷ 10 ∷ [])
    ++ (54 ∷ 32 ∷ 50 ∷ 32 ∷ 45 ∷ 32 ∷ 45 ∷ 10 ∷ [])
    ++ (115 ∷ 116 ∷ 101 ∷ 112 ∷ 115 ∷ 32 ∷ 55 ∷ 32 ∷ 114 ∷ 101 ∷ 115 ∷ 101 ∷ 116 ∷ 115 ∷ 32 ∷ 51 ∷ 10 ∷ [])

-- so it is with every memory of 65,536 bytes and every room for seven answers, whatever stands there
abbrev pub PageCase : Type 0
PageCase = (memory room : List ℕ) → length memory ≡ 65536 → 28 ≤ length room → file_text file memory room ≡ text
