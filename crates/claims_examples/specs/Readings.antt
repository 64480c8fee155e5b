-- What the reader answers at a place: one table with each kind of answer, and one claim over it. Assumes nothing.
use Rattle.std.specs.Prelude.{◌≡◌, List, [], ◌∷◌, ◌++◌, map, ℕ, replicate}
use Rattle.reader.specs.Reading.{read_at, place_after, read_row}
use Rattle.claims_examples.specs.PageCase.{page_step}

-- a trace and a place, what is read there as a row, and the place afterwards
pub record Asked : Type 0 where
  pub trace : List ℕ
  pub place : ℕ
  pub told : List ℕ
  pub after : ℕ

abbrev reading : List ℕ → ℕ → List ℕ → ℕ → Asked
reading trace place told after = record { trace = trace; place = place; told = told; after = after }

-- a step that reads E001 with PC C000, and one with bit 5 of its flags set
abbrev two : List ℕ
two = page_step 0x00 0xc0 0x01 0xe0 0x00 0x00 0x01 ++ page_step 0x02 0xc0 0x00 0x00 0x00 0x00 0x20

abbrev pub readings : List Asked
readings =
    reading two 0 (0 ∷ 0xC000 ∷ 0xE001 ∷ 0 ∷ 1 ∷ 0 ∷ 0 ∷ 0 ∷ 0 ∷ 0 ∷ 0 ∷ []) 1
    ∷ reading two 1 (9 ∷ 1 ∷ []) 1
    ∷ reading two 2 (0 ∷ []) 2
    ∷ reading two 18446744073709551615 (0 ∷ []) 18446744073709551615
    ∷ reading (0 ∷ two) 1 (7 ∷ 0 ∷ []) 1
    ∷ reading (0 ∷ two) 5 (7 ∷ 0 ∷ []) 5
    ∷ reading (replicate 49152 0) 4096 (0 ∷ []) 4096
    ∷ reading (replicate 49164 0) 0 (7 ∷ 0 ∷ []) 0
    ∷ reading [] 0 (0 ∷ []) 0
    ∷ []

abbrev pub EachReading : Type 0
EachReading =
    (map (λ r. read_row (read_at r.trace r.place)) readings ≡ map (λ r. r.told) readings)
    × (map (λ r. place_after (read_at r.trace r.place) r.place) readings ≡ map (λ r. r.after) readings)
