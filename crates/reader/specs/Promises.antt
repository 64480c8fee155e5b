-- What the functions of the step reader promise, for all inputs. Assumes nothing.
use Rattle.std.specs.Prelude.{◌≡◌, List, ℕ}
use Rattle.std.specs.Borrow.{Bor}
use Rattle.reader.specs.declared.Advance.{Advance}
use Rattle.reader.specs.declared.StepReader.{StepReader}
use Rattle.reader.specs.Reading.{Read, read_at, place_after, read_row}

-- `step_at`
pub record ReadsAt (trace : List ℕ) (place : ℕ) (r : Read) : Type 0 where
  pub answered : read_row r ≡ read_row (read_at trace place)

-- `next_at`: the answer, and the place after it
pub record Advances (trace : List ℕ) (place : ℕ) (r : Advance) : Type 0 where
  pub answered : read_row r.read ≡ read_row (read_at trace place)
  pub moved : r.place ≡ place_after (read_at trace place) place

-- `StepReader::new`
pub record Begins (trace : Bor (List ℕ)) (r : StepReader) : Type 0 where
  pub holds : r.trace ≡ trace
  pub at_first : r.place ≡ 0

-- `StepReader::next`: what `next_at` promises, of the trace that is held and of the reader's place before and after
pub record Reads (h h' : StepReader) (r : Read) : Type 0 where
  pub advanced : Advances h.trace.now h.place (record { read = r; place = h'.place })
  pub holds : h'.trace ≡ h.trace
