-- What the reading of a run file's contents promises, for all inputs. Assumes nothing.
use Rattle.std.specs.Prelude.{◌≡◌, List, ℕ}
use Rattle.refusal.specs.Answers.{Answer, row}
use Rattle.file_contents.specs.Contents.{trace_entry, begins, file_check}

-- `check_contents`
abbrev pub ChecksContents : List ℕ → Answer → Type 0
ChecksContents f r = row r ≡ row (file_check f)

-- `trace_begins`: by the lengths that entries 0 and 1 name
abbrev pub BeginsTrace : List ℕ → ℕ → Type 0
BeginsTrace f r = r ≡ begins f trace_entry
