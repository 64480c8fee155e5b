-- The contents of a run file: three entries, for layout, memory and trace, and the bodies that they name.
-- Assumes nothing.
use Rattle.std.specs.Prelude.{Bool, not, ◌&&◌, ◌||◌, List, ℕ, zero, suc, ◌+◌, ◌*◌, eqb, ltb, length, take, drop, Ok}
use Rattle.octets.specs.Numbers.{number_at}
use Rattle.notions.specs.Choice.{pick}
use Rattle.notions.specs.First.{first}
use Rattle.refusal.specs.Answers.{Answer, refused_at}
use Rattle.refusal.specs.declared.Reason.TheVariants.{Contents, FileSize}
use Rattle.layout.specs.Layouts.{layout_bytes}

-- the most bytes of a run file
abbrev pub largest_file : ℕ
largest_file = 49152

-- the bytes of the contents, the number of their entries, and the bytes of an entry and of each of its two numbers
abbrev pub contents_size : ℕ
contents_size = 24

abbrev pub entries : ℕ
entries = 3

abbrev pub entry_size : ℕ
entry_size = 8

abbrev pub number_size : ℕ
number_size = 4

-- the entries' numbers
abbrev pub layout_entry : ℕ
layout_entry = 0

abbrev pub memory_entry : ℕ
memory_entry = 1

abbrev pub trace_entry : ℕ
trace_entry = 2

-- the offset and the length that entry k names
abbrev pub offset : List ℕ → ℕ → ℕ
offset f k = number_at f (entry_size * k) number_size

abbrev pub size : List ℕ → ℕ → ℕ
size f k = number_at f (entry_size * k + number_size) number_size

-- bodies follow in that order from byte 24 without gaps
unfoldable pub begins : List ℕ → ℕ → ℕ
begins f zero = contents_size
begins f (suc k) = begins f k + size f k

-- an entry fails if its offset is another, its body runs past the file's end, entry 0's length is another, or entry 2
-- ends before the file does; `begin` is where its body has to begin
abbrev pub fails_from : List ℕ → ℕ → ℕ → Bool
fails_from f k begin =
    not (eqb (offset f k) begin)
    || ltb (length f) (begin + size f k)
    || eqb k layout_entry && not (eqb (size f k) layout_bytes)
    || eqb k trace_entry && ltb (begin + size f k) (length f)

unfoldable pub entry_fails : List ℕ → ℕ → Bool
entry_fails f k = fails_from f k (begins f k)

-- the first entry that fails, 3 if none does; a file under 24 bytes fails at entry 0
unfoldable pub first_failing : List ℕ → ℕ
first_failing f = pick (ltb (length f) contents_size) 0 (first entries (entry_fails f))

-- refusals 15 and 13
unfoldable pub file_check : List ℕ → Answer
file_check f =
    pick (ltb largest_file (length f)) (refused_at FileSize 0)
    (pick (ltb (first_failing f) entries) (refused_at Contents (first_failing f)) (Ok tt))

-- the body of entry k
unfoldable pub body : List ℕ → ℕ → List ℕ
body f k = take (size f k) (drop (begins f k) f)
