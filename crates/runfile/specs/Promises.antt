-- What the judging of a run file promises, for all inputs. Assumes nothing.
use Rattle.std.specs.Prelude.{◌≡◌, List, ℕ, length, Result}
use Rattle.refusal.specs.Answers.{Answer, and_then, told, after_call}
use Rattle.layout.specs.declared.Layout.{Layout}
use Rattle.layout.specs.Layouts.{layout_of}
use Rattle.layout.specs.Calls.{call_check}
use Rattle.monitor.specs.declared.Totals.{Totals}
use Rattle.monitor.specs.Runs.{memory_after, room_after, totals}
use Rattle.traces.specs.Traces.{trace_check}
use Rattle.monitor.specs.Promises.{totals_values, traced_row}
use Rattle.file_contents.specs.Contents.{layout_entry, memory_entry, trace_entry, file_check, body}
use Rattle.file_segments.specs.Segments.{segment_check, described}
use Rattle.refusal.specs.declared.Refusal.{Refusal}

-- the layout, the memory and the trace that a file holds
abbrev pub file_layout : List ℕ → Layout
file_layout f = layout_of (body f layout_entry)

abbrev pub file_memory : List ℕ → List ℕ
file_memory f = described (body f memory_entry)

abbrev pub file_trace : List ℕ → List ℕ
file_trace f = body f trace_entry

-- what the three bodies earn: 1, the layout's, 14, 7, 8, 9; a layout body has 24 bytes, so 2 is never given
unfoldable pub bodies_check : List ℕ → List ℕ → List ℕ → List ℕ → List ℕ → Answer
bodies_check layout segments trace memory room =
    call_check memory layout (and_then (segment_check segments) (trace_check trace (length room)))

-- 15 and 13 come first for files
unfoldable pub judge_check : List ℕ → List ℕ → List ℕ → Answer
judge_check f memory room =
    and_then (file_check f) (bodies_check (body f layout_entry) (body f memory_entry) (body f trace_entry) memory room)

-- what a file leaves that is judged: the totals, and what stands in the memory and in the room
abbrev pub file_totals : List ℕ → Totals
file_totals f = totals (file_layout f) (file_trace f) (file_memory f)

abbrev pub memory_left : List ℕ → List ℕ → List ℕ → List ℕ
memory_left f memory room =
    after_call (judge_check f memory room) (memory_after (file_layout f) (file_trace f) (file_memory f)) memory

abbrev pub room_left : List ℕ → List ℕ → List ℕ → List ℕ
room_left f memory room =
    after_call (judge_check f memory room) (room_after (file_layout f) (file_trace f) (file_memory f) room) room

-- `judge`: memory and room are lent, and memory' and room' are what stands there afterwards
pub record Judges (file memory room memory' room' : List ℕ) (r : Result Totals Refusal) : Type 0 where
  pub answered : traced_row r ≡ told (judge_check file memory room) (totals_values (file_totals file))
  pub memory_left : memory' ≡ memory_left file memory room
  pub room_left : room' ≡ room_left file memory room
