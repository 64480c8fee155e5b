-- What the contracts of this crate's own functions say; no other crate needs it. Assumes nothing.
use Rattle.std.specs.Prelude.{◌≡◌, List, ℕ, Result}
use Rattle.refusal.specs.Answers.{told, after_call}
use Rattle.layout.specs.Layouts.{layout_of}
use Rattle.monitor.specs.Runs.{memory_after, room_after, totals}
use Rattle.monitor.specs.Promises.{totals_values, traced_row}
use Rattle.file_segments.specs.Segments.{described}
use Rattle.runfile.specs.Promises.{bodies_check}
use Rattle.monitor.specs.declared.Totals.{Totals}
use Rattle.refusal.specs.declared.Refusal.{Refusal}

-- behind `judge`, what the three bodies come to; memory and room are lent, and memory' and room' are what stands there
-- afterwards
pub record JudgesBodies (layout segments trace memory room memory' room' : List ℕ) (r : Result Totals Refusal) : Type 0 where
  pub answered :
      traced_row r
      ≡ told (bodies_check layout segments trace memory room)
      (totals_values (totals (layout_of layout) trace (described segments)))
  pub memory_left :
      memory'
      ≡ after_call (bodies_check layout segments trace memory room)
      (memory_after (layout_of layout) trace (described segments)) memory
  pub room_left :
      room'
      ≡ after_call (bodies_check layout segments trace memory room)
      (room_after (layout_of layout) trace (described segments) room) room
