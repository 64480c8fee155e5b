-- What the calls for one step and for a trace promise, and what they offer to the crates above, for all inputs. Assumes nothing.
use Rattle.std.specs.Prelude.{◌≡◌, not, List, [], ◌∷◌, ◌++◌, ℕ, ◌*◌, eqb, ltb, length, drop, Err, Ok, Result}
use Rattle.notions.specs.Choice.{pick}
use Rattle.refusal.specs.Answers.{Answer, refusal_row, refused_at, told, after_call}
use Rattle.refusal.specs.declared.Reason.TheVariants.{MemorySize, RoomSize}
use Rattle.layout.specs.declared.Layout.{Layout}
use Rattle.layout.specs.Layouts.{layout_of}
use Rattle.layout.specs.Calls.{memory_bytes, call_check}
use Rattle.rules.specs.declared.Monitor.{Monitor}
use Rattle.effects.specs.Effects.{bytes}
use Rattle.traces.specs.Traces.{answer_size, count, steps, trace_check, step_check}
use Rattle.monitor.specs.declared.Totals.{Totals}
use Rattle.monitor.specs.Decisions.{next, decided_answer, decided_memory}
use Rattle.monitor.specs.Runs.{memory_after, room_after, totals}
use Rattle.refusal.specs.declared.Refusal.{Refusal}

-- ---- refusals

-- what the call for a trace refuses, and what the one for a step: 1, the layout's 2 to 6, and then 7 to 9
abbrev pub trace_call_check : List ℕ → List ℕ → List ℕ → List ℕ → Answer
trace_call_check memory layout trace room = call_check memory layout (trace_check trace (length room))

abbrev pub step_call_check : List ℕ → List ℕ → List ℕ → List ℕ → Answer
step_call_check memory layout step room = call_check memory layout (step_check step (length room))

-- refusals 1 and 8 of a run with a layout that has been read
unfoldable pub run_check : List ℕ → List ℕ → ℕ → Answer
run_check memory trace room =
    pick (not (eqb (length memory) memory_bytes)) (refused_at MemorySize 0)
    (pick (ltb room (answer_size * count trace)) (refused_at RoomSize 0) (Ok tt))

-- ---- answers

-- the steps and the resets
abbrev pub totals_values : Totals → List ℕ
totals_values t = t.steps ∷ t.resets ∷ []

-- 0 and these, or the refusal's number and place
abbrev pub traced_row : Result Totals Refusal → List ℕ
traced_row (Ok t) = 0 ∷ totals_values t
traced_row (Err r) = refusal_row r

-- what the monitor remembers: held as 1 or 0, and the PC
abbrev pub remembered : Monitor → List ℕ
remembered m = pick m.held 1 0 ∷ m.lastpc ∷ []

-- 0 and what the monitor then remembers, or the refusal's number and place
abbrev pub stepped_row : Result Monitor Refusal → List ℕ
stepped_row (Ok m) = 0 ∷ remembered m
stepped_row (Err r) = refusal_row r

-- ---- the calls: memory and room are lent, and memory' and room' are what stands there afterwards

-- `trace`
pub record Traces (memory layout trace room memory' room' : List ℕ) (r : Result Totals Refusal) : Type 0 where
  pub answered :
      traced_row r ≡ told (trace_call_check memory layout trace room) (totals_values (totals (layout_of layout) trace memory))
  pub memory_left :
      memory' ≡ after_call (trace_call_check memory layout trace room) (memory_after (layout_of layout) trace memory) memory
  pub room_left :
      room' ≡ after_call (trace_call_check memory layout trace room) (room_after (layout_of layout) trace memory room) room

-- `step`, from whatever the monitor m remembers
pub record Steps (memory layout step : List ℕ) (m : Monitor) (room memory' room' : List ℕ) (r : Result Monitor Refusal) : Type 0 where
  pub answered :
      stepped_row r ≡ told (step_call_check memory layout step room) (remembered (next (layout_of layout) m (steps step 0)))
  pub memory_left :
      memory'
      ≡ after_call (step_call_check memory layout step room) (decided_memory (layout_of layout) m (steps step 0) memory) memory
  pub room_left :
      room'
      ≡ after_call (step_call_check memory layout step room)
      (bytes (decided_answer (layout_of layout) m (steps step 0) memory) ++ drop answer_size room)
      room

-- `run_with`, the run alone: whatever the steps' zero bits and bytes are, and however many there are
pub record Runs (l : Layout) (trace memory room memory' room' : List ℕ) (r : Result Totals Refusal) : Type 0 where
  pub answered : traced_row r ≡ told (run_check memory trace (length room)) (totals_values (totals l trace memory))
  pub memory_left : memory' ≡ after_call (run_check memory trace (length room)) (memory_after l trace memory) memory
  pub room_left : room' ≡ after_call (run_check memory trace (length room)) (room_after l trace memory room) room
