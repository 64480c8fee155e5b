-- The bodies of a file, on plain variables: the checks one after another, and the run. Assumes nothing.
use mathlib.Core.Path.{◌≡◌, ap, sym, ◌∙◌}
use mathlib.Core.List.{List}
use Prim.Native.Nat.{ℕ, ◌*◌, ◌≤◌}
use lib.ListN.{length}
use Rattle.refusal.specs.Answers.{Answer, row, and_then}
use Rattle.refusal.proofs.Settled.{row_settled}
use Rattle.refusal.specs.declared.Refusal.{Refusal}
use Rattle.refusal.proofs.Order.{both_done}
use Rattle.layout.specs.declared.Layout.{Layout}
use Rattle.layout.specs.Layouts.{layout_of}
use Rattle.layout.specs.Calls.{memory_bytes}
use Rattle.layout.specs.Promises.{Admits}
use Rattle.layout.proofs.Calls.{call_passed, admitted_good, admitted_refused}
use Rattle.traces.specs.Traces.{answer_size, count}
use Rattle.traces.specs.Traces.{trace_check}
use Rattle.traces.specs.Promises.{Fits}
use Rattle.monitor.specs.Promises.{Runs}
use Rattle.traces.proofs.Checks.{trace_passed}
use Rattle.monitor.proofs.Calls.{run_passes}
use Rattle.file_segments.specs.Segments.{segments, segment_check, image, described}
use Rattle.file_segments.specs.Promises.{Fills}
use Rattle.runfile.specs.Promises.{bodies_check}
use Rattle.runfile.specs.Inner.{JudgesBodies}
use Rattle.file_segments.proofs.Described.{length_described}
use Rattle.std.specs.Prelude.{Err, Ok, Result}
use Rattle.monitor.specs.declared.Totals.{Totals}

-- ---- the segments, and then the trace

abbrev rest : List ℕ → List ℕ → ℕ → Answer
rest body trace room = and_then (segment_check body) (trace_check trace room)

-- the check of the segments has answered a, and then that of the trace r
module _ (body trace : List ℕ) (room : ℕ) (a : Answer) (e : row a ≡ row (segment_check body)) where
  pub then_done : (r : Answer) → a ≡ Ok tt → Fits trace room r → row r ≡ row (rest body trace room)
  then_done r d f = simp (sym (row_settled a (segment_check body) e) ∙ d) f.answered

  pub then_refused : (r : Refusal) → a ≡ Err r → row (Err r) ≡ row (rest body trace room)
  then_refused r d = simp (sym (row_settled a (segment_check body) e) ∙ d)

-- ---- the call

module _ (layout body trace memory room : List ℕ) where
  -- all that was checked
  pub record Passed (l : Layout) : Type 0 where
    pub check : bodies_check layout body trace memory room ≡ Ok tt
    pub read : l ≡ layout_of layout
    pub long : length memory ≡ memory_bytes
    pub roomy : answer_size * count trace ≤ length room

  pub passed : (l : Layout) → Admits memory layout (rest body trace (length room)) (Ok l) → Passed l
  unfolding bodies_check
  passed l e =
      let g = admitted_good memory layout (rest body trace (length room)) l e in
      let p = call_passed memory layout (rest body trace (length room)) g.0 in
      let q = both_done (segment_check body) (trace_check trace (length room)) p.2 in
      record { check = g.0; read = g.1; long = p.0; roomy = (trace_passed trace (length room) q.1).roomy }

  -- the run on the memory that was filled: it is not refused
  pub judged : (l : Layout) (memory₁ memory' room' : List ℕ) (r : Result Totals Refusal) → Passed l → Fills body memory memory₁
      → Runs l trace memory₁ room memory' room' r → JudgesBodies layout body trace memory room memory' room' r
  judged l memory₁ memory' room' r p f d =
      let filled : memory₁ ≡ described body = f ∙ ap (λ (n : ℕ). image n body (segments body)) p.long in
      let c = run_passes trace (described body) (length room) (length_described body) p.roomy in
      let q : Runs (layout_of layout) trace (described body) room memory' room' r = rw (filled, p.read) at d in
      record {
        answered = simp p.check (simp c at q.answered);
        memory_left = simp p.check (simp c at q.memory_left);
        room_left = simp p.check (simp c at q.room_left);
      }

  pub refused : (r : Refusal) → Admits memory layout (rest body trace (length room)) (Err r)
      → JudgesBodies layout body trace memory room memory room (Err r)
  unfolding bodies_check
  refused r e =
      let g = admitted_refused memory layout (rest body trace (length room)) r e in
      record { answered = simp g; memory_left = simp g; room_left = simp g }
