-- `judge` on plain variables: what follows of a file from the judging of its bodies, and from a refusal of its
-- contents. Assumes nothing.
use mathlib.Core.Path.{◌≡◌, sym, ◌∙◌}
use mathlib.Core.List.{List}
use Prim.Native.Nat.{ℕ}
use lib.ListN.{length}
use Rattle.refusal.specs.Answers.{Answer, row}
use Rattle.refusal.proofs.Settled.{row_settled}
use Rattle.refusal.specs.declared.Refusal.{Refusal}
use Rattle.refusal.proofs.Order.{both_done}
use Rattle.layout.specs.Layouts.{layout_check}
use Rattle.layout.specs.Calls.{memory_bytes}
use Rattle.layout.proofs.Calls.{call_passed}
use Rattle.traces.specs.Traces.{trace_check}
use Rattle.file_contents.specs.Contents.{layout_entry, memory_entry, trace_entry, file_check, body}
use Rattle.file_segments.specs.Segments.{segment_check}
use Rattle.runfile.specs.Promises.{bodies_check, judge_check, Judges}
use Rattle.runfile.specs.Inner.{JudgesBodies}
use Rattle.file_contents.proofs.Entries.{Sound, sound}
use Rattle.std.specs.Prelude.{Err, Ok, Result}
use Rattle.monitor.specs.declared.Totals.{Totals}

-- what the check of the contents has answered
pub checked : (f : List ℕ) (a b : Answer) → row a ≡ row (file_check f) → a ≡ b → file_check f ≡ b
checked f a b e d = sym (row_settled a (file_check f) e) ∙ d

pub passed : (f : List ℕ) (a : Answer) → row a ≡ row (file_check f) → a ≡ Ok tt → Sound f
passed f a e d = sound f (checked f a (Ok tt) e d)

-- all that a file has passed that is judged
pub record Admitted (f memory room : List ℕ) : Type 0 where
  pub contents : file_check f ≡ Ok tt
  pub long : length memory ≡ memory_bytes
  pub layout : layout_check (body f layout_entry) ≡ Ok tt
  pub segments : segment_check (body f memory_entry) ≡ Ok tt
  pub trace : trace_check (body f trace_entry) (length room) ≡ Ok tt

pub admitted : (f memory room : List ℕ) → judge_check f memory room ≡ Ok tt → Admitted f memory room
unfolding judge_check bodies_check
admitted f memory room e =
    let p = both_done (file_check f) _ e in
    let q = call_passed memory (body f layout_entry) _ p.1 in
    let s = both_done (segment_check (body f memory_entry)) (trace_check (body f trace_entry) (length room)) q.2 in
    record { contents = p.0; long = q.0; layout = q.1; segments = s.0; trace = s.1 }

-- a file whose contents pass earns what its bodies earn
pub bodies_judged : (f memory room : List ℕ) → file_check f ≡ Ok tt
    → judge_check f memory room ≡ bodies_check (body f layout_entry) (body f memory_entry) (body f trace_entry) memory room
unfolding judge_check
bodies_judged f memory room e = simp e

pub contents_refused : (f memory room : List ℕ) (x : Refusal) → file_check f ≡ Err x
    → judge_check f memory room ≡ Err x
unfolding judge_check
contents_refused f memory room x e = simp e

pub judged : (f layout segments trace memory room memory' room' : List ℕ) (r : Result Totals Refusal) → file_check f ≡ Ok tt
    → layout ≡ body f layout_entry → segments ≡ body f memory_entry → trace ≡ body f trace_entry
    → JudgesBodies layout segments trace memory room memory' room' r
    → Judges f memory room memory' room' r
judged f layout segments trace memory room memory' room' r e el es et d =
    let c = bodies_judged f memory room e in
    let b = rw (el, es, et) at d in
    record { answered = simp c b.answered; memory_left = simp c b.memory_left; room_left = simp c b.room_left }

pub refused : (f memory room : List ℕ) (x : Refusal) → file_check f ≡ Err x
    → Judges f memory room memory room (Err x)
refused f memory room x e =
    let c = contents_refused f memory room x e in
    record { answered = simp c; memory_left = simp c; room_left = simp c }
