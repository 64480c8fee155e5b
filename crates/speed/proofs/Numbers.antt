-- The number that a call's row begins with, on plain variables. Assumes nothing.
use mathlib.Core.Path.{◌≡◌, refl, ap, ◌∙◌}
use mathlib.Core.List.{List}
use Prim.Native.Nat.{ℕ}
use lib.ListN.{length, get_or}
use Rattle.refusal.specs.Answers.{Answer, row, told}
use Rattle.layout.specs.Layouts.{layout_of}
use Rattle.layout.specs.Calls.{call_check}
use Rattle.board.specs.Promises.{Attests}
use Rattle.monitor.specs.Runs.{totals}
use Rattle.monitor.specs.Promises.{totals_values, traced_row, Traces}
use Rattle.traces.specs.Traces.{trace_check}
use Rattle.runfile.specs.Promises.{judge_check, file_totals, Judges}
use Rattle.speed.specs.Promises.{number_of, answer_number, traced_number, NumbersAttest, NumbersTrace, NumbersJudge}
use Rattle.std.specs.Prelude.{Err, Ok, Result}
use Rattle.monitor.specs.declared.Totals.{Totals}
use Rattle.refusal.specs.declared.Refusal.{Refusal}

-- the number of a call's check, whatever values the call tells
told_number : (a : Answer) (v : List ℕ) → get_or (told a v) 0 0 ≡ answer_number a
told_number (Ok _) v = refl
told_number (Err x) v = refl

answered_number : (o : Answer) → number_of o ≡ answer_number o
answered_number (Ok _) = refl
answered_number (Err x) = refl

traced_number_lem : (o : Result Totals Refusal) → number_of o ≡ traced_number o
traced_number_lem (Ok _) = refl
traced_number_lem (Err x) = refl

begins : (r : ℕ) (x y : List ℕ) → r ≡ get_or x 0 0 → x ≡ y → r ≡ get_or y 0 0
begins r x y n e = n ∙ ap (λ (z : List ℕ). get_or z 0 0) e

pub attest_number : (memory layout memory' : List ℕ) (o : Answer) (r : ℕ)
    → Attests memory layout memory' o → r ≡ number_of o
    → NumbersAttest memory layout memory' r
attest_number memory layout memory' o r j n =
    record { answered = begins r (row o) _ (n ∙ answered_number o) j.answered; memory_left = j.memory_left }

pub trace_number : (memory layout trace room memory' room' : List ℕ) (o : Result Totals Refusal) (r : ℕ)
    → Traces memory layout trace room memory' room' o → r ≡ number_of o
    → NumbersTrace memory layout trace room memory' room' r
trace_number memory layout trace room memory' room' o r j n =
    record {
      answered = begins r (traced_row o) _ (n ∙ traced_number_lem o) j.answered
          ∙ told_number (call_check memory layout (trace_check trace (length room)))
          (totals_values (totals (layout_of layout) trace memory));
      memory_left = j.memory_left;
      room_left = j.room_left;
    }

pub judge_number : (file memory room memory' room' : List ℕ) (o : Result Totals Refusal) (r : ℕ)
    → Judges file memory room memory' room' o → r ≡ number_of o
    → NumbersJudge file memory room memory' room' r
judge_number file memory room memory' room' o r j n =
    record {
      answered = begins r (traced_row o) _ (n ∙ traced_number_lem o) j.answered
          ∙ told_number (judge_check file memory room) (totals_values (file_totals file));
      memory_left = j.memory_left;
      room_left = j.room_left;
    }
