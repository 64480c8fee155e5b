-- `text`, on plain variables. Assumes nothing.
use mathlib.Core.Path.{◌≡◌, refl, ap, sym, subst, ◌∙◌}
use mathlib.Core.List.{List}
use Prim.Native.Nat.{ℕ}
use native.Mathlib.Omega.{arith}
use lib.ListN.{length}
use lib.Seq.{sets}
use Rattle.refusal.specs.Answers.{Answer, told}
use Rattle.monitor.specs.Promises.{totals_values, traced_row}
use Rattle.monitor.proofs.Settled.{traced_row_settled}
use Rattle.traces.proofs.Checks.{trace_passed}
use Rattle.runfile.specs.Promises.{file_layout, file_memory, file_trace, file_totals, judge_check, Judges}
use Rattle.runfile.proofs.Files.{admitted}
use Rattle.report.specs.Text.{file_text}
use Rattle.report.specs.declared.Writer.{Writer}
use Rattle.report.specs.Inner.{Wrote, text_of, Tellable}
use Rattle.report.specs.Promises.{Writes}
use Rattle.octets.proofs.Laid.{cut}
use Rattle.report.proofs.Laws.{run_text}
use Rattle.report.proofs.Largest.{largest}
use Rattle.std.specs.Prelude.{Err, Ok, Result}
use Rattle.monitor.specs.declared.Totals.{Totals}
use Rattle.refusal.specs.declared.Refusal.{Refusal}

-- the room holds the answers of a file that is judged
tellable_by : (f memory room : List ℕ) (a : Answer) (o : Result Totals Refusal) → judge_check f memory room ≡ a
    → traced_row o ≡ told a (totals_values (file_totals f)) → Tellable o (length room)
tellable_by f memory room (Ok _) o e w =
    let p = trace_passed (file_trace f) (length room) (admitted f memory room e).trace in
    subst (λ (x : Result Totals Refusal). Tellable x (length room)) (sym (traced_row_settled o (Ok (file_totals f)) w))
    p.roomy
tellable_by f memory room (Err r) o e w =
    subst (λ (x : Result Totals Refusal). Tellable x (length room)) (sym (traced_row_settled o (Err r) w)) tt

pub tellable : (f memory room memory' room' : List ℕ) (o : Result Totals Refusal) → Judges f memory room memory' room' o
    → length room' ≡ length room → Tellable o (length room')
tellable f memory room memory' room' o j e =
    subst (λ (n : ℕ). Tellable o n) (sym e) (tellable_by f memory room (judge_check f memory room) o refl j.answered)

-- what is told of the answer to a file is its text
pub judged_text_lem : (f memory room memory' room' : List ℕ) (o : Result Totals Refusal) → Judges f memory room memory' room' o
    → text_of o room' ≡ file_text f memory room
judged_text_lem f memory room memory' room' o j =
    ap (text_of o) j.room_left
    ∙ run_text (file_layout f) (file_trace f) (file_memory f) room (judge_check f memory room) o j.answered

pub whole : (f memory room out memory' room' out' : List ℕ) (o : Result Totals Refusal) (w w' : Writer) → Judges f memory room memory' room' o
    → w.at ≡ 0 → w.out.now ≡ out → w'.out.now ≡ out' → Wrote w w' (text_of o room')
    → Writes f memory room out memory' room' out' w'.at
whole f memory room out memory' room' out' o w w' j z e e' p =
    let text = file_text f memory room in
    let v : Wrote w w' text = subst (λ (t : List ℕ). Wrote w w' t) (judged_text_lem f memory room memory' room' o j) p in
    let h = largest f memory room in
    record {
      answered = omega (arith, z, h, v.next (omega (arith, z, h)));
      memory_left = j.memory_left;
      room_left = j.room_left;
      out_left =
          sym e'
          ∙ v.laid (omega (arith, z, h))
          ∙ ap (λ (n : ℕ). sets w.out.now n text) z
          ∙ ap (λ (l : List ℕ). sets l 0 text) e
          ∙ cut out text;
    }
