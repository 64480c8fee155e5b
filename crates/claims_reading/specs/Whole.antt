-- A trace read to its end: the reader hands out the steps that `trace` judges, all of them and in order. Claims; their proofs are in
-- proofs/Whole.antt. Assumes nothing.
use Rattle.std.specs.Prelude.{◌≡◌, true, false, List, ◌++◌, ℕ, ◌+◌, ◌*◌, ◌≤◌, ◌<◌, drop, None, Ok, Option, Result, Some}
use Rattle.std.specs.Borrow.{Bor}
use Rattle.refusal.specs.declared.Reason.TheVariants.{TraceSize, StepNotZero}
use Rattle.layout.specs.Layouts.{layout_of}
use Rattle.steps.specs.declared.Step.{Step}
use Rattle.monitor.specs.declared.Totals.{Totals}
use Rattle.traces.specs.Traces.{answer_size, count, steps}
use Rattle.monitor.specs.Runs.{begin, before, answers, resetting}
use Rattle.traces.specs.Traces.{misfits, first_unclean}
use Rattle.monitor.specs.Promises.{Traces}
use Rattle.reader.specs.declared.StepReader.{StepReader}
use Rattle.reader.specs.Reading.{refused_read}
use Rattle.reader.specs.Promises.{Begins, Reads}
use Rattle.refusal.specs.declared.Refusal.{Refusal}

-- a reader as `new` makes it, read over and over: `reader k` is what k calls of `next` leave of it, and `said k` what the next one answers
pub record Reading (trace : Bor (List ℕ)) (reader : ℕ → StepReader) (said : ℕ → Result (Option Step) Refusal) : Type 0 where
  pub begins : Begins trace (reader 0)
  pub goes_on : (k : ℕ) → Reads (reader k) (reader (k + 1)) (said k)

-- every trace can be read so
abbrev pub CanBeRead : Type 0
CanBeRead = (trace : Bor (List ℕ)) → (reader : ℕ → StepReader) × (said : ℕ → Result (Option Step) Refusal) × Reading trace reader said

-- the first n answers are these steps, and all further ones are e
pub record HandsOut (said : ℕ → Result (Option Step) Refusal) (n : ℕ) (s : ℕ → Step) (e : Result (Option Step) Refusal) : Type 0 where
  pub handed : (k : ℕ) → k < n → said k ≡ Ok (Some (s k))
  pub afterwards : (k : ℕ) → n ≤ k → said k ≡ e

-- what `trace` judges is read to its end, step by step
abbrev pub ReadsWhole : Type 0
ReadsWhole =
    (memory layout : List ℕ) (trace : Bor (List ℕ)) (room memory' room' : List ℕ) (t : Totals)
    → Traces memory layout trace.now room memory' room' (Ok t)
    → (reader : ℕ → StepReader) (said : ℕ → Result (Option Step) Refusal) → Reading trace reader said
    → HandsOut said t.steps (steps trace.now) (Ok None)

-- whichever steps were handed out before the end: the totals, the stores and the answers of `trace` are theirs
abbrev pub JudgesWhatIsRead : Type 0
JudgesWhatIsRead =
    (memory layout : List ℕ) (trace : Bor (List ℕ)) (room memory' room' : List ℕ) (t : Totals)
    → Traces memory layout trace.now room memory' room' (Ok t)
    → (reader : ℕ → StepReader) (said : ℕ → Result (Option Step) Refusal) → Reading trace reader said
    → (n : ℕ) (s : ℕ → Step) → HandsOut said n s (Ok None)
    → (t.steps ≡ n)
    × (t.resets ≡ resetting (layout_of layout) s (begin memory) n)
    × (memory' ≡ (before (layout_of layout) s (begin memory) n).memory)
    × (room' ≡ answers (layout_of layout) s (begin memory) n ++ drop (answer_size * n) room)

-- of a trace with a step that earns refusal 9 the steps before it are handed out, and then nothing more: the place stays there
abbrev pub ReadsToUnclean : Type 0
ReadsToUnclean =
    (trace : Bor (List ℕ)) (reader : ℕ → StepReader) (said : ℕ → Result (Option Step) Refusal) → Reading trace reader said
    → misfits trace.now ≡ false → first_unclean trace.now < count trace.now
    → HandsOut said (first_unclean trace.now) (steps trace.now) (refused_read StepNotZero (first_unclean trace.now))

-- and of one that is not whole steps, or too many, nothing is
abbrev pub ReadsNothing : Type 0
ReadsNothing =
    (trace : Bor (List ℕ)) (reader : ℕ → StepReader) (said : ℕ → Result (Option Step) Refusal) → Reading trace reader said
    → misfits trace.now ≡ true
    → (k : ℕ) → said k ≡ refused_read TraceSize 0
