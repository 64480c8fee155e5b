-- What the bytes of a trace are, and what is refused of them. Assumes nothing.
use Rattle.std.specs.Prelude.{Bool, not, ◌||◌, List, ℕ, ◌*◌, ◌/◌, ◌%◌, eqb, ltb, length, take, drop, Ok}
use Rattle.notions.specs.Choice.{pick}
use Rattle.notions.specs.First.{first}
use Rattle.refusal.specs.Answers.{Answer, refused_at}
use Rattle.refusal.specs.declared.Reason.TheVariants.{TraceSize, RoomSize, StepNotZero}
use Rattle.steps.specs.declared.Step.{Step}
use Rattle.steps.specs.Steps.{step_of, clean}

-- bytes of a step, and of its answer
abbrev pub step_size : ℕ
step_size = 12

abbrev pub answer_size : ℕ
answer_size = 4

-- the most steps of a trace
abbrev pub most_steps : ℕ
most_steps = 4096

-- the number of steps of a trace's bytes, and step n
abbrev pub count : List ℕ → ℕ
count b = length b / step_size

abbrev pub step_bytes : List ℕ → ℕ → List ℕ
step_bytes b n = take step_size (drop (step_size * n) b)

abbrev pub steps : List ℕ → ℕ → Step
steps b n = step_of (step_bytes b n)

-- a zero bit or byte of step n is set
abbrev pub unclean : List ℕ → ℕ → Bool
unclean b n = not (clean (step_bytes b n))

abbrev pub first_unclean : List ℕ → ℕ
first_unclean b = first (count b) (unclean b)

-- a trace that is not whole steps, or over 4,096 of them
abbrev pub misfits : List ℕ → Bool
misfits b = not (eqb (length b % step_size) 0) || ltb most_steps (count b)

-- refusals 7 to 9 of a trace and an answer room of so many bytes: all steps are checked before the first is judged
unfoldable pub trace_check : List ℕ → ℕ → Answer
trace_check b room =
    pick (misfits b) (refused_at TraceSize 0)
    (pick (ltb room (answer_size * count b)) (refused_at RoomSize 0)
    (pick (ltb (first_unclean b) (count b)) (refused_at StepNotZero (first_unclean b)) (Ok tt)))

-- the same of one step
unfoldable pub step_check : List ℕ → ℕ → Answer
step_check b room =
    pick (not (eqb (length b) step_size)) (refused_at TraceSize 0)
    (pick (ltb room answer_size) (refused_at RoomSize 0)
    (pick (unclean b 0) (refused_at StepNotZero 0) (Ok tt)))
