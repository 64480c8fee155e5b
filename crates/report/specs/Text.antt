-- The text that `judge` prints, as bytes. Assumes nothing.
use Rattle.std.specs.Prelude.{Bool, List, [], ◌∷◌, ◌++◌, ℕ, zero, suc, ◌/◌, ◌%◌, ◌^◌, ltb, eqb, Err, Ok}
use Rattle.io.specs.Digits.{last_digits}
use Rattle.notions.specs.Choice.{pick}
use Rattle.notions.specs.First.{first}
use Rattle.refusal.specs.declared.Refusal.{Refusal}
use Rattle.refusal.specs.Numbers.{number}
use Rattle.effects.specs.declared.StepAnswer.{StepAnswer}
use Rattle.monitor.specs.declared.Totals.{Totals}
use Rattle.monitor.specs.Runs.{begin, said}
use Rattle.traces.specs.Traces.{steps}
use Rattle.runfile.specs.Promises.{file_layout, file_memory, file_trace, file_totals, judge_check}
use Rattle.refusal.specs.Answers.{Answer}

-- ---- fields, which stand one space apart

-- the fewest decimal digits, at least one, that hold a number below 10 ^ 20
unfoldable pub places : ℕ → ℕ
places n = suc (first 19 (λ k. ltb n (10 ^ suc k)))

unfoldable pub decimal : ℕ → List ℕ
decimal n = last_digits 10 (places n) n

-- a byte in two lower-case hexadecimal digits if it is exposed, else `-`
abbrev pub shown : Bool → ℕ → List ℕ
shown exposed b = pick exposed (last_digits 16 2 b) (45 ∷ [])

abbrev pub space : List ℕ
space = 32 ∷ []

abbrev pub newline : List ℕ
newline = 10 ∷ []

-- ---- lines

-- "step cause cpu dma"
abbrev pub header : List ℕ
header = 115 ∷ 116 ∷ 101 ∷ 112 ∷ 32 ∷ 99 ∷ 97 ∷ 117 ∷ 115 ∷ 101 ∷ 32 ∷ 99 ∷ 112 ∷ 117 ∷ 32 ∷ 100 ∷ 109 ∷ 97 ∷ 10 ∷ []

-- bit 0 of an answer says that the CPU's byte is exposed, bit 1 that the DMA's is
abbrev pub cpu_shown : StepAnswer → List ℕ
cpu_shown a = shown (eqb (a.exposed % 2) 1) a.cpubyte

abbrev pub dma_shown : StepAnswer → List ℕ
dma_shown a = shown (eqb (a.exposed / 2 % 2) 1) a.dmabyte

-- a step: its number, cause, exposed CPU byte, exposed DMA byte
unfoldable pub line : ℕ → StepAnswer → List ℕ
line k a = decimal k ++ space ++ decimal a.cause ++ space ++ cpu_shown a ++ space ++ dma_shown a ++ newline

-- the first n steps
unfoldable pub lines : (ℕ → StepAnswer) → ℕ → List ℕ
lines answer zero = []
lines answer (suc n) = lines answer n ++ line n (answer n)

-- "steps ", and " resets "
abbrev pub steps_word : List ℕ
steps_word = 115 ∷ 116 ∷ 101 ∷ 112 ∷ 115 ∷ 32 ∷ []

abbrev pub resets_word : List ℕ
resets_word = 32 ∷ 114 ∷ 101 ∷ 115 ∷ 101 ∷ 116 ∷ 115 ∷ 32 ∷ []

unfoldable pub totals_line : Totals → List ℕ
totals_line t = steps_word ++ decimal t.steps ++ resets_word ++ decimal t.resets ++ newline

-- "refused "
abbrev pub refused_word : List ℕ
refused_word = 114 ∷ 101 ∷ 102 ∷ 117 ∷ 115 ∷ 101 ∷ 100 ∷ 32 ∷ []

unfoldable pub refused_line : Refusal → List ℕ
refused_line r = refused_word ++ decimal (number r.reason) ++ space ++ decimal r.place ++ newline

-- ---- texts

-- the header, a line for each step, and the totals
unfoldable pub judged_text : (ℕ → StepAnswer) → Totals → List ℕ
judged_text answer t = header ++ lines answer t.steps ++ totals_line t

-- a refusal prints only its line
abbrev pub printed : Answer → List ℕ → List ℕ
printed (Ok _) text = text
printed (Err r) text = refused_line r

-- what is printed of a file that is judged with this memory and this room lent
abbrev pub file_text : List ℕ → List ℕ → List ℕ → List ℕ
file_text f memory room =
    printed (judge_check f memory room)
    (judged_text (said (file_layout f) (steps (file_trace f)) (begin (file_memory f))) (file_totals f))
