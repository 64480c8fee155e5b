-- The text that is written from the answers in a room is the text of the file. Assumes nothing.
use mathlib.Core.Path.{◌≡◌, refl, ap, sym, ◌∙◌}
use mathlib.Core.List.{List, ◌++◌}
use Prim.Native.Nat.{ℕ, zero, suc, ◌+◌, ◌*◌, ◌<◌}
use native.Mathlib.Nat.{add-zero}
use native.Mathlib.Omega.{arith}
use lib.ListN.{get_or, take, drop}
use lib.Seq.{get_or-take, get_or-drop}
use Rattle.refusal.specs.Answers.{Answer, told, after_call}
use Rattle.layout.specs.declared.Layout.{Layout}
use Rattle.steps.specs.declared.Step.{Step}
use Rattle.effects.specs.declared.StepAnswer.{StepAnswer}
use Rattle.monitor.specs.declared.Totals.{Totals}
use Rattle.effects.specs.Effects.{bytes}
use Rattle.monitor.specs.Runs.{State, begin, said, answers, room_after, totals}
use Rattle.traces.specs.Traces.{answer_size, count, steps}
use Rattle.monitor.specs.Promises.{totals_values, traced_row}
use Rattle.monitor.proofs.Settled.{traced_row_settled}
use Rattle.monitor.proofs.Laws.{answer_at_lem}
use Rattle.report.specs.Text.{header, line, lines, totals_line, judged_text, printed}
use Rattle.report.specs.Inner.{answer_at, text_of}
use Rattle.std.specs.Prelude.{Err, Ok, Result}
use Rattle.refusal.specs.declared.Refusal.{Refusal}

-- ---- answers

byte_at : (room : List ℕ) (k j : ℕ) (a : StepAnswer) → take answer_size (drop (answer_size * k) room) ≡ bytes a
    → j < answer_size
    → get_or room (answer_size * k + j) 0 ≡ get_or (bytes a) j 0
byte_at room k j a e h =
    sym (get_or-take answer_size (drop (answer_size * k) room) j 0 h ∙ get_or-drop (answer_size * k) room j 0)
    ∙ ap (λ (l : List ℕ). get_or l j 0) e

answer_is : (a : StepAnswer) (cause exposed cpu dma : ℕ) → cause ≡ a.cause → exposed ≡ a.exposed → cpu ≡ a.cpubyte
    → dma ≡ a.dmabyte → ◌≡◌ {A = StepAnswer} (record { cause = cause; exposed = exposed; cpubyte = cpu; dmabyte = dma }) a
answer_is a cause exposed cpu dma e f g h = rw (e, f, g, h) refl

-- the answer of step k that stands in the room is what step k answers
pub answer_stands : (l : Layout) (t : ℕ → Step) (x : State) (n k : ℕ) (rest : List ℕ) → k < n
    → answer_at (answers l t x n ++ rest) k ≡ said l t x k
answer_stands l t x n k rest h =
    let room = answers l t x n ++ rest in
    let a = said l t x k in
    let e = answer_at_lem l t x n k rest h in
    answer_is a (get_or room (answer_size * k) 0) (get_or room (answer_size * k + 1) 0) (get_or room (answer_size * k + 2) 0)
    (get_or room (answer_size * k + 3) 0)
    (ap (λ (p : ℕ). get_or room p 0) (sym (add-zero (answer_size * k))) ∙ byte_at room k 0 a e (omega arith))
    (byte_at room k 1 a e (omega arith))
    (byte_at room k 2 a e (omega arith))
    (byte_at room k 3 a e (omega arith))

-- ---- texts

-- answers that agree below n have the same lines
pub lines_same : (a b : ℕ → StepAnswer) (n : ℕ) → ((k : ℕ) → k < n → a k ≡ b k) → lines a n ≡ lines b n
unfolding lines
lines_same a b zero f = refl
lines_same a b (suc n) f =
    ap (λ (l : List ℕ). l ++ line n (a n)) (lines_same a b n (λ k h. f k (omega arith)))
    ∙ ap (λ (x : StepAnswer). lines b n ++ line n x) (f n (omega arith))

pub judged_same : (a b : ℕ → StepAnswer) (t : Totals) → ((k : ℕ) → k < t.steps → a k ≡ b k)
    → judged_text a t ≡ judged_text b t
unfolding judged_text
judged_same a b t f = ap (λ (l : List ℕ). header ++ l ++ totals_line t) (lines_same a b t.steps f)

-- what is told of an answer, and of the room that it leaves, is what is printed of the run
pub run_text : (l : Layout) (b memory room : List ℕ) (a : Answer) (o : Result Totals Refusal)
    → traced_row o ≡ told a (totals_values (totals l b memory))
    → text_of o (after_call a (room_after l b memory room) room)
    ≡ printed a (judged_text (said l (steps b) (begin memory)) (totals l b memory))
run_text l b memory room (Ok _) o e =
    let room' = room_after l b memory room in
    ap (λ (x : Result Totals Refusal). text_of x room') (traced_row_settled o (Ok (totals l b memory)) e)
    ∙ judged_same (answer_at room') (said l (steps b) (begin memory)) (totals l b memory)
    (λ k h. answer_stands l (steps b) (begin memory) (count b) k _ h)
run_text l b memory room (Err r) o e =
    ap (λ (x : Result Totals Refusal). text_of x room) (traced_row_settled o (Err r) e)
