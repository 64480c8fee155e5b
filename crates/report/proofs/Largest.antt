-- No text of any file has over 52,125 bytes. Assumes nothing.
use mathlib.Core.Path.{◌≡◌, refl, ap, sym, subst, ◌∙◌}
use mathlib.Core.Bool.{Bool, true, false}
use mathlib.Core.List.{List, ◌++◌}
use Prim.Native.Nat.{ℕ, zero, suc, ◌+◌, ◌-◌, ◌*◌, ◌/◌, ◌%◌, ◌^◌, ◌≤◌, ◌<◌}
use native.Mathlib.Nat.{zero-add, add-zero, add-suc, suc-mul, pow-suc}
use native.Mathlib.Omega.{arith}
use lib.Dec.{ltb, eqb}
use lib.ListN.{length, take, drop, length-append, length-take, length-drop}
use lib.Seq.{take_all, take_at}
use borrow.Author.Tests.{ltb-true, ltb-false}
use Rattle.notions.specs.Choice.{pick}
use Rattle.refusal.specs.declared.Refusal.{Refusal}
use Rattle.refusal.specs.Numbers.{number}
use Rattle.notions.proofs.Tests.{cases}
use Rattle.layout.specs.declared.Layout.{Layout}
use Rattle.steps.specs.declared.Step.{Step}
use Rattle.rules.specs.declared.Monitor.{Monitor}
use Rattle.rules.specs.Rules.{cause}
use Rattle.rules.proofs.Laws.{cause_most}
use Rattle.monitor.specs.Decisions.{resets, decided_answer}
use Rattle.effects.specs.declared.StepAnswer.{StepAnswer}
use Rattle.monitor.specs.declared.Totals.{Totals}
use Rattle.effects.specs.Effects.{exposing, answer}
use Rattle.monitor.specs.Runs.{State, begin, before, said, resetting}
use Rattle.traces.specs.Traces.{count, steps}
use Rattle.file_contents.specs.Contents.{file_check, body}
use Rattle.runfile.specs.Promises.{file_layout, file_memory, file_trace, file_totals, judge_check}
use Rattle.file_contents.proofs.Entries.{sound}
use Rattle.runfile.proofs.Files.{admitted}
use Rattle.report.specs.Text.{places, shown, cpu_shown, dma_shown, line, lines, totals_line, refused_line, judged_text}
use Rattle.report.specs.Text.{printed, file_text}
use Rattle.report.specs.Promises.{Writes}
use Rattle.report.proofs.Decimal.{length_digits, length_decimal, places_most, places_twenty}
use Rattle.std.specs.Prelude.{Err, Ok}
use Rattle.refusal.specs.Answers.{Answer}

-- ---- one line

shown_most : (t : Bool) (b : ℕ) → length (shown t b) ≤ 2
shown_most true b = omega (arith, length_digits 16 2 b)
shown_most false b = omega arith

length_line : (k : ℕ) (a : StepAnswer)
    → length (line k a) ≡ places k + places a.cause + length (cpu_shown a) + length (dma_shown a) + 4
unfolding line
length_line k a = simp (length-append, length_decimal) (omega arith)

-- a step that resets has a cause of two digits at most and shows no byte; one that passes has cause 0 and shows two at
-- most
either_most : (t : Bool) (k c : ℕ) (a : StepAnswer) → c ≤ 15 → a.cause ≡ 0
    → length (line k (pick t (record { cause = c; exposed = 0; cpubyte = 0; dmabyte = 0 }) a)) + pick t 1 0 ≤ places k + 9
either_most true k c a h e =
    omega (arith, length_line k (record { cause = c; exposed = 0; cpubyte = 0; dmabyte = 0 }), places_most c 1 (omega arith))
either_most false k c a h e =
    let p = places_most a.cause 0 (omega arith) in
    let x = shown_most (eqb (a.exposed % 2) 1) a.cpubyte in
    let y = shown_most (eqb (a.exposed / 2 % 2) 1) a.dmabyte in
    omega (arith, length_line k a, p, x, y)

line_most : (l : Layout) (m : Monitor) (s : Step) (memory : List ℕ) (k : ℕ)
    → length (line k (decided_answer l m s memory)) + pick (resets l m s) 1 0 ≤ places k + 9
unfolding answer exposing
line_most l m s memory k = either_most (resets l m s) k (cause l m s) (exposing l s memory) (cause_most l m s) refl

-- ---- the lines

-- the bytes of the first n lines, if each is as long as it can be
unfoldable lines_most : ℕ → ℕ
lines_most zero = 0
lines_most (suc n) = lines_most n + (places n + 9)

lines_most_lem : (l : Layout) (t : ℕ → Step) (x : State) (n : ℕ)
    → length (lines (said l t x) n) + resetting l t x n ≤ lines_most n
unfolding lines lines_most resetting
lines_most_lem l t x zero = omega arith
lines_most_lem l t x (suc n) =
    let y = before l t x n in
    let z = length-append (lines (said l t x) n) (line n (said l t x n)) in
    omega (arith, lines_most_lem l t x n, z, line_most l y.monitor (t n) y.memory n)

-- n lines more whose numbers have at most d digits
more_most : (a n d : ℕ) → ((k : ℕ) → k < a + n → places k ≤ d) → lines_most (a + n) ≤ lines_most a + n * (d + 9)
unfolding lines_most
more_most a zero d f = rw add-zero (omega arith)
more_most a (suc n) d f =
    rw (add-suc a n)
    (omega (arith, more_most a n d (λ k h. f k (omega arith)), f (a + n) (omega arith), suc-mul n (d + 9)))

none_most : lines_most 0 ≡ 0
unfolding lines_most
none_most = refl

-- 10 numbers of one digit, 90 of two, 900 of three
thousand : lines_most 1000 ≤ 11890
thousand =
    let a : lines_most 10 ≤ lines_most 0 + 10 * 10 = more_most 0 10 1 (λ k h. places_most k 0 (omega arith)) in
    let b : lines_most 100 ≤ lines_most 10 + 90 * 11 = more_most 10 90 2 (λ k h. places_most k 1 (omega arith)) in
    let c : lines_most 1000 ≤ lines_most 100 + 900 * 12 = more_most 100 900 3 (λ k h. places_most k 2 (omega arith)) in
    omega (arith, a, b, c, none_most)

-- and the others of four
four_digits : (a n : ℕ) → a + n ≤ 4092 → lines_most (a + n) ≤ lines_most a + n * 13
four_digits a n h = more_most a n 4 (λ k l. places_most k 3 (omega arith))

sum_most : (n : ℕ) → n ≤ 4092 → lines_most n ≤ 52086
sum_most n h =
    cases (ltb n 1000)
    (λ e.
    let l = ltb-true n 1000 e in
    let w = subst (λ (m : ℕ). lines_most m ≤ lines_most 0 + n * 13) (zero-add n) (four_digits 0 n (omega arith)) in
    omega (arith, w, none_most))
    (λ e.
    let l = ltb-false n 1000 e in
    let z : 1000 + (n - 1000) ≡ n = omega arith in
    let w = subst (λ (m : ℕ). lines_most m ≤ lines_most 1000 + (n - 1000) * 13) z
    (four_digits 1000 (n - 1000) (omega arith)) in
    omega (arith, w, thousand))

-- ---- texts

-- a number has no more digits than one more than itself
under_power : (n : ℕ) → n < 10 ^ suc n
under_power zero = omega arith
under_power (suc n) = omega (arith, under_power n, pow-suc 10 (suc n))

places_under : (n : ℕ) → places n ≤ 1 + n
places_under n = omega (arith, places_most n n (under_power n))

length_totals : (t : Totals) → length (totals_line t) ≡ places t.steps + places t.resets + 15
unfolding totals_line
length_totals t = simp (length-append, length_decimal) (omega arith)

pub length_refused : (r : Refusal) → length (refused_line r) ≤ 50
unfolding refused_line
length_refused r =
    simp (length-append, length_decimal) (omega (arith, places_twenty (number r.reason), places_twenty r.place))

-- a run of at most 4,092 steps
pub run_most : (l : Layout) (t : ℕ → Step) (x : State) (n : ℕ) → n ≤ 4092
    → length (judged_text (said l t x) (record { steps = n; resets = resetting l t x n })) ≤ 52125
unfolding judged_text
run_most l t x n h =
    let r = resetting l t x n in
    simp length-append
    (omega (
      arith,
      lines_most_lem l t x n,
      sum_most n h,
      length_totals (record { steps = n; resets = r }),
      places_most n 3 (omega arith),
      places_under r,
    ))

-- of the 49,152 bytes of a file that passes, 48 are contents and layout
pub steps_most : (f : List ℕ) → file_check f ≡ Ok tt → count (file_trace f) ≤ 4092
unfolding body
steps_most f e =
    let s = sound f e in
    simp (length-take, length-drop) (omega (arith, s.most, s.trace))

printed_most : (f memory room : List ℕ) (a : Answer) → judge_check f memory room ≡ a
    → length (printed a
    (judged_text (said (file_layout f) (steps (file_trace f)) (begin (file_memory f))) (file_totals f))) ≤ 52125
printed_most f memory room (Ok _) e =
    let h = steps_most f (admitted f memory room e).contents in
    run_most (file_layout f) (steps (file_trace f)) (begin (file_memory f)) (count (file_trace f)) h
printed_most f memory room (Err r) e = omega (arith, length_refused r)

pub largest : (f memory room : List ℕ) → length (file_text f memory room) ≤ 52125
largest f memory room = printed_most f memory room (judge_check f memory room) refl

pub fits : (f memory room out memory' room' out' : List ℕ) (r : ℕ) → Writes f memory room out memory' room' out' r
    → r ≤ 52125
fits f memory room out memory' room' out' r w = omega (arith, w.answered, largest f memory room)

-- so a buffer of that size holds the text of any file whole: the first r bytes
pub whole_text : (f memory room out memory' room' out' : List ℕ) (r : ℕ) → Writes f memory room out memory' room' out' r
    → 52125 ≤ length out → (r ≤ length out') × (take r out' ≡ file_text f memory room)
whole_text f memory room out memory' room' out' r w h =
    let text = file_text f memory room in
    let e : out' ≡ text ++ drop (length text) out =
    w.out_left
    ∙ ap (λ (l : List ℕ). l ++ drop (length text) out)
    (take_all (length out) text (omega (arith, largest f memory room))) in (
      rw e (simp length-append (omega (arith, w.answered))),
      rw e (take_at text (drop (length text) out) r (sym w.answered)),
    )
