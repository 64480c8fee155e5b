-- One turn of the run's loop, on plain variables: what stands after i steps, and that one step more keeps it. Assumes nothing.
use mathlib.Core.Path.{◌≡◌, refl, ap, sym, subst, ◌∙◌}
use mathlib.Core.Bool.{Bool, true, false}
use mathlib.Core.List.{List, ◌++◌}
use Prim.Native.Nat.{ℕ, suc, ◌+◌, ◌*◌, ◌≤◌, zero-le}
use native.Mathlib.Omega.{arith}
use native.Mathlib.Numerals.{add-one}
use lib.ListN.{length, drop}
use lib.Seq.{take_at, drop_at, drop-drop}
use mir.Val.{bool_byte}
use Rattle.notions.specs.Choice.{pick}
use Rattle.layout.specs.declared.Layout.{Layout}
use Rattle.steps.specs.declared.Step.{Step}
use Rattle.steps.specs.Steps.{step_of}
use Rattle.rules.specs.declared.Monitor.{Monitor}
use Rattle.rules.specs.Rules.{cause, start}
use Rattle.effects.specs.declared.StepAnswer.{StepAnswer}
use Rattle.effects.specs.Effects.{is_reset, answer, bytes, written}
use Rattle.effects.specs.Promises.{Acts}
use Rattle.effects.proofs.Laws.{answer_cause}
use Rattle.traces.specs.Traces.{step_size, answer_size, count, steps}
use Rattle.traces.specs.Promises.{GivesRecord}
use Rattle.traces.proofs.Laws.{record_there}
use Rattle.monitor.specs.declared.Totals.{Totals}
use Rattle.monitor.specs.declared.Outcome.{Outcome}
use Rattle.monitor.specs.Decisions.{next}
use Rattle.monitor.specs.Runs.{begin, before, said, answers, resetting, memory_after, room_after, totals}
use Rattle.monitor.specs.Inner.{replaced, RunsStep}
use Rattle.monitor.proofs.Laws.{length_answers}

pub record After (l : Layout) (b memory₀ room₀ : List ℕ) (i : ℕ) (memory room : List ℕ) (m : Monitor) (r : ℕ) : Type 0
  where
    pub remembered : m ≡ (before l (steps b) (begin memory₀) i).monitor
    pub stored : memory ≡ (before l (steps b) (begin memory₀) i).memory
    pub answered : room ≡ answers l (steps b) (begin memory₀) i ++ drop (answer_size * i) room₀
    pub counted : r ≡ resetting l (steps b) (begin memory₀) i

pub none : (l : Layout) (b memory room : List ℕ) → After l b memory room 0 memory room start 0
unfolding before answers resetting
none l b memory room = record { remembered = refl; stored = refl; answered = refl; counted = refl }

-- the answers grow by those of one step, and what stands behind them stays
grown : (a room₀ v : List ℕ) (i : ℕ) → length a ≡ answer_size * i
    → replaced (a ++ drop (answer_size * i) room₀) (answer_size * i) answer_size v ≡ a ++ v ++ drop (answer_size * suc i)
    room₀
grown a room₀ v i e =
    let z : answer_size * suc i ≡ answer_size * i + answer_size = omega arith in
    let back : drop (answer_size * i + answer_size) (a ++ drop (answer_size * i) room₀) ≡ drop
    (answer_size * i + answer_size) room₀ =
    sym (drop-drop answer_size (answer_size * i) (a ++ drop (answer_size * i) room₀))
    ∙ ap (drop answer_size) (drop_at a (drop (answer_size * i) room₀) (answer_size * i) e)
    ∙ drop-drop answer_size (answer_size * i) room₀ in
    rw (z, back, take_at a (drop (answer_size * i) room₀) (answer_size * i) e)

module _ (l : Layout) (b memory₀ room₀ : List ℕ) (i : ℕ) (memory room : List ℕ) (m : Monitor) (r : ℕ)
    (d : After l b memory₀ room₀ i memory room m r)
    (memory' room' : List ℕ) (j : Outcome) (a : RunsStep l m (steps b i) i memory room memory' room' j) where
  same_said : j.answer ≡ said l (steps b) (begin memory₀) i
  same_said = cc a.answered

  same_cause : j.answer.cause ≡ cause l (before l (steps b) (begin memory₀) i).monitor (steps b i)
  same_cause = ap (λ (x : StepAnswer). x.cause) same_said
      ∙ answer_cause l _ (steps b i) (before l (steps b) (begin memory₀) i).memory

  more_remembered : j.monitor ≡ (before l (steps b) (begin memory₀) (suc i)).monitor
  unfolding before
  more_remembered = cc a.remembered

  more_stored : memory' ≡ (before l (steps b) (begin memory₀) (suc i)).memory
  unfolding before
  more_stored = cc a.memory_left

  more_answered : room' ≡ answers l (steps b) (begin memory₀) i ++ bytes (said l (steps b) (begin memory₀) i) ++ drop
      (answer_size * suc i) room₀
  more_answered =
      let before_it = answers l (steps b) (begin memory₀) i in
      a.room_left
      ∙ ap (λ (o : List ℕ). replaced o (answer_size * i) answer_size (bytes j.answer)) d.answered
      ∙ grown before_it room₀ (bytes j.answer) i (length_answers l (steps b) (begin memory₀) i)
      ∙ ap (λ (x : StepAnswer). before_it ++ bytes x ++ drop (answer_size * suc i) room₀) same_said

  pub more : (k : ℕ) → k ≡ pick (is_reset j.answer.cause) 1 0
      → After l b memory₀ room₀ (i + 1) memory' room' j.monitor (r + k)
  unfolding answers resetting
  more k ek =
      rw add-one
      (record {
        remembered = more_remembered;
        stored = more_stored;
        answered = more_answered;
        counted =
            ap (λ (q : ℕ). q + k) d.counted
            ∙ ap (λ (q : ℕ). resetting l (steps b) (begin memory₀) i + q)
            (ek ∙ ap (λ (q : ℕ). pick (is_reset q) 1 0) same_cause);
      })

-- a test as a number
pub one_if : (t : Bool) → bool_byte t ≡ pick t 1 0
one_if true = refl
one_if false = refl

pub one_most : (t : Bool) → pick t 1 0 ≤ 1
one_most true = omega arith
one_most false = zero-le

pub whole : (l : Layout) (b memory₀ room₀ : List ℕ) (i : ℕ) (memory room : List ℕ) (m : Monitor) (r n : ℕ)
    → After l b memory₀ room₀ i memory room m r → n ≡ count b → i ≡ n
    → (◌≡◌ {A = Totals} (record { steps = n; resets = r }) (totals l b memory₀))
    × (memory ≡ memory_after l b memory₀)
    × (room ≡ room_after l b memory₀ room₀)
whole l b memory₀ room₀ i memory room m r n d en ei =
    let e : i ≡ count b = ei ∙ en in (
      cc,
      d.stored ∙ ap (λ (k : ℕ). (before l (steps b) (begin memory₀) k).memory) e,
      d.answered ∙ ap (λ (k : ℕ). answers l (steps b) (begin memory₀) k ++ drop (answer_size * k) room₀) e,
    )

-- a step whose parts have done what they promise
pub step_run : (l : Layout) (m : Monitor) (b : List ℕ) (i : ℕ) (memory room memory' room' record₀ : List ℕ) (s : Step)
    (c : ℕ)
    (a : StepAnswer) → step_size * i + step_size ≤ length b → GivesRecord b i record₀ → s ≡ step_of record₀
    → c ≡ cause l m s
    → Acts l c s memory memory' a → room' ≡ replaced room (answer_size * i) answer_size (bytes a)
    → RunsStep l m (steps b i) i memory room memory' room'
    (record { answer = a; monitor = record { held = is_reset c; lastpc = s.pc } })
unfolding next
step_run l m b i memory room memory' room' record₀ s c a h er es ec p e =
    let r : Outcome = record { answer = a; monitor = record { held = is_reset c; lastpc = s.pc } } in
    let same : s ≡ steps b i = es ∙ ap step_of (record_there b i record₀ (omega arith) er) in
    subst (λ (u : Step). RunsStep l m u i memory room memory' room' r) same
    (record {
      answered = p.answered ∙ ap (λ (k : ℕ). answer l k s memory) ec;
      remembered = ap (λ (k : ℕ). record { held = is_reset k; lastpc = s.pc }) ec;
      memory_left = p.memory_left ∙ ap (λ (k : ℕ). written l k s memory) ec;
      room_left = e;
    })
