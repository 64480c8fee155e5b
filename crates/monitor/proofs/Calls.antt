-- The calls on plain variables: what their checks have passed, and what follows from a run or a refusal. Assumes nothing.
use mathlib.Core.Path.{◌≡◌, ap, subst, ◌∙◌}
use mathlib.Core.List.{List, ◌++◌}
use Prim.Native.Nat.{ℕ, ◌*◌, ◌≤◌, ◌<◌}
use native.Mathlib.Omega.{arith}
use lib.ListN.{length, drop}
use borrow.Author.Tests.{eq-eqb, ne_eqb, lt-ltb, le-ltb}
use Rattle.refusal.specs.Answers.{Answer, row, refusal_row, refused_at, told, after_call}
use Rattle.refusal.specs.declared.Reason.TheVariants.{MemorySize, RoomSize}
use Rattle.refusal.proofs.Settled.{row_settled}
use Rattle.refusal.specs.declared.Refusal.{Refusal}
use Rattle.layout.specs.declared.Layout.{Layout}
use Rattle.layout.specs.Layouts.{layout_of}
use Rattle.layout.specs.Calls.{memory_bytes}
use Rattle.layout.specs.Promises.{Admits}
use Rattle.layout.proofs.Calls.{call_passed, admitted_good, admitted_refused}
use Rattle.rules.specs.declared.Monitor.{Monitor}
use Rattle.effects.specs.declared.StepAnswer.{StepAnswer}
use Rattle.effects.specs.Effects.{bytes}
use Rattle.traces.specs.Traces.{step_size, answer_size, count, steps, trace_check, step_check}
use Rattle.traces.proofs.Checks.{trace_passed, step_passed}
use Rattle.monitor.specs.declared.Totals.{Totals}
use Rattle.monitor.specs.declared.Outcome.{Outcome}
use Rattle.monitor.specs.Runs.{memory_after, room_after, totals}
use Rattle.monitor.specs.Inner.{RunsStep}
use Rattle.monitor.specs.Promises.{run_check, totals_values, Traces, Steps, Runs}
use Rattle.std.specs.Prelude.{Err, Ok, Result}

-- `admit` was given what the check of the other lengths and the steps says
pub admitted : (memory layout : List ℕ) (rest check : Answer) (r q : Result Layout Refusal)
    → row rest ≡ row check → Admits memory layout rest r → r ≡ q → Admits memory layout check q
admitted memory layout rest check r q e a f =
    subst (Admits memory layout check) f (subst (λ (x : Answer). Admits memory layout x r) (row_settled rest check e) a)

pub step_admitted : (memory layout b room : List ℕ) (l : Layout)
    → Admits memory layout (step_check b (length room)) (Ok l)
    → (step_size ≤ length b) × (answer_size ≤ length room)
step_admitted memory layout b room l e =
    let g = admitted_good memory layout (step_check b (length room)) l e in
    let p = call_passed memory layout (step_check b (length room)) g.0 in
    let q = step_passed b (length room) p.2 in
    (omega arith, q.1)

pub refused : (memory layout b room : List ℕ) (r : Refusal)
    → Admits memory layout (trace_check b (length room)) (Err r)
    → Traces memory layout b room memory room (Err r)
refused memory layout b room r e =
    let g = admitted_refused memory layout (trace_check b (length room)) r e in
    record { answered = simp g; memory_left = simp g; room_left = simp g }

pub step_judged : (memory layout b : List ℕ) (m : Monitor) (room memory' room' : List ℕ) (l : Layout) (r : Outcome)
    → Admits memory layout (step_check b (length room)) (Ok l)
    → RunsStep l m (steps b 0) 0 memory room memory' room' r
    → Steps memory layout b m room memory' room' (Ok r.monitor)
step_judged memory layout b m room memory' room' l r e a =
    let g = admitted_good memory layout (step_check b (length room)) l e in
    let f = rw g.1 at a in
    record {
      answered = simp (g.0, f.remembered);
      memory_left = simp g.0 f.memory_left;
      room_left = simp g.0 (f.room_left ∙ ap (λ (x : StepAnswer). bytes x ++ drop answer_size room) f.answered);
    }

pub step_refused : (memory layout b : List ℕ) (m : Monitor) (room : List ℕ) (r : Refusal)
    → Admits memory layout (step_check b (length room)) (Err r)
    → Steps memory layout b m room memory room (Err r)
step_refused memory layout b m room r e =
    let g = admitted_refused memory layout (step_check b (length room)) r e in
    record { answered = simp g; memory_left = simp g; room_left = simp g }

-- ---- the run alone

-- one that has the memory and the room that it needs is not refused
pub run_passes : (b memory : List ℕ) (room : ℕ) → length memory ≡ memory_bytes → answer_size * count b ≤ room
    → run_check memory b room ≡ Ok tt
unfolding run_check
run_passes b memory room h g = simp (eq-eqb (length memory) memory_bytes h, le-ltb room (answer_size * count b) g)

-- a trace that is admitted gets what the run alone gives
pub ran : (memory layout b room memory' room' : List ℕ) (l : Layout) (r : Result Totals Refusal)
    → Admits memory layout (trace_check b (length room)) (Ok l) → Runs l b memory room memory' room' r
    → Traces memory layout b room memory' room' r
ran memory layout b room memory' room' l r e d =
    let g = admitted_good memory layout (trace_check b (length room)) l e in
    let p = call_passed memory layout (trace_check b (length room)) g.0 in
    let c = run_passes b memory (length room) p.0 (trace_passed b (length room) p.2).roomy in
    let f = rw g.1 at d in
    record {
      answered = simp g.0
          (f.answered ∙ ap (λ (a : Answer). told a (totals_values (totals (layout_of layout) b memory))) c);
      memory_left = simp g.0
          (f.memory_left ∙ ap (λ (a : Answer). after_call a (memory_after (layout_of layout) b memory) memory) c);
      room_left = simp g.0
          (f.room_left ∙ ap (λ (a : Answer). after_call a (room_after (layout_of layout) b memory room) room) c);
    }

pub run_of : (l : Layout) (b memory room memory' room' : List ℕ) (r : Totals) → length memory ≡ memory_bytes
    → answer_size * count b ≤ length room
    → (r ≡ totals l b memory) × (memory' ≡ memory_after l b memory) × (room' ≡ room_after l b memory room)
    → Runs l b memory room memory' room' (Ok r)
run_of l b memory room memory' room' r h g d =
    let e = run_passes b memory (length room) h g in
    record { answered = simp (e, d.0); memory_left = simp e d.1; room_left = simp e d.2 }

pub run_refused : (l : Layout) (b memory room : List ℕ) (r q : Refusal) → q ≡ r
    → run_check memory b (length room) ≡ Err r → Runs l b memory room memory room (Err q)
run_refused l b memory room r q f e =
    record { answered = ap refusal_row f ∙ simp e; memory_left = simp e; room_left = simp e }

pub run_without_memory : (b memory : List ℕ) (room : ℕ) → (length memory ≡ memory_bytes → ⊥)
    → run_check memory b room ≡ refused_at MemorySize 0
unfolding run_check
run_without_memory b memory room h = simp (ne_eqb (length memory) memory_bytes h)

pub run_without_room : (b memory : List ℕ) (room : ℕ) → length memory ≡ memory_bytes → room < answer_size * count b
    → run_check memory b room ≡ refused_at RoomSize 0
unfolding run_check
run_without_room b memory room h g = simp (eq-eqb (length memory) memory_bytes h, lt-ltb room (answer_size * count b) g)
