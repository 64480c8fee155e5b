-- The checks of a trace and of one step: what has passed, and what then passes too. Assumes nothing.
use mathlib.Core.Path.{◌≡◌, ap}
use mathlib.Core.Bool.{Bool, false, not, ◌||◌}
use mathlib.Core.List.{List}
use Prim.Native.Nat.{ℕ, ◌*◌, ◌%◌, ◌≤◌, ◌<◌}
use native.Mathlib.Omega.{arith}
use lib.Dec.{eqb, ltb}
use lib.ListN.{length, drop, length-take, length-drop}
use lib.Seq.{take-take}
use borrow.Author.Tests.{eqb-true, eq-eqb, ltb-false, le-ltb, not-false}
use Rattle.notions.specs.Choice.{pick}
use Rattle.notions.specs.First.{first}
use Rattle.notions.proofs.Tests.{cases, neither}
use Rattle.notions.proofs.First.{none_found}
use Rattle.refusal.specs.declared.Reason.{Reason}
use Rattle.refusal.specs.declared.Reason.TheVariants.{RoomSize, StepNotZero}
use Rattle.refusal.specs.Answers.{Answer, refused_at}
use Rattle.refusal.proofs.Order.{done_passed}
use Rattle.steps.specs.Steps.{step_of}
use Rattle.traces.specs.Traces.{step_size, answer_size, most_steps, count, step_bytes, steps, unclean, first_unclean}
use Rattle.traces.specs.Traces.{trace_check, step_check}
use Rattle.std.specs.Prelude.{Ok}

-- a trace that passes is whole steps, not too many, with room for the answers, and each step is clean
pub record Fitting (trace : List ℕ) (room : ℕ) : Type 0 where
  pub whole : length trace ≡ step_size * count trace
  pub most : count trace ≤ most_steps
  pub roomy : answer_size * count trace ≤ room
  pub clean : (i : ℕ) → i < count trace → unclean trace i ≡ false

pub trace_passed : (trace : List ℕ) (room : ℕ) → trace_check trace room ≡ Ok tt → Fitting trace room
unfolding trace_check
trace_passed trace room e =
    let p = done_passed (not (eqb (length trace % step_size) 0) || ltb most_steps (count trace)) _ _ e in
    let q = done_passed (ltb room (answer_size * count trace)) (record { reason = RoomSize; place = 0 }) _ p.1 in
    let s = done_passed (ltb (first_unclean trace) (count trace))
    (record { reason = StepNotZero; place = first_unclean trace }) _ q.1 in
    let t = neither (not (eqb (length trace % step_size) 0)) (ltb most_steps (count trace)) p.0 in
    let w = eqb-true (length trace % step_size) 0 (not-false _ t.0) in
    record {
      whole = omega arith;
      most = ltb-false most_steps (count trace) t.1;
      roomy = ltb-false room (answer_size * count trace) q.0;
      clean = none_found (count trace) (unclean trace) s.0;
    }

pub step_passed : (step : List ℕ) (room : ℕ) → step_check step room ≡ Ok tt → (length step ≡ step_size)
    × (answer_size ≤ room)
unfolding step_check
step_passed step room e =
    let p = done_passed (not (eqb (length step) step_size)) _ _ e in
    let q = done_passed (ltb room answer_size) (record { reason = RoomSize; place = 0 }) _ p.1 in
    (eqb-true (length step) step_size (not-false _ p.0), ltb-false room answer_size q.0)

-- one step is checked as a trace of one step is
place_of_one : (p : ℕ → Bool) (n : Reason) (a : Answer)
    → pick (ltb (first 1 p) 1) (refused_at n (first 1 p)) a ≡ pick (p 0) (refused_at n 0) a
unfolding first
place_of_one p n a = cases (p 0) (λ e. simp e) (λ e. simp e)

pub step_checked : (step : List ℕ) (room : ℕ) → length step ≡ step_size → trace_check step room ≡ step_check step room
unfolding trace_check step_check
step_checked step room e = simp e (simp (place_of_one (unclean step) StepNotZero (Ok tt)))

-- one step of a trace that passes
module _ (trace : List ℕ) (room : ℕ) (f : Fitting trace room) (i : ℕ) (h : i < count trace) where
  one_length : length (step_bytes trace i) ≡ step_size
  one_length = simp (length-take, length-drop) (omega (arith, f.whole))

  one_bytes : step_bytes (step_bytes trace i) 0 ≡ step_bytes trace i
  one_bytes = take-take step_size step_size (drop (step_size * i) trace) (omega arith)

  pub one_step : steps (step_bytes trace i) 0 ≡ steps trace i
  one_step = ap step_of one_bytes

  pub one_passes : (space : ℕ) → answer_size ≤ space → step_check (step_bytes trace i) space ≡ Ok tt
  unfolding step_check
  one_passes space r =
      simp (eq-eqb (length (step_bytes trace i)) step_size one_length, le-ltb space answer_size r, one_bytes, f.clean i h)
