-- Demand 3 for the calls, over the bytes that they are given. Assumes nothing.
use mathlib.Core.Path.{◌≡◌, refl, sym, ap, subst, ◌∙◌}
use mathlib.Core.Bool.{Bool, false, not, ◌&&◌}
use mathlib.Core.List.{List}
use Prim.Native.Nat.{ℕ, ◌+◌, ◌*◌, ◌/◌, ◌%◌, ◌<◌}
use native.Mathlib.Omega.{arith}
use lib.Dec.{eqb}
use lib.ListN.{length, get_or}
use Rattle.notions.specs.Choice.{pick}
use Rattle.notions.proofs.First.{first_same}
use Rattle.notions.proofs.Tests.{cases}
use Rattle.layout.specs.declared.Layout.{Layout}
use Rattle.layout.specs.Layouts.{layout_of}
use Rattle.layout.specs.Calls.{call_check}
use Rattle.steps.specs.Steps.{step_of, clean}
use Rattle.traces.specs.Traces.{step_size, count, step_bytes, steps}
use Rattle.monitor.specs.Decisions.{decided_memory}
use Rattle.monitor.specs.Runs.{begin, before, memory_after}
use Rattle.traces.specs.Traces.{unclean, trace_check, step_check}
use Rattle.monitor.proofs.Settled.{traced_row_settled, stepped_row_settled}
use Rattle.traces.proofs.Laws.{step_byte}
use Rattle.claims_monitor.specs.Demand3.{Agree, stores_scratch, with_data, blank, cpu_data, SameTrace, EitherTells}
use Rattle.claims_monitor.specs.Demand3.{Demand3Calls, Demand3Steps}
use Rattle.conditions.proofs.Answers.{lent_either}
use Rattle.claims_monitor.proofs.Demand3.{next_same, written_agree, answer_unseen, demand_3_runs}
use Rattle.refusal.specs.Answers.{Answer}

-- ---- the steps of two traces

module _ (l : Layout) (b c : List ℕ) (g : SameTrace l b c) (n : ℕ) where
  same_at : (j : ℕ) → j < step_size → eqb j cpu_data ≡ false → get_or (step_bytes b n) j 0 ≡ get_or (step_bytes c n) j 0
  same_at j h e =
      let m : (step_size * n + j) % step_size ≡ j = omega arith in
      step_byte b n j h ∙ g.same (step_size * n + j) (simp (m, e)) ∙ sym (step_byte c n j h)

  same_data : stores_scratch l (steps b n) ≡ false → get_or (step_bytes b n) cpu_data 0 ≡ get_or (step_bytes c n) cpu_data 0
  same_data h =
      let m : (step_size * n + cpu_data) % step_size ≡ cpu_data = omega arith in
      let d : (step_size * n + cpu_data) / step_size ≡ n = omega arith in
      let i : cpu_data < step_size = omega arith in
      step_byte b n cpu_data i ∙ g.same (step_size * n + cpu_data) (simp (m, d, h)) ∙ sym (step_byte c n cpu_data i)

  clean_same : clean (step_bytes b n) ≡ clean (step_bytes c n)
  clean_same =
      let e6 = same_at 6 (omega arith) refl in
      let e9 = same_at 9 (omega arith) refl in
      let e10 = same_at 10 (omega arith) refl in
      let e11 = same_at 11 (omega arith) refl in
      simp (e6, e9, e10, e11)

  with_same : (v : ℕ) → with_data (steps b n) v ≡ with_data (steps c n) v
  unfolding step_of
  with_same v =
      let e0 = same_at 0 (omega arith) refl in
      let e1 = same_at 1 (omega arith) refl in
      let e2 = same_at 2 (omega arith) refl in
      let e3 = same_at 3 (omega arith) refl in
      let e4 = same_at 4 (omega arith) refl in
      let e5 = same_at 5 (omega arith) refl in
      let e6 = same_at 6 (omega arith) refl in
      let e8 = same_at 8 (omega arith) refl in
      simp (e0, e1, e2, e3, e4, e5, e6, e8)

  scratch_same : stores_scratch l (steps b n) ≡ stores_scratch l (steps c n)
  scratch_same = ap (stores_scratch l) (with_same 0)

  kept_same : pick (stores_scratch l (steps b n)) 0 (steps b n).cpudata
      ≡ pick (stores_scratch l (steps c n)) 0 (steps c n).cpudata
  unfolding step_of
  kept_same =
      cases (stores_scratch l (steps b n))
      (λ h. simp (h, sym scratch_same ∙ h))
      (λ h. simp (h, sym scratch_same ∙ h) (same_data h))

  pub blank_same : blank l (steps b n) ≡ blank l (steps c n)
  blank_same =
      ap (with_data (steps b n)) kept_same ∙ with_same (pick (stores_scratch l (steps c n)) 0 (steps c n).cpudata)

pub either_tells : EitherTells
either_tells l b c g = record {
  long = sym g.long;
  same =
      λ k h.
      let e = ap (λ (t : Bool). eqb (k % step_size) cpu_data && t) (scratch_same l b c g (k / step_size)) in
      sym (g.same k (e ∙ h));
}

-- ---- the checks of two calls

module _ (l : Layout) (b c : List ℕ) (g : SameTrace l b c) where
  pub count_same : count b ≡ count c
  count_same = ap (λ (k : ℕ). k / step_size) g.long

  unclean_same : (n : ℕ) → unclean b n ≡ unclean c n
  unclean_same n = ap not (clean_same l b c g n)

  pub trace_check_same : (room : ℕ) → trace_check b room ≡ trace_check c room
  unfolding trace_check
  trace_check_same room = simp (g.long, first_same (count c) (unclean b) (unclean c) (λ k h. unclean_same k))

  step_check_same : (room : ℕ) → step_check b room ≡ step_check c room
  unfolding step_check
  step_check_same room = simp (g.long, unclean_same 0)

call_check_same : (l : Layout) (x y layout : List ℕ) (a a' : Answer) → Agree l x y → a ≡ a'
    → call_check x layout a ≡ call_check y layout a'
call_check_same l x y layout a a' g e = simp (g.long, e)

-- ---- the calls

pub demand_3_calls : Demand3Calls
demand_3_calls layout b c room x y x' y' room₁ room₂ r q g h p p' =
    let l = layout_of layout in
    let check = trace_check b (length room) in
    let e =
    call_check_same l x y layout check (trace_check c (length room)) g (trace_check_same l b c h (length room)) in
    let n = count_same l b c h in
    let u = demand_3_runs l (steps b) (steps c) x y (count b) g (λ k i. blank_same l b c h k) in
    let v : Agree l (memory_after l b x) (memory_after l c y) =
    subst (λ (k : ℕ). Agree l (memory_after l b x) (before l (steps c) (begin y) k).memory) n u.memories in
    record {
      told = traced_row_settled r q (rw (p.answered, p'.answered, sym e, sym n, u.counted));
      rooms = rw (p.room_left, p'.room_left, sym e, sym n, u.answered);
      memories =
          rw (p.memory_left, p'.memory_left, sym e)
          (lent_either (λ f. Agree l (f (memory_after l b x) x) (f (memory_after l c y) y))
          (call_check x layout check) v g);
    }

pub demand_3_steps : Demand3Steps
demand_3_steps layout b c m room x y x' y' room₁ room₂ r q g h p p' =
    let l = layout_of layout in
    let check = step_check b (length room) in
    let e = call_check_same l x y layout check (step_check c (length room)) g (step_check_same l b c h (length room)) in
    let s = steps b 0 in
    let t = steps c 0 in
    let d = blank_same l b c h 0 in
    record {
      told = stepped_row_settled r q (rw (p.answered, p'.answered, sym e, next_same l s t d m));
      rooms = rw (p.room_left, p'.room_left, sym e, answer_unseen l s t d m x y g);
      memories =
          rw (p.memory_left, p'.memory_left, sym e)
          (lent_either (λ f. Agree l (f (decided_memory l m s x) x) (f (decided_memory l m t y) y)) (call_check x layout check)
          (written_agree l s t d m x y g) g);
    }
