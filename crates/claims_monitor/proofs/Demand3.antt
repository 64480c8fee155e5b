-- Demand 3 for runs: once for a step from any monitor, then by induction. Assumes nothing.
use mathlib.Core.Path.{◌≡◌, refl, sym, ap, subst, ◌∙◌}
use mathlib.Core.Bool.{Bool, true, false, and-false}
use mathlib.Core.List.{List}
use Prim.Native.Nat.{ℕ, zero, suc, ◌<◌}
use native.Mathlib.Omega.{arith}
use lib.Dec.{eqb}
use borrow.Author.Tests.{eqb-true, not-false}
use Rattle.notions.specs.Choice.{pick}
use Rattle.layout.specs.declared.Layout.{Layout}
use Rattle.steps.specs.declared.Step.{Step}
use Rattle.rules.specs.declared.Monitor.{Monitor}
use Rattle.rules.specs.Rules.{cause, start}
use Rattle.monitor.specs.Decisions.{resets, next, decided_answer, decided_memory}
use Rattle.effects.specs.Effects.{cpu_exposed, dma_exposed, exposing, answer, stored, storing, written}
use Rattle.monitor.specs.Runs.{State, before, said, answers, resetting}
use Rattle.claims_monitor.specs.Demand3.{Agree, stores_scratch, with_data, blank, SameSteps, Unseen, Demand3Runs}
use Rattle.claims_monitor.specs.Demand3.{FromAny}
use Rattle.claims_monitor.proofs.Exposed.{cpu_outside, dma_outside}
use Rattle.claims_monitor.proofs.Memories.{pick_agree, stored_agree}

-- ---- one step in two memories that agree

pick_same : {A : Type 0} (t : Bool) {v w : A} (z : A) → (t ≡ true → v ≡ w) → pick t v z ≡ pick t w z
pick_same true z f = f refl
pick_same false z f = refl

pick_else : {A : Type 0} (t : Bool) {v w : A} (z : A) → (t ≡ false → v ≡ w) → pick t z v ≡ pick t z w
pick_else true z f = refl
pick_else false z f = f refl

module _ (l : Layout) (m : Monitor) (s : Step) (x y : List ℕ) (g : Agree l x y) where
  exposing_same : cause l m s ≡ 0 → exposing l s x ≡ exposing l s y
  unfolding exposing
  exposing_same e =
      let c = pick_same (cpu_exposed l s) 0 (λ h. let o = cpu_outside l m s e h in g.same s.cpuaddress o.0 o.1) in
      let d = pick_same (dma_exposed s) 0 (λ h. let o = dma_outside l m s e h in g.same s.dmaaddress o.0 o.1) in
      cc

  answer_same : decided_answer l m s x ≡ decided_answer l m s y
  unfolding answer
  answer_same =
      pick_else (resets l m s) _ (λ h. exposing_same (eqb-true (cause l m s) 0 (not-false (eqb (cause l m s) 0) h)))

-- ---- two steps that differ at most in a byte for the scratch

module _ (l : Layout) (s : Step) (v : ℕ) (f : stores_scratch l s ≡ false → s.cpudata ≡ v) (x y : List ℕ)
    (g : Agree l x y) where
  cpu_stored : Agree l (stored l s.cpuwrites s.cpuaddress s.cpudata x) (stored l s.cpuwrites s.cpuaddress v y)
  cpu_stored = stored_agree l x y g s.cpuaddress s.cpudata v (λ o. f (simp (o, and-false))) s.cpuwrites

  storing_with : Agree l (storing l s x) (storing l (with_data s v) y)
  unfolding storing
  storing_with = stored_agree l _ _ cpu_stored s.dmaaddress s.dmadata s.dmadata (λ o. refl) _

module _ (l : Layout) (s t : Step) (e : blank l s ≡ blank l t) where
  cause_same : (m : Monitor) → cause l m s ≡ cause l m t
  unfolding cause
  cause_same m = ap (cause l m) e

  pub next_same : (m : Monitor) → next l m s ≡ next l m t
  unfolding next cause
  next_same m = ap (next l m) e

  answer_blank : (m : Monitor) (y : List ℕ) → decided_answer l m s y ≡ decided_answer l m t y
  unfolding answer exposing cause
  answer_blank m y = ap (λ (u : Step). decided_answer l m u y) e

  scratch_same : stores_scratch l s ≡ stores_scratch l t
  scratch_same = ap (stores_scratch l) e

  byte_same : stores_scratch l s ≡ false → s.cpudata ≡ t.cpudata
  byte_same h = simp (h, sym scratch_same ∙ h) at (ap (λ (u : Step). u.cpudata) e)

  with_same : with_data s t.cpudata ≡ t
  with_same = ap (λ (u : Step). with_data u t.cpudata) e

  storing_agree : (x y : List ℕ) → Agree l x y → Agree l (storing l s x) (storing l t y)
  storing_agree x y g =
      subst (λ (u : Step). Agree l (storing l s x) (storing l u y)) with_same
      (storing_with l s t.cpudata byte_same x y g)

  pub written_agree : (m : Monitor) (x y : List ℕ) → Agree l x y → Agree l (decided_memory l m s x) (decided_memory l m t y)
  unfolding written
  written_agree m x y g = rw (sym (cause_same m)) (pick_agree l (resets l m s) g (storing_agree x y g))

  pub answer_unseen : (m : Monitor) (x y : List ℕ) → Agree l x y → decided_answer l m s x ≡ decided_answer l m t y
  answer_unseen m x y g = answer_same l m s x y g ∙ answer_blank m y

-- ---- runs

-- what stands between two steps is the same, but for KR and XS
record Together (l : Layout) (x y : State) : Type 0 where
  monitors : x.monitor ≡ y.monitor
  memories : Agree l x.memory y.memory

module _ (l : Layout) (s t : ℕ → Step) (x y : State) (g : Together l x y) where
  together : (n : ℕ) → SameSteps l s t n → Together l (before l s x n) (before l t y n)
  unfolding before
  together zero e = g
  together (suc n) e =
      let r = together n (λ k h. e k (omega arith)) in
      let m = (before l s x n).monitor in
      let a = (before l s x n).memory in
      let b = (before l t y n).memory in
      let d = e n (omega arith) in
      record {
        monitors = rw (sym r.monitors) (next_same l (s n) (t n) d m);
        memories = rw (sym r.monitors) (written_agree l (s n) (t n) d m a b r.memories);
      }

  module _ (n : ℕ) (e : SameSteps l s t n) where
    cause_at_lem : (k : ℕ) → k < n → cause l (before l s x k).monitor (s k) ≡ cause l (before l t y k).monitor (t k)
    cause_at_lem k h =
        let r = together k (λ j i. e j (omega arith)) in
        rw (sym r.monitors) (cause_same l (s k) (t k) (e k h) (before l s x k).monitor)

    said_at : (k : ℕ) → k < n → said l s x k ≡ said l t y k
    said_at k h =
        let r = together k (λ j i. e j (omega arith)) in
        let a = (before l s x k).memory in
        let b = (before l t y k).memory in
        rw (sym r.monitors) (answer_unseen l (s k) (t k) (e k h) (before l s x k).monitor a b r.memories)

-- what each step tells makes up the whole
whole_same : (l : Layout) (s t : ℕ → Step) (x y : State) (n : ℕ)
    → ((k : ℕ) → k < n → said l s x k ≡ said l t y k)
    → ((k : ℕ) → k < n → cause l (before l s x k).monitor (s k) ≡ cause l (before l t y k).monitor (t k))
    → (answers l s x n ≡ answers l t y n) × (resetting l s x n ≡ resetting l t y n)
unfolding answers resetting
whole_same l s t x y zero f g = (refl, refl)
whole_same l s t x y (suc n) f g =
    let r = whole_same l s t x y n (λ k h. f k (omega arith)) (λ k h. g k (omega arith)) in
    let d = f n (omega arith) in
    let e = g n (omega arith) in
    (rw (r.0, d), rw (r.1, e))

unseen : (l : Layout) (s t : ℕ → Step) (x y : State) (n : ℕ) → Together l x y → SameSteps l s t n → Unseen l s t x y n
unseen l s t x y n g e =
    let r = together l s t x y g n e in
    let causes = cause_at_lem l s t x y g n e in
    let each = said_at l s t x y g n e in
    let whole = whole_same l s t x y n each causes in
    record {
      causes = causes;
      each = each;
      answered = whole.0;
      counted = whole.1;
      monitors = r.monitors;
      memories = r.memories;
    }

pub demand_3_from_any : FromAny
demand_3_from_any l m s t x y n g e = unseen l s t _ _ n (record { monitors = refl; memories = g }) e

pub demand_3_runs : Demand3Runs
demand_3_runs l = demand_3_from_any l start
