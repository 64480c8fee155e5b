-- Each reset decision is the one that the rules give. Assumes nothing.
use mathlib.Core.Path.{◌≡◌, refl, sym, ap, subst, ◌∙◌}
use mathlib.Core.Bool.{not}
use mathlib.Core.List.{List, ◌++◌}
use Prim.Native.Nat.{ℕ, zero, suc, ◌*◌, ◌≤◌, ◌<◌}
use native.Mathlib.Nat.{add-zero}
use native.Mathlib.Omega.{arith}
use lib.Dec.{eqb, ltb}
use lib.ListN.{length, get_or, take, drop}
use lib.Seq.{get_or-take, get_or-drop}
use borrow.Author.Tests.{ltb-true}
use Rattle.notions.specs.Choice.{pick}
use Rattle.notions.specs.First.{first}
use Rattle.notions.proofs.Tests.{cases}
use Rattle.notions.proofs.First.{first_found, first_least, none_found}
use Rattle.layout.specs.declared.Layout.{Layout}
use Rattle.layout.specs.Layouts.{layout_of}
use Rattle.layout.specs.Calls.{call_check}
use Rattle.steps.specs.declared.Step.{Step}
use Rattle.rules.specs.declared.Monitor.{Monitor}
use Rattle.rules.specs.Rules.{rule15, broken, numbered, rule_numbers, cause}
use Rattle.monitor.specs.Decisions.{next, decided_answer}
use Rattle.rules.proofs.Laws.{held_away, quiet_passes, cause_lowest}
use Rattle.monitor.specs.declared.Totals.{Totals}
use Rattle.effects.specs.Effects.{bytes}
use Rattle.traces.specs.Traces.{answer_size, count, steps}
use Rattle.monitor.specs.Runs.{begin, before, resetting, room_after, totals}
use Rattle.traces.specs.Traces.{trace_check, step_check}
use Rattle.monitor.specs.Promises.{Traces}
use Rattle.effects.proofs.Laws.{answer_cause}
use Rattle.monitor.proofs.Laws.{answer_at_lem}
use Rattle.monitor.proofs.Checks.{traced_judged, stepped_judged}
use Rattle.claims_monitor.specs.Decisions as claim
use Rattle.claims_monitor.specs.Decisions.{Decides, Decided, monitor_before, causes_in}
use Rattle.std.specs.Prelude.{Ok}

-- ---- the cause is what the rules give, and nothing else is

cause_decides : (l : Layout) (m : Monitor) (s : Step) → Decides l m s (cause l m s)
cause_decides l m s =
    record {
      away = held_away l m s;
      lowest = λ e k h t f. cause_lowest l m s k e h t f;
      none = λ e f. quiet_passes l m s e f;
    }

decides_cause : (l : Layout) (m : Monitor) (s : Step) (c : ℕ) → Decides l m s c → c ≡ cause l m s
decides_cause l m s c d =
    let b = broken l m s in
    let n : ℕ = first rule_numbers (numbered b) in
    cases (rule15 m s) (λ e. d.away e ∙ sym (held_away l m s e))
    (λ e.
    cases (ltb n rule_numbers)
    (λ t.
    let h = ltb-true n rule_numbers t in
    let f = first_found rule_numbers (numbered b) h in
    d.lowest e n h f (first_least rule_numbers (numbered b)) ∙ sym (cause_lowest l m s n e h f (first_least rule_numbers (numbered b))))
    (λ t.
    let f = none_found rule_numbers (numbered b) t in
    d.none e f ∙ sym (quiet_passes l m s e f)))

pub decided_once : claim.DecidedOnce
decided_once l m s c d p q = decides_cause l m s c p ∙ sym (decides_cause l m s d q)

-- ---- a trace

-- what the monitor remembers in a run, whatever the memory
monitor_before_lem : (l : Layout) (t : ℕ → Step) (memory : List ℕ) (n : ℕ)
    → (before l t (begin memory) n).monitor ≡ monitor_before l t n
unfolding before monitor_before
monitor_before_lem l t memory zero = refl
monitor_before_lem l t memory (suc n) = ap (λ (m : Monitor). next l m (t n)) (monitor_before_lem l t memory n)

-- the first of an answer's bytes
opens : (b : List ℕ) (n : ℕ) → get_or (take answer_size (drop n b)) 0 0 ≡ get_or b n 0
opens b n =
    get_or-take answer_size (drop n b) 0 0 (omega arith) ∙ get_or-drop n b 0 0 ∙ ap (λ (k : ℕ). get_or b k 0) (add-zero n)

one_reset : (c : ℕ) → ◌≡◌ {A = ℕ} (pick (eqb c 0) 0 1) (pick (not (eqb c 0)) 1 0)
one_reset c = cases (eqb c 0) (λ e. simp e) (λ e. simp e)

module _ (memory layout trace room memory' room' : List ℕ) (total : Totals)
    (whole : Traces memory layout trace room memory' room' (Ok total)) where
  abbrev l : Layout
  l = layout_of layout

  abbrev remembers : ℕ → Monitor
  remembers n = (before l (steps trace) (begin memory) n).monitor

  done : (call_check memory layout (trace_check trace (length room)) ≡ Ok tt) × (total ≡ totals l trace memory)
  done =
      traced_judged (call_check memory layout (trace_check trace (length room))) total (totals l trace memory)
      whole.answered

  left : room' ≡ room_after l trace memory room
  left = whole.room_left ∙ simp done.0

  answer_byte : (i : ℕ) → i < count trace → get_or room' (answer_size * i) 0 ≡ cause l (remembers i) (steps trace i)
  answer_byte i h =
      let rest = drop (answer_size * count trace) room in
      ap (λ (b : List ℕ). get_or b (answer_size * i) 0) left
      ∙ sym (opens (room_after l trace memory room) (answer_size * i))
      ∙ ap (λ (b : List ℕ). get_or b 0 0) (answer_at_lem l (steps trace) (begin memory) (count trace) i rest h)
      ∙ answer_cause l (cause l (remembers i) (steps trace i)) (steps trace i) (before l (steps trace) (begin memory) i).memory

  resets_told : (n : ℕ) → n ≤ count trace → resetting l (steps trace) (begin memory) n ≡ causes_in room' n
  unfolding causes_in resetting
  resets_told zero h = refl
  resets_told (suc n) h =
      cc (resets_told n (omega arith), one_reset (cause l (remembers n) (steps trace n)), answer_byte n h)

  decided : Decided layout trace room' total
  decided =
      record {
        each = λ i h.
            subst (λ (m : Monitor). Decides l m (steps trace i) (get_or room' (answer_size * i) 0))
            (monitor_before_lem l (steps trace) memory i)
            (subst (λ (c : ℕ). Decides l (remembers i) (steps trace i) c) (sym (answer_byte i h))
            (cause_decides l (remembers i) (steps trace i)));
        steps = ap (λ (t : Totals). t.steps) done.1;
        resets = ap (λ (t : Totals). t.resets) done.1 ∙ resets_told (count trace) (omega arith);
      }

pub reset_decision : claim.ResetDecision
reset_decision = decided

-- ---- one step

pub step_decision : claim.StepDecision
unfolding next
step_decision memory layout step m room memory' room' m' p =
    let l : Layout = layout_of layout in
    let s : Step = steps step 0 in
    let d = stepped_judged (call_check memory layout (step_check step (length room))) m' (next l m s) p.answered in
    let e : room' ≡ bytes (decided_answer l m s memory) ++ drop answer_size room = p.room_left ∙ simp d.0 in
    let c : get_or room' 0 0 ≡ cause l m s = ap (λ (b : List ℕ). get_or b 0 0) e ∙ answer_cause l (cause l m s) s memory in (
      subst (Decides l m s) (sym c) (cause_decides l m s),
      d.1 ∙ ap (λ (n : ℕ). record { held = not (eqb n 0); lastpc = s.pc }) (sym c),
    )
