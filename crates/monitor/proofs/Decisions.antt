-- Steps that pass and steps that reset, for readers and for the crates above. Assumes nothing.
use mathlib.Core.Path.{◌≡◌, ap, ◌∙◌}
use mathlib.Core.Logic.{◌≢◌}
use mathlib.Core.Bool.{Bool, true, false}
use Prim.Native.Nat.{ℕ, ◌<◌}
use lib.Dec.{eqb}
use borrow.Author.Tests.{eqb-true, eqb-false, not-true, not-false}
use Rattle.notions.proofs.Tests.{cases, clash}
use Rattle.layout.specs.declared.Layout.{Layout}
use Rattle.layout.specs.Regions.{within}
use Rattle.steps.specs.declared.Step.{Step}
use Rattle.rules.specs.declared.Monitor.{Monitor}
use Rattle.rules.specs.Rules.{rule15, broken, numbered, rule_numbers, cause}
use Rattle.rules.proofs.Laws.{quiet, unheld}
use Rattle.monitor.specs.Decisions.{resets}

module _ (l : Layout) (m : Monitor) (s : Step) where
  pub reset_cause : resets l m s ≡ true → cause l m s ≢ 0
  reset_cause e = eqb-false (cause l m s) 0 (not-true (eqb (cause l m s) 0) e)

  pub passes_cause : resets l m s ≡ false → cause l m s ≡ 0
  passes_cause e = eqb-true (cause l m s) 0 (not-false (eqb (cause l m s) 0) e)

  -- a step that does not reset breaks no rule that is tried
  pub passes_quiet : resets l m s ≡ false → (k : ℕ) → k < rule_numbers → numbered (broken l m s) k ≡ false
  passes_quiet e = quiet l m s (passes_cause e)

  pub passes_unheld : resets l m s ≡ false → rule15 m s ≡ false
  passes_unheld e = unheld l m s (passes_cause e)

  -- a step that breaks one resets
  pub breaks_resets : (k : ℕ) → k < rule_numbers → numbered (broken l m s) k ≡ true → resets l m s ≡ true
  breaks_resets k h e = cases (resets l m s) (λ r. r) (λ r. clash (numbered (broken l m s) k) e (passes_quiet r k h))

  -- so a test that would break one fails at a step that does not
  pub passes_only : resets l m s ≡ false → (k : ℕ) → k < rule_numbers → (t : Bool)
      → (t ≡ true → numbered (broken l m s) k ≡ true)
      → t ≡ false
  passes_only r k h t f = cases t (λ e. clash (numbered (broken l m s) k) (f e) (passes_quiet r k h)) (λ e. e)

-- where CR does not hold 0, a step with PC in CR that does not reset is not held
pub inside_unheld : (l : Layout) (m : Monitor) (s : Step) → within l.cr 0 ≡ false → within l.cr s.pc ≡ true
    → resets l m s ≡ false → m.held ≡ false
inside_unheld l m s z i r =
    cases (eqb s.pc 0)
    (λ e. clash (within l.cr s.pc) i (ap (within l.cr) (eqb-true s.pc 0 e) ∙ z))
    (λ e. cases m.held (λ h. clash (rule15 m s) (simp (h, e)) (passes_unheld l m s r)) (λ h. h))
