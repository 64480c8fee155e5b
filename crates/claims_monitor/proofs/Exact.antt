-- Every byte outside KR and XS can be exposed, so two memories have to agree there. Assumes nothing.
use mathlib.Core.Path.{◌≡◌, sym, ap, ◌∙◌}
use mathlib.Core.Bool.{true, and-false}
use mathlib.Core.List.{List}
use Prim.Native.Nat.{ℕ, ◌≤◌}
use native.Mathlib.Omega.{arith}
use lib.Dec.{ltb}
use lib.ListN.{length, get_or, get_or-eq_default}
use borrow.Author.Tests.{not-true, ltb-true, ltb-false}
use Rattle.notions.specs.First.{first}
use Rattle.notions.proofs.Tests.{cases}
use Rattle.layout.specs.declared.Layout.{Layout}
use Rattle.layout.specs.Regions.{within, outside}
use Rattle.rules.specs.Rules.{cause, start}
use Rattle.effects.specs.declared.StepAnswer.{StepAnswer}
use Rattle.effects.specs.Effects.{exposing, answer}
use Rattle.monitor.specs.Decisions.{decided_answer}
use Rattle.claims_monitor.specs.Marked.{dma_reads}
use Rattle.claims_monitor.specs.Demand3.{Demand3Exact}

module _ (l : Layout) (k : ℕ) (kr : outside l.kr k ≡ true) (xs : outside l.xs k ≡ true) where
  look_passes : cause l start (dma_reads 0 k) ≡ 0
  unfolding cause first
  look_passes = simp (and-false, not-true (within l.kr k) kr, not-true (within l.xs k) xs)

  look_shows : (x : List ℕ) → (decided_answer l start (dma_reads 0 k) x).dmabyte ≡ get_or x k 0
  unfolding answer exposing
  look_shows x = simp look_passes

-- behind its end a list has nothing to tell
behind : (x y : List ℕ) (k : ℕ) → length x ≡ length y → length x ≤ k → get_or x k 0 ≡ get_or y k 0
behind x y k e h = get_or-eq_default x 0 h ∙ sym (get_or-eq_default y 0 (omega arith))

shown : (l : Layout) (x y : List ℕ) (k : ℕ) → decided_answer l start (dma_reads 0 k) x ≡ decided_answer l start (dma_reads 0 k) y
    → outside l.kr k ≡ true → outside l.xs k ≡ true → get_or x k 0 ≡ get_or y k 0
shown l x y k e kr xs = sym (look_shows l k kr xs x) ∙ ap (λ (a : StepAnswer). a.dmabyte) e ∙ look_shows l k kr xs y

pub demand_3_exact : Demand3Exact
demand_3_exact l x y e f = record {
  long = e;
  same =
      λ k kr xs.
      cases (ltb k (length x))
      (λ h. shown l x y k (f k (ltb-true k (length x) h)) kr xs)
      (λ h. behind x y k e (ltb-false k (length x) h));
}
