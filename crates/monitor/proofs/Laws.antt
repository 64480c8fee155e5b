-- The laws of runs, for readers and for the crates above. Assumes nothing.
use mathlib.Core.Path.{◌≡◌, refl, sym, ◌∙◌}
use mathlib.Core.Logic.{◌≢◌}
use mathlib.Core.List.{List, ◌++◌, append_assoc}
use Prim.Native.Nat.{ℕ, zero, suc, ◌*◌, ◌<◌}
use native.Mathlib.Nat.{not-suc-le-zero}
use native.Mathlib.Omega.{arith}
use lib.Dec.{eqb}
use lib.ListN.{length, take, drop, length-append}
use lib.Seq.{drop_at}
use borrow.Author.Tests.{eqb-true, eqb-false}
use Rattle.notions.proofs.Tests.{cases}
use Rattle.layout.specs.declared.Layout.{Layout}
use Rattle.steps.specs.declared.Step.{Step}
use Rattle.effects.specs.Effects.{bytes}
use Rattle.effects.proofs.Laws.{length_written}
use Rattle.monitor.specs.Runs.{State, before, said, answers}
use Rattle.traces.specs.Traces.{answer_size}

-- four answer bytes a step
pub length_answers : (l : Layout) (t : ℕ → Step) (x : State) (n : ℕ) → length (answers l t x n) ≡ answer_size * n
unfolding answers
length_answers l t x zero = refl
length_answers l t x (suc n) =
    omega (arith, length-append (answers l t x n) (bytes (said l t x n)), length_answers l t x n)

-- no run makes the memory longer or shorter
pub length_before : (l : Layout) (t : ℕ → Step) (x : State) (n : ℕ)
    → length (before l t x n).memory ≡ length x.memory
unfolding before
length_before l t x zero = refl
length_before l t x (suc n) = length_written l _ (t n) _ ∙ length_before l t x n

-- the four bytes of step i stand at 4 * i
pub answer_at_lem : (l : Layout) (t : ℕ → Step) (x : State) (n i : ℕ) (rest : List ℕ) → i < n
    → take answer_size (drop (answer_size * i) (answers l t x n ++ rest)) ≡ bytes (said l t x i)
unfolding answers
answer_at_lem l t x zero i rest h = absurd (not-suc-le-zero h)
answer_at_lem l t x (suc n) i rest h =
    rw append_assoc
    (cases (eqb n i)
    (λ e. rw (sym (eqb-true n i e), drop_at (answers l t x n) _ (answer_size * n) (length_answers l t x n)))
    (λ e. let g : n ≢ i = eqb-false n i e in answer_at_lem l t x n i (bytes (said l t x n) ++ rest) (omega arith)))
