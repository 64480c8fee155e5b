-- Runs of traces in parts. Assumes nothing.
use mathlib.Core.Path.{◌≡◌}
use mathlib.Core.List.{append_assoc, append-nil}
use Prim.Native.Nat.{ℕ, zero, suc, ◌+◌, ◌<◌}
use native.Mathlib.Nat.{add-zero, add-suc, add_assoc}
use native.Mathlib.Omega.{arith}
use Rattle.notions.specs.Choice.{pick}
use Rattle.layout.specs.declared.Layout.{Layout}
use Rattle.steps.specs.declared.Step.{Step}
use Rattle.monitor.specs.Decisions.{resets}
use Rattle.effects.specs.Effects.{bytes}
use Rattle.monitor.specs.Runs.{State, before, said, answers, resetting}
use Rattle.monitor.proofs.Runs.{same_next, same_said, same_resets, alike}
use Rattle.claims_monitor.specs.Traces.{InParts}

-- what step k adds to the count of resets
abbrev one : Layout → (ℕ → Step) → State → ℕ → ℕ
one l t x k = pick (resets l (before l t x k).monitor (t k)) 1 0

-- n steps of u and then k of v, if t is the one behind the other
pub in_parts : (l : Layout) (t u v : ℕ → Step) (x : State) (n k : ℕ)
    → ((i : ℕ) → i < n → t i ≡ u i) → ((i : ℕ) → i < k → t (n + i) ≡ v i) → InParts l t u v x n k
unfolding before answers resetting
in_parts l t u v x n zero f g =
    let a = alike l t u x n f in
    record {
      left = rw add-zero a.left;
      answered = rw (add-zero, append-nil) a.answered;
      counted = simp add-zero a.counted;
    }
in_parts l t u v x n (suc k) f g =
    let a = in_parts l t u v x n k f (λ i h. g i (omega arith)) in
    let s = g k (omega arith) in
    let y = before l u x n in
    record {
      left = rw add-suc (same_next l t v x y (n + k) k a.left s);
      answered =
          rw add-suc
          (cc (
            a.answered,
            same_said l t v x y (n + k) k a.left s,
            append_assoc (answers l u x n) (answers l v y k) (bytes (said l v y k)),
          ));
      counted =
          rw add-suc
          (cc (
            a.counted,
            same_resets l t v x y (n + k) k a.left s,
            add_assoc (resetting l u x n) (resetting l v y k) (one l v y k),
          ));
    }
