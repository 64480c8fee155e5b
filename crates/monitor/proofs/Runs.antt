-- Runs over steps that agree. Assumes nothing.
use mathlib.Core.Path.{◌≡◌, refl}
use Prim.Native.Nat.{ℕ, zero, suc, ◌<◌}
use native.Mathlib.Omega.{arith}
use Rattle.layout.specs.declared.Layout.{Layout}
use Rattle.steps.specs.declared.Step.{Step}
use Rattle.monitor.specs.Decisions.{resets}
use Rattle.monitor.specs.Runs.{State, before, said, answers, resetting}

-- a step of two runs at which the same stands and the same is done
module _ (l : Layout) (t u : ℕ → Step) (x y : State) (i j : ℕ) (e : before l t x i ≡ before l u y j) (s : t i ≡ u j)
  where
    pub same_next : before l t x (suc i) ≡ before l u y (suc j)
    unfolding before
    same_next = cc

    pub same_said : said l t x i ≡ said l u y j
    same_said = cc

    pub same_resets : resets l (before l t x i).monitor (t i) ≡ resets l (before l u y j).monitor (u j)
    same_resets = cc

-- n steps of two traces that agree on these
pub record Alike (l : Layout) (t u : ℕ → Step) (x : State) (n : ℕ) : Type 0 where
  pub left : before l t x n ≡ before l u x n
  pub answered : answers l t x n ≡ answers l u x n
  pub counted : resetting l t x n ≡ resetting l u x n

pub alike : (l : Layout) (t u : ℕ → Step) (x : State) (n : ℕ) → ((i : ℕ) → i < n → t i ≡ u i) → Alike l t u x n
unfolding before answers resetting
alike l t u x zero f = record { left = refl; answered = refl; counted = refl }
alike l t u x (suc n) f =
    let a = alike l t u x n (λ i h. f i (omega arith)) in
    let s = f n (omega arith) in
    record {
      left = same_next l t u x x n n a.left s;
      answered = cc (a.answered, same_said l t u x x n n a.left s);
      counted = cc (a.counted, same_resets l t u x x n n a.left s);
    }
