-- What is read at a place, by what holds there. Assumes nothing.
use Rattle.std.specs.Prelude.{Some, None, Ok, Err}
use mathlib.Core.Path.{◌≡◌, refl, sym, subst, ◌∙◌}
use mathlib.Core.Bool.{Bool, true, false}
use mathlib.Core.List.{List}
use Prim.Native.Nat.{ℕ, ◌≤◌, ◌<◌}
use lib.Dec.{leb}
use borrow.Author.Tests.{le-leb, lt-leb, leb-false}
use Rattle.notions.specs.Choice.{pick}
use Rattle.refusal.specs.declared.Reason.TheVariants.{TraceSize, StepNotZero}
use Rattle.refusal.specs.declared.Refusal.{Refusal}
use Rattle.steps.specs.declared.Step.{Step}
use Rattle.traces.specs.Traces.{count, steps, misfits, unclean}
use Rattle.reader.specs.Reading.{Read, refused_read, read_at}
use Rattle.reader.specs.Promises.{ReadsAt}
use Rattle.reader.proofs.Settled.{read_row_settled}

-- ---- the four answers

module _ (b : List ℕ) (p : ℕ) where
  pub read_nothing : misfits b ≡ true → read_at b p ≡ refused_read TraceSize 0
  unfolding read_at
  read_nothing m = simp m

  module _ (m : misfits b ≡ false) where
    pub read_end : count b ≤ p → read_at b p ≡ Ok None
    unfolding read_at
    read_end h = simp (m, le-leb (count b) p h)

    module _ (h : p < count b) where
      pub read_unclean : unclean b p ≡ true → read_at b p ≡ refused_read StepNotZero p
      unfolding read_at
      read_unclean u = simp (m, lt-leb (count b) p h, u)

      pub read_step : unclean b p ≡ false → read_at b p ≡ Ok (Some (steps b p))
      unfolding read_at
      read_step u = simp (m, lt-leb (count b) p h, u)

-- ---- a step

abbrev pub IsStep : Read → Type 0
IsStep (Ok (Some s)) = Unit {0}
IsStep (Ok None) = ⊥
IsStep (Err r) = ⊥

-- a step was chosen only behind both tests
behind : (t u : Bool) (r : Refusal) (x : Read) → IsStep (pick t (Err r) (pick u (Ok None) x)) → u ≡ false
behind true u r x h = absurd h
behind false true r x h = absurd h
behind false false r x h = refl

-- a step is read only where the trace has one
pub step_within : (b : List ℕ) (p : ℕ) (s : Step) → read_at b p ≡ Ok (Some s) → p < count b
unfolding read_at
step_within b p s e = leb-false (count b) p (behind (misfits b) (leb (count b) p) _ _ (subst IsStep (sym e) tt))

pub read_at_lem : (b : List ℕ) (p : ℕ) (r q : Read) → ReadsAt b p r → r ≡ q → read_at b p ≡ q
read_at_lem b p r q a e = sym (read_row_settled r (read_at b p) a.answered) ∙ e
