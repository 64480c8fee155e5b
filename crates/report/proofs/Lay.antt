-- Texts laid into a buffer one behind the other. Assumes nothing.
use mathlib.Core.Path.{◌≡◌, refl, ap, subst, ◌∙◌}
use mathlib.Core.List.{List, [], ◌++◌}
use Prim.Native.Nat.{ℕ, ◌+◌}
use native.Mathlib.Numerals.{add-one}
use native.Mathlib.Omega.{arith}
use lib.ListN.{length, length-append}
use lib.Seq.{sets}
use Rattle.octets.proofs.Laid.{sets_append}
use Rattle.effects.specs.declared.StepAnswer.{StepAnswer}
use Rattle.report.specs.declared.Writer.{Writer}
use Rattle.report.specs.Text.{line, lines}
use Rattle.report.specs.Inner.{Wrote}

-- one text and then another
infixl 30 ◌then◌
pub ◌then◌ : {u v w : Writer} {s t : List ℕ} → Wrote u v s → Wrote v w t → Wrote u w (s ++ t)
◌then◌ {u} {v} {w} {s} {t} p q =
    let e = length-append s t in
    record {
      same = q.same ∙ p.same;
      next = λ h. let i = p.next (omega (arith, h, e)) in omega (arith, i, h, e, q.next (omega (arith, i, h, e)));
      laid = λ h.
          let i = p.next (omega (arith, h, e)) in
          q.laid (omega (arith, i, h, e))
          ∙ ap (λ (n : ℕ). sets v.out.now n t) i
          ∙ ap (λ (l : List ℕ). sets l (u.at + length s) t) (p.laid (omega (arith, h, e)))
          ∙ sets_append s t u.out.now u.at;
    }

pub nothing : (w : Writer) → Wrote w w []
nothing w = record { same = refl; next = λ h. omega arith; laid = λ h. refl }

-- one line more
pub line_more : {u v w : Writer} (answer : ℕ → StepAnswer) (a : StepAnswer) (i : ℕ) → a ≡ answer i
    → Wrote u v (lines answer i) → Wrote v w (line i a) → Wrote u w (lines answer (i + 1))
unfolding lines
line_more {u} {v} {w} answer a i e p q = rw add-one (p then subst (λ (x : StepAnswer). Wrote v w (line i x)) e q)
