-- The promises settle their results: two that meet one are equal. Assumes nothing.
use Rattle.std.specs.Prelude.{◌≡◌, Bool, List, ℕ}
use Rattle.std.proofs.Common.{sym, ◌∙◌}
use Rattle.notions.proofs.Settled.{equation_settled}
use Rattle.refusal.proofs.Settled.{row_settled}
use Rattle.traces.specs.Promises.{GivesRecord, Misfits, Fits, StepFits}
use Rattle.refusal.specs.Answers.{Answer}

pub gives_record_settled : (trace : List ℕ) (n : ℕ) (r q : List ℕ) → GivesRecord trace n r → GivesRecord trace n q
    → r ≡ q
gives_record_settled trace n = equation_settled

pub misfits_settled : (trace : List ℕ) (r q : Bool) → Misfits trace r → Misfits trace q → r ≡ q
misfits_settled trace = equation_settled

pub fits_settled : (trace : List ℕ) (room : ℕ) (r q : Answer) → Fits trace room r → Fits trace room q → r ≡ q
fits_settled trace room r q p p' = row_settled r q (p.answered ∙ sym p'.answered)

pub step_fits_settled : (step : List ℕ) (room : ℕ) (r q : Answer) → StepFits step room r → StepFits step room q → r ≡ q
step_fits_settled step room r q p p' = row_settled r q (p.answered ∙ sym p'.answered)
