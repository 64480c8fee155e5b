-- A row settles the answer of a check, and the promises of `holds`, `check` and `admit` their results. Assumes nothing.
use Rattle.std.specs.Prelude.{◌≡◌, Bool, List, ℕ, ◌+◌, get_or, Err, Ok, Result}
use Rattle.std.proofs.Common.{ap, sym, ◌∙◌}
use Rattle.layout.specs.declared.Region.{Region}
use Rattle.layout.specs.Promises.{Holds, checked_row, Checks, Admits}
use Rattle.refusal.specs.Answers.{Answer}
use Rattle.refusal.proofs.Settled.{refusal_settled}
use Rattle.layout.specs.declared.Layout.{Layout}
use Rattle.refusal.specs.declared.Refusal.{Refusal}

-- the answers that a row tells, read back from it
abbrev pair : List ℕ → ℕ → Region
pair v n = record { lo = get_or v n 0; hi = get_or v (n + 1) 0 }

abbrev good : List ℕ → Result Layout Refusal
good v = Ok (record { cr = pair v 1; kr = pair v 3; xs = pair v 5; mr = pair v 7; ctr = pair v 9; ar = pair v 11 })

pub checked_row_settled : (a b : Result Layout Refusal) → checked_row a ≡ checked_row b → a ≡ b
checked_row_settled (Ok l) (Ok m) e = ap good e
checked_row_settled (Ok l) (Err r) e = absurd (cc)
checked_row_settled (Err r) (Ok l) e = absurd (cc)
checked_row_settled (Err r) (Err s) e = ap Err (refusal_settled r s e)

pub holds_settled : (g : Region) (a : ℕ) (r q : Bool) → Holds g a r → Holds g a q → r ≡ q
holds_settled g a r q p p' = p ∙ sym p'

pub checks_settled : (b : List ℕ) (r q : Result Layout Refusal) → Checks b r → Checks b q → r ≡ q
checks_settled b r q p p' = checked_row_settled r q (p.answered ∙ sym p'.answered)

pub admits_settled : (memory layout : List ℕ) (rest : Answer) (r q : Result Layout Refusal)
    → Admits memory layout rest r → Admits memory layout rest q → r ≡ q
admits_settled memory layout rest r q p p' = checked_row_settled r q (p.answered ∙ sym p'.answered)
