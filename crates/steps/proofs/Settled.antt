-- The promises settle their results: two that meet one are equal. Assumes nothing.
use Rattle.std.specs.Prelude.{◌≡◌, Bool, List, ℕ}
use Rattle.notions.proofs.Settled.{equation_settled}
use Rattle.steps.specs.declared.Step.{Step}
use Rattle.steps.specs.Promises.{Decodes, IsClean}

pub decodes_settled : (b : List ℕ) (r q : Step) → Decodes b r → Decodes b q → r ≡ q
decodes_settled b = equation_settled

pub is_clean_settled : (b : List ℕ) (r q : Bool) → IsClean b r → IsClean b q → r ≡ q
is_clean_settled b = equation_settled
