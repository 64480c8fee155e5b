-- 1 or 0 settles a flag, and an equation its result. Assumes nothing.
use Rattle.std.specs.Prelude.{◌≡◌, refl, Bool, true, false, ℕ}
use Rattle.std.proofs.Common.{sym, ◌∙◌, arith}
use Rattle.notions.specs.Choice.{pick}

-- a flag as a number
pub flag_settled : (a b : Bool) → pick {A = ℕ} a 1 0 ≡ pick b 1 0 → a ≡ b
flag_settled true true e = refl
flag_settled true false e = absurd (omega arith)
flag_settled false true e = absurd (omega arith)
flag_settled false false e = refl

-- a promise that is an equation with a function of the inputs, as many are, is met by one result
pub equation_settled : {A : Type 0} {x : A} (r q : A) → r ≡ x → q ≡ x → r ≡ q
equation_settled r q p p' = p ∙ sym p'
