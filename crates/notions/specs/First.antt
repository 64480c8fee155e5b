-- "The first such" of the rules page. Its laws are in proofs/First.antt. Assumes nothing.
use Rattle.std.specs.Prelude.{Bool, ℕ, zero, suc, ltb, Option, Some, None}
use Rattle.notions.specs.Choice.{pick}

-- the least k below n with p k, and n if there is none
unfoldable pub first : ℕ → (ℕ → Bool) → ℕ
first zero p = 0
first (suc n) p = pick (p 0) 0 (suc (first n (λ k. p (suc k))))

-- the same where none is a value of its own
abbrev pub found : ℕ → (ℕ → Bool) → Option ℕ
found n p = pick (ltb (first n p) n) (Some (first n p)) None
