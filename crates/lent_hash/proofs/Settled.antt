-- Each promise settles the answer and the object. Assumes nothing.
use Rattle.std.specs.Prelude.{◌≡◌, List, ℕ, Result}
use Rattle.std.proofs.Common.{ap, sym, ◌∙◌}
use Rattle.sha256.specs.declared.Sha.{Sha}
use Rattle.sha256.specs.declared.Taken.{Taken}
use Rattle.refusal.specs.declared.Refusal.{Refusal}
use Rattle.sha256.specs.Promises as by_value
use Rattle.sha256.proofs.Settled as by_value_settled
use Rattle.lent_hash.specs.declared.Finished.{Finished}
use Rattle.lent_hash.specs.Promises.{Starts, TakesIn, Finishes, FinishesLent}
use Rattle.refusal.specs.Answers.{Answer}

pub starts_settled : (s₁ s₂ : Sha) → Starts s₁ → Starts s₂ → s₁ ≡ s₂
starts_settled s₁ s₂ p q = by_value_settled.starts_settled s₁ s₂ p q

-- the lent object and the state by value: the same answer, the same state
pub as_by_value : {s : Sha} {x : List ℕ} (s' : Sha) (r : Answer) (t : Taken) → TakesIn s x s' r → by_value.TakesIn s x t
    → (r ≡ t.answer) × (s' ≡ t.state)
as_by_value s' r t p q =
    let e = by_value_settled.takes_in_settled (record { answer = r; state = s' }) t p q in
    (ap (λ (u : Taken). u.answer) e, ap (λ (u : Taken). u.state) e)

pub takes_in_settled : {s : Sha} {x : List ℕ} (s₁ s₂ : Sha) (r q : Answer) → TakesIn s x s₁ r → TakesIn s x s₂ q
    → (r ≡ q) × (s₁ ≡ s₂)
takes_in_settled s₁ s₂ r q p p' = as_by_value s₁ r (record { answer = q; state = s₂ }) p p'

pub finishes_settled : (s : Sha) (r q : Result (List ℕ) Refusal) → Finishes s r → Finishes s q → r ≡ q
finishes_settled s r q p p' = by_value_settled.finishes_settled s r q p p'

pub finishes_lent_settled : (s : Sha) (r q : Finished) → FinishesLent s r → FinishesLent s q → r ≡ q
finishes_lent_settled s r q p p' =
    let digest = finishes_settled s r.digest q.digest p.finished p'.finished in
    let state = p.kept ∙ sym p'.kept in
    λ i. record { digest = digest i; state = state i }
