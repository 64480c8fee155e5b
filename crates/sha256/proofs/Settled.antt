-- Each promise settles its result: two results that meet it are equal.
-- Assumes nothing.
use Rattle.std.specs.Prelude.{◌≡◌, Bool, List, ℕ, Result}
use Rattle.std.proofs.Common.{sym, ap, ◌∙◌}
use Rattle.refusal.proofs.Settled.{row_settled}
use Rattle.notions.proofs.Settled.{equation_settled}
use Rattle.sha256.specs.declared.Sha.{Sha}
use Rattle.sha256.specs.declared.Taken.{Taken}
use Rattle.refusal.specs.declared.Refusal.{Refusal}
use Rattle.sha256.specs.Promises.{Gives, Starts, TakesIn, Finishes, Hashes}
use Rattle.refusal.specs.Answers.{Answer}

pub gives_settled : (t : Bool) (b : List ℕ) (r q : Result (List ℕ) Refusal) → Gives t b r → Gives t b q → r ≡ q
gives_settled t b = equation_settled

pub starts_settled : (r q : Sha) → Starts r → Starts q → r ≡ q
starts_settled r q p p' = p ∙ sym p'

pub takes_in_settled : {s : Sha} {x : List ℕ} (r q : Taken) → TakesIn s x r → TakesIn s x q → r ≡ q
takes_in_settled r q p p' =
    let a : r.answer ≡ q.answer = row_settled r.answer q.answer (p.answered ∙ sym p'.answered) in
    let e : r.state ≡ q.state = p.handed ∙ sym p'.handed in
    ap (λ (y : Answer). record { answer = y; state = r.state }) a
    ∙ ap (λ (y : Sha). record { answer = q.answer; state = y }) e

pub finishes_settled : (s : Sha) (r q : Result (List ℕ) Refusal) → Finishes s r → Finishes s q → r ≡ q
finishes_settled s r q p p' = gives_settled _ _ r q p p'

pub hashes_settled : (m : List ℕ) (r q : Result (List ℕ) Refusal) → Hashes m r → Hashes m q → r ≡ q
hashes_settled m r q p p' = gives_settled _ _ r q p p'
