-- Each promise settles its result. Assumes nothing.
use Rattle.std.specs.Prelude.{◌≡◌, Bool, List, ℕ, Result}
use Rattle.std.proofs.Common.{sym, ◌∙◌}
use Rattle.refusal.proofs.Settled.{row_settled}
use Rattle.refusal.specs.declared.Refusal.{Refusal}
use Rattle.sha256.proofs.Settled.{gives_settled}
use Rattle.routine.specs.Promises.{Compares, Equals, Tokens, RepliesTo, Replies, Authorises}
use Rattle.refusal.specs.Answers.{Answer}

pub compares_settled : (a b : List ℕ) (r q : Bool) → Compares a b r → Compares a b q → r ≡ q
compares_settled a b r q p p' = p ∙ sym p'

pub equals_settled : (a b : List ℕ) (r q : Bool) → Equals a b r → Equals a b q → r ≡ q
equals_settled a b r q p p' = p ∙ sym p'

pub tokens_settled : (k challenge : List ℕ) (r q : Result (List ℕ) Refusal) → Tokens k challenge r → Tokens k challenge q → r ≡ q
tokens_settled k challenge r q p p' = gives_settled _ _ r q p p'

pub replies_to_settled : (k t region : List ℕ) (r q : Result (List ℕ) Refusal) → RepliesTo k t region r → RepliesTo k t region q → r ≡ q
replies_to_settled k t region r q p p' = gives_settled _ _ r q p p'

pub replies_settled : (k challenge region : List ℕ) (r q : Result (List ℕ) Refusal)
    → Replies k challenge region r → Replies k challenge region q → r ≡ q
replies_settled k challenge region r q p p' = gives_settled _ _ r q p p'

pub authorises_settled : (k challenge received counter : List ℕ) (r q : Answer)
    → Authorises k challenge received counter r → Authorises k challenge received counter q → r ≡ q
authorises_settled k challenge received counter r q p p' = row_settled r q (p.answered ∙ sym p'.answered)
