-- The station's promises settle their results. Assumes nothing.
use Rattle.std.specs.Prelude.{Bool, Err, Ok, Result, false, true, ◌≡◌, refl, List, ℕ}
use Rattle.std.proofs.Common.{ap, sym, ◌∙◌}
use Rattle.refusal.proofs.Settled.{refusal_settled}
use Rattle.sha256.proofs.Settled.{gives_settled}
use Rattle.station.specs.Promises.{verdict_row, MakesToken, ChecksReply}
use Rattle.refusal.specs.declared.Refusal.{Refusal}

pub verdict_row_settled : (a b : Result Bool Refusal) → verdict_row a ≡ verdict_row b → a ≡ b
verdict_row_settled (Ok true) (Ok true) e = refl
verdict_row_settled (Ok true) (Ok false) e = absurd (cc)
verdict_row_settled (Ok true) (Err r) e = absurd (cc)
verdict_row_settled (Ok false) (Ok true) e = absurd (cc)
verdict_row_settled (Ok false) (Ok false) e = refl
verdict_row_settled (Ok false) (Err r) e = absurd (cc)
verdict_row_settled (Err r) (Ok true) e = absurd (cc)
verdict_row_settled (Err r) (Ok false) e = absurd (cc)
verdict_row_settled (Err r) (Err s) e = ap Err (refusal_settled r s e)

pub makes_token_settled : (k challenge : List ℕ) (r q : Result (List ℕ) Refusal) → MakesToken k challenge r → MakesToken k challenge q
    → r ≡ q
makes_token_settled k challenge r q p p' = gives_settled _ _ r q p p'

pub checks_reply_settled : (k challenge given region : List ℕ) (r q : Result Bool Refusal)
    → ChecksReply k challenge given region r → ChecksReply k challenge given region q → r ≡ q
checks_reply_settled k challenge given region r q p p' = verdict_row_settled r q (p.answered ∙ sym p'.answered)
