-- The token, the reply and steps 1 and 2, from the calls that make them, on plain variables. Assumes nothing.
use mathlib.Core.Path.{◌≡◌, ap, ◌∙◌}
use mathlib.Core.Bool.{true, false, ◌||◌}
use mathlib.Core.List.{List}
use Prim.Native.Nat.{ℕ}
use Rattle.refusal.specs.Answers.{refusal_row}
use Rattle.refusal.specs.declared.Reason.TheVariants.{ChallengeNotGreater, TokenDiffers}
use Rattle.notions.proofs.Tests.{neither}
use Rattle.refusal.specs.declared.Refusal.{Refusal}
use Rattle.sha256.proofs.Laws.{gives_ok}
use Rattle.hmac.specs.Hmac.{hmac}
use Rattle.hmac.specs.Promises.{long, Macs}
use Rattle.hmac.proofs.Laws.{hmac_short}
use Rattle.routine.specs.Strings.{greater, same}
use Rattle.routine.specs.Routine.{token, one_time_key, reply_to, reply, request_check}
use Rattle.routine.specs.Promises.{Tokens, RepliesTo, Replies, Authorises}
use Rattle.std.specs.Prelude.{Ok, Err, Result}

pub reply_to_made : (k t region o : List ℕ) (r : Result (List ℕ) Refusal) → Macs k t (Ok o) → Macs o region r
    → RepliesTo k t region r
unfolding reply_to one_time_key
reply_to_made k t region o r po pr =
    let e = gives_ok (long k || long t) (hmac k t) po in
    let s : long (hmac k t) ≡ false = hmac_short k t in
    rw e.0 (rw (e.1, s) at pr)

pub reply_made : (k challenge region t : List ℕ) (r : Result (List ℕ) Refusal) → Tokens k challenge (Ok t)
    → RepliesTo k t region r → Replies k challenge region r
unfolding reply token
reply_made k challenge region t r pt pr =
    let e = gives_ok (long k || long challenge) (hmac k challenge) pt in
    let a = neither (long k) (long challenge) e.0 in
    rw (e.0) (rw (e.1, a.0, hmac_short k challenge) at pr)

-- ---- steps 1 and 2

module _ (k challenge received counter : List ℕ) where
  pub refuses_old : {r : Refusal} → greater challenge counter ≡ false → r ≡ record { reason = ChallengeNotGreater; place = 0 }
      → Authorises k challenge received counter (Err r)
  unfolding request_check
  refuses_old g e = record { answered = ap refusal_row e ∙ simp g }

  module _ (g : greater challenge counter ≡ true) {t : List ℕ} (p : Tokens k challenge (Ok t)) where
    made : ((long k || long challenge) ≡ false) × (t ≡ token k challenge)
    made = gives_ok (long k || long challenge) (token k challenge) p

    pub refuses_token : {r : Refusal} → same t received ≡ false → r ≡ record { reason = TokenDiffers; place = 0 }
        → Authorises k challenge received counter (Err r)
    unfolding request_check
    refuses_token s e = record { answered = ap refusal_row e ∙ simp (g, made.0, rw made.1 at s) }

    pub authorises : same t received ≡ true → Authorises k challenge received counter (Ok tt)
    unfolding request_check
    authorises s = record { answered = simp (g, made.0, rw made.1 at s) }
