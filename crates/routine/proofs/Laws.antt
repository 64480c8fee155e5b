-- The laws of the routine, for readers and for the crates above. Assumes nothing.
use mathlib.Core.Path.{◌≡◌, refl, sym, ap}
use mathlib.Core.Logic.{◌≢◌}
use mathlib.Core.Bool.{true, false, not}
use mathlib.Core.List.{List}
use Prim.Native.Nat.{ℕ, ◌≤◌}
use native.Mathlib.Omega.{arith}
use borrow.Author.Tests.{not-false}
use lib.ListN.{length}
use Rattle.notions.specs.Bytes.{Bytes}
use Rattle.refusal.specs.Numbers.{number}
use Rattle.refusal.specs.Answers.{refused_at}
use Rattle.refusal.specs.declared.Reason.TheVariants.{ChallengeNotGreater, TokenDiffers}
use Rattle.notions.proofs.Tests.{untrue}
use Rattle.refusal.proofs.Order.{done_passed, Refuses, refuses_none, refuses_test}
use Rattle.hmac.specs.Hmac.{hmac}
use Rattle.hmac.proofs.Laws.{length_hmac, bytes_hmac}
use Rattle.routine.specs.Strings.{greater, same}
use Rattle.routine.specs.Routine.{token, one_time_key, reply_to, reply, request_check}
use Rattle.routine.proofs.Order.{equal_same, same_equal}
use Rattle.std.specs.Prelude.{Ok}

-- ---- in HMACs

pub token_is : (k challenge : List ℕ) → token k challenge ≡ hmac k challenge
unfolding token
token_is k challenge = refl

pub reply_is : (k challenge region : List ℕ) → reply k challenge region ≡ hmac (hmac k (hmac k challenge)) region
unfolding reply reply_to one_time_key token
reply_is k challenge region = refl

pub length_reply : (k challenge region : List ℕ) → length (reply k challenge region) ≡ 32
unfolding reply reply_to
length_reply k challenge region = length_hmac _ region

-- the reply to a T that equals the challenge's
pub reply_to_is : (k challenge t region : List ℕ) → token k challenge ≡ t
    → reply_to k t region ≡ reply k challenge region
unfolding reply
reply_to_is k challenge t region e = ap (λ (x : List ℕ). reply_to k x region) (sym e)

pub bytes_reply : (k challenge region : List ℕ) → Bytes (reply k challenge region)
unfolding reply reply_to
bytes_reply k challenge region = bytes_hmac _ region

-- ---- steps 1 and 2

pub request_passed : (k challenge received counter : List ℕ) → request_check k challenge received counter ≡ Ok tt
    → (greater challenge counter ≡ true) × (token k challenge ≡ received)
unfolding request_check
request_passed k challenge received counter e =
    let p = done_passed (not (greater challenge counter)) _ _ e in
    let q = done_passed (not (same (token k challenge) received)) _ _ p.1 in
    (not-false _ p.0, same_equal (token k challenge) received (not-false _ q.0))

pub request_passes : (k challenge received counter : List ℕ) → greater challenge counter ≡ true
    → token k challenge ≡ received
    → request_check k challenge received counter ≡ Ok tt
unfolding request_check
request_passes k challenge received counter g e = simp (g, equal_same (token k challenge) received e)

-- refused with 10 or 11
pub request_old : (k challenge received counter : List ℕ) → greater challenge counter ≡ false
    → request_check k challenge received counter ≡ refused_at ChallengeNotGreater 0
unfolding request_check
request_old k challenge received counter g = simp g

pub request_forged : (k challenge received counter : List ℕ) → greater challenge counter ≡ true
    → token k challenge ≢ received
    → request_check k challenge received counter ≡ refused_at TokenDiffers 0
unfolding request_check
request_forged k challenge received counter g n =
    simp (g, untrue (same (token k challenge) received) (λ e. n (same_equal (token k challenge) received e)))

pub request_numbers : (k challenge received counter : List ℕ)
    → Refuses (λ n. (number ChallengeNotGreater ≤ n) × (n ≤ number TokenDiffers)) (request_check k challenge received counter)
unfolding request_check
request_numbers k challenge received counter =
    let P : ℕ → Type 0 = λ n. (number ChallengeNotGreater ≤ n) × (n ≤ number TokenDiffers) in
    refuses_test P (not (greater challenge counter)) ChallengeNotGreater 0 _ (omega arith, omega arith)
    (refuses_test P (not (same (token k challenge) received)) TokenDiffers 0 (Ok tt) (omega arith, omega arith)
    (refuses_none P))
