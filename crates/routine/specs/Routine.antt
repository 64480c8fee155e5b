-- The attestation routine with verifier authentication, over a key K, a challenge and a region. Assumes nothing.
use Rattle.std.specs.Prelude.{Ok, not, List, ℕ}
use Rattle.notions.specs.Choice.{pick}
use Rattle.refusal.specs.Answers.{Answer, refused_at}
use Rattle.refusal.specs.declared.Reason.TheVariants.{ChallengeNotGreater, TokenDiffers}
use Rattle.hmac.specs.Hmac.{hmac}
use Rattle.routine.specs.Strings.{greater, same}

-- a key is 64 bytes; a challenge, a token and a reply are strings of 32
abbrev pub key_bytes : ℕ
key_bytes = 64

abbrev pub string_bytes : ℕ
string_bytes = 32

-- step 2: T = HMAC(K, challenge)
unfoldable pub token : List ℕ → List ℕ → List ℕ
token k challenge = hmac k challenge

-- step 3: one-time key = HMAC(K, T), made from the token and never from the challenge itself
unfoldable pub one_time_key : List ℕ → List ℕ → List ℕ
one_time_key k t = hmac k t

-- step 3: reply = HMAC(one-time key, region); `reply_to` for a T that is there, `reply` for the challenge's
unfoldable pub reply_to : List ℕ → List ℕ → List ℕ → List ℕ
reply_to k t region = hmac (one_time_key k t) region

unfoldable pub reply : List ℕ → List ℕ → List ℕ → List ℕ
reply k challenge region = reply_to k (token k challenge) region

-- steps 1 and 2: the challenge must be greater than the counter, and T must equal the token that came with it
unfoldable pub request_check : List ℕ → List ℕ → List ℕ → List ℕ → Answer
request_check k challenge received counter =
    pick (not (greater challenge counter)) (refused_at ChallengeNotGreater 0)
    (pick (not (same (token k challenge) received)) (refused_at TokenDiffers 0) (Ok tt))
