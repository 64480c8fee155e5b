-- What the functions on plain slices promise, for all inputs. HMAC takes a key and a message of 0 to 65,536 bytes each,
-- so what would need one of longer strings is refused with 12; on a board and at the station none is longer.
-- Assumes nothing.
use Rattle.std.specs.Prelude.{◌≡◌, Bool, ◌&&◌, ◌||◌, List, ℕ, Result}
use Rattle.notions.specs.Choice.{pick}
use Rattle.refusal.specs.Answers.{Answer, row, refused_at}
use Rattle.refusal.specs.declared.Reason.TheVariants.{LengthOrTotal}
use Rattle.refusal.specs.declared.Refusal.{Refusal}
use Rattle.sha256.specs.Promises.{Gives}
use Rattle.hmac.specs.Promises.{long}
use Rattle.routine.specs.Strings.{greater, same}
use Rattle.routine.specs.Routine.{token, reply_to, reply, request_check}

-- `greater` and `equal`
abbrev pub Compares : List ℕ → List ℕ → Bool → Type 0
Compares a b r = r ≡ greater a b

abbrev pub Equals : List ℕ → List ℕ → Bool → Type 0
Equals a b r = r ≡ same a b

-- `token`
abbrev pub Tokens : List ℕ → List ℕ → Result (List ℕ) Refusal → Type 0
Tokens k challenge r = Gives (long k || long challenge) (token k challenge) r

-- `reply_to`
abbrev pub RepliesTo : List ℕ → List ℕ → List ℕ → Result (List ℕ) Refusal → Type 0
RepliesTo k t region r = Gives (long k || long t || long region) (reply_to k t region) r

-- `reply`
abbrev pub Replies : List ℕ → List ℕ → List ℕ → Result (List ℕ) Refusal → Type 0
Replies k challenge region r = Gives (long k || long challenge || long region) (reply k challenge region) r

-- `authorise`: steps 1 and 2. 12 stands behind 10 and before 11: a length is told only if the challenge is greater
pub record Authorises (k challenge received counter : List ℕ) (r : Answer) : Type 0 where
  pub answered :
      row r
      ≡ row (pick (greater challenge counter && (long k || long challenge)) (refused_at LengthOrTotal 0)
      (request_check k challenge received counter))
