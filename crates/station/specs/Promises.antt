-- What the station's calls promise, for all inputs. Assumes nothing.
use Rattle.std.specs.Prelude.{false, true, ◌≡◌, Bool, not, ◌||◌, List, [], ◌∷◌, ℕ, eqb, length, Err, Ok, Result}
use Rattle.notions.specs.Choice.{pick}
use Rattle.refusal.specs.Answers.{Answer, refusal_row, refused_at, told}
use Rattle.refusal.specs.declared.Reason.TheVariants.{LengthOrTotal}
use Rattle.sha256.specs.Promises.{Gives}
use Rattle.routine.specs.Strings.{same}
use Rattle.hmac.specs.Promises.{long}
use Rattle.routine.specs.Routine.{key_bytes, string_bytes, token, reply}
use Rattle.refusal.specs.declared.Refusal.{Refusal}

-- ---- refusal 12

-- b does not have n bytes
abbrev pub not_of : ℕ → List ℕ → Bool
not_of n b = not (eqb (length b) n)

-- station keys are 64 bytes, challenges 32
abbrev pub token_unfit : List ℕ → List ℕ → Bool
token_unfit k challenge = not_of key_bytes k || not_of string_bytes challenge

-- replies are 32 bytes, expected regions 1 to 65,536
abbrev pub check_unfit : List ℕ → List ℕ → List ℕ → List ℕ → Bool
check_unfit k challenge given region =
    token_unfit k challenge || not_of string_bytes given || eqb (length region) 0 || long region

-- ---- answers

-- the row of a verdict: 0, then 1 0 for yes (true) and 0 1 for no (false); or the refusal's number and place
abbrev pub verdict_row : Result Bool Refusal → List ℕ
verdict_row (Ok true) = 0 ∷ 1 ∷ 0 ∷ []
verdict_row (Ok false) = 0 ∷ 0 ∷ 1 ∷ []
verdict_row (Err r) = refusal_row r

-- ---- the calls

-- `token`
abbrev pub MakesToken : List ℕ → List ℕ → Result (List ℕ) Refusal → Type 0
MakesToken k challenge r = Gives (token_unfit k challenge) (token k challenge) r

-- `check`: yes exactly if the given reply is step 3's for the key, the challenge and the expected region
abbrev pub lengths_check : List ℕ → List ℕ → List ℕ → List ℕ → Answer
lengths_check k challenge given region = pick (check_unfit k challenge given region) (refused_at LengthOrTotal 0) (Ok tt)

pub record ChecksReply (k challenge given region : List ℕ) (r : Result Bool Refusal) : Type 0 where
  pub answered :
      verdict_row r
      ≡ told (lengths_check k challenge given region)
      (pick (same given (reply k challenge region)) (1 ∷ 0 ∷ []) (0 ∷ 1 ∷ []))
