-- What `framed` and `argument` come to for a stream of calls. Assumes nothing.
use Rattle.std.specs.Prelude.{◌≡◌, true, List, [], ◌∷◌, ◌++◌, ℕ, ◌+◌, ◌*◌, ◌<◌, ◌≤◌, length, get_or, take}
use Rattle.notions.specs.Bytes.{Bytes}
use Rattle.octets.specs.Numbers.{little}
use Rattle.frames.specs.declared.Framed.TheVariants.{Needs, Whole}
use Rattle.frames.specs.Calls.{most_argument_bytes, listed, count, allowed}
use Rattle.frames.specs.Frames.{length_bytes, framed, argument}

-- arguments as bytes, each behind its length
unfoldable pub sent : List (List ℕ) → List ℕ
sent [] = []
sent (a ∷ args) = little length_bytes (length a) ++ a ++ sent args

-- a call as bytes
abbrev pub call : ℕ → List (List ℕ) → List ℕ
call n args = n ∷ sent args

-- the bytes of arguments together
unfoldable pub together : List (List ℕ) → ℕ
together [] = 0
together (a ∷ args) = length a + together args

-- a call that docs/CALLS.md lists, with as many arguments as it has, each of a length that it may have, and not too
-- long together
pub record Lawful (n : ℕ) (args : List (List ℕ)) : Type 0 where
  pub is_listed : listed n ≡ true
  pub many : length args ≡ count n
  pub each : (i : ℕ) → i < length args → allowed n i (length (get_or args i [])) ≡ true
  pub not_long : together args ≤ most_argument_bytes

-- a lawful call is whole, whatever stands behind it, and its arguments are those that were sent
abbrev pub WholeCall : Type 0
WholeCall = (n : ℕ) (args : List (List ℕ)) (b : List ℕ) → Lawful n args
    → (framed (call n args ++ b) ≡ Whole)
    × ((i : ℕ) → i < length args → argument (call n args ++ b) i ≡ get_or args i [])

-- at the beginning of a lawful call more bytes are asked for, and none that are not the call's
pub record AsksForItsOwn (whole part : List ℕ) : Type 0 where
  pub more : ℕ
  pub asked : framed part ≡ Needs more
  pub some : 0 < more
  pub its_own : length part + more ≤ length whole

abbrev pub BegunCall : Type 0
BegunCall = (n : ℕ) (args : List (List ℕ)) (j : ℕ) → Lawful n args → j < length (call n args)
    → AsksForItsOwn (call n args) (take j (call n args))

-- bytes that are whole begin with a lawful call
pub record BeginsWithCall (b : List ℕ) : Type 0 where
  pub args : List (List ℕ)
  pub rest : List ℕ
  pub said : b ≡ call (get_or b 0 0) args ++ rest
  pub lawful : Lawful (get_or b 0 0) args

abbrev pub IsCall : Type 0
IsCall = (b : List ℕ) → Bytes b → framed b ≡ Whole → BeginsWithCall b

-- no call has more arguments
abbrev pub most_arguments : ℕ
most_arguments = 5

-- whatever the bytes are: where more are asked for there is at least one to ask for, and with them there are at most so
-- many: one for the number, four for each of five lengths, and the arguments
abbrev pub longest : ℕ
longest = 1 + most_arguments * length_bytes + most_argument_bytes

abbrev pub AsksForMore : Type 0
AsksForMore = (b : List ℕ) (k : ℕ) → framed b ≡ Needs k → (0 < k) × (length b + k ≤ longest)
