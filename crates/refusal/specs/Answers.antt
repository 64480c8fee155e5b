-- What an answer is in the rules page's numbers, and what a call leaves. Assumes nothing.
use Rattle.std.specs.Prelude.{Bool, List, [], ◌∷◌, ℕ, Result, Ok, Err}
use Rattle.notions.specs.Choice.{pick}
use Rattle.refusal.specs.declared.Reason.{Reason}
use Rattle.refusal.specs.declared.Refusal.{Refusal}
use Rattle.refusal.specs.Numbers.{number}

-- the answer of a call that is done or refused
abbrev pub Answer : Type 0
Answer = Result Unit Refusal

-- the row of a call that is done
abbrev pub done : List ℕ
done = 0 ∷ []

-- the row of a refusal for which the page names no place
abbrev pub refused_with : Reason → List ℕ
refused_with n = number n ∷ 0 ∷ []

-- a refusal's row: its number and its place
abbrev pub refusal_row : Refusal → List ℕ
refusal_row r = number r.reason ∷ r.place ∷ []

-- an answer's row: 0, or the refusal's number and place
abbrev pub row : Answer → List ℕ
row (Ok u) = done
row (Err r) = refusal_row r

-- the row of a call that is refused for n exactly if t holds
abbrev pub refused_if : Bool → Reason → List ℕ
refused_if t n = pick t (refused_with n) done

-- the refusal for this reason at this place
abbrev pub refused_at : Reason → ℕ → Answer
refused_at n p = Err (record { reason = n; place = p })

-- a check and, if it refuses nothing, another one
abbrev pub and_then : Answer → Answer → Answer
and_then (Ok u) b = b
and_then (Err r) b = Err r

-- the row of a call that tells these values if its check refuses nothing
abbrev pub told : Answer → List ℕ → List ℕ
told (Ok u) v = 0 ∷ v
told (Err r) v = refusal_row r

-- what stands in a lent slice after the call: `new` if its check refuses nothing, else what stood there before
abbrev pub after_call : Answer → List ℕ → List ℕ → List ℕ
after_call (Ok u) new old = new
after_call (Err r) new old = old
