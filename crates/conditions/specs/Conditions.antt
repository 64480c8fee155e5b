-- A call's refusals as a list of conditions, in the order in which they are tried: the refusal is the first that applies.
-- No call and no check is named here; each call's own conditions stand with the claims about it. Assumes nothing.
use Rattle.std.specs.Prelude.{◌≡◌, ◌↔◌, ◌⊎◌, List, [], ◌∷◌, ℕ, ◌<◌, Result, Err}
use Rattle.refusal.specs.declared.Refusal.{Refusal}
use Rattle.refusal.specs.Numbers.{number}

-- a line of the page's table: its number, and that it applies at a place
pub record Condition : Type 1 where
  pub number : ℕ
  pub At : ℕ → Type 0

-- one at the place q
abbrev pub placed : ℕ → ℕ → Type 0 → Condition
placed n q P = record { number = n; At = λ p. (p ≡ q) × P }

-- one for which the page names no place
abbrev pub plain : ℕ → Type 0 → Condition
plain n P = placed n 0 P

-- one whose place is the first of m that fail
abbrev pub first_of : ℕ → ℕ → (ℕ → Type 0) → Condition
first_of n m P = record { number = n; At = λ p. (p < m) × P p × ((j : ℕ) → j < p → P j → ⊥) }

-- it applies nowhere
abbrev pub Absent : Condition → Type 0
Absent c = (p : ℕ) → c.At p → ⊥

-- the first of a list that applies has the number n and applies at p
abbrev pub First : List Condition → ℕ → ℕ → Type 0
First [] n p = ⊥
First (c ∷ cs) n p = ((n ≡ c.number) × c.At p) ⊎ (Absent c × First cs n p)

-- none of a list applies
abbrev pub None : List Condition → Type 0
None [] = Unit {0}
None (c ∷ cs) = Absent c × None cs

-- the answer r tells refusal n at p
abbrev pub RefusedAs : {T : Type 0} → Result T Refusal → ℕ → ℕ → Type 0
RefusedAs r n p = (q : Refusal) × (r ≡ Err q) × (number q.reason ≡ n) × (q.place ≡ p)

-- of a call that is lent nothing to write there is nothing to keep
abbrev pub NothingLent : Type 0
NothingLent = Unit {0}

-- a call that is refused with n at p where `Refused n p` holds, and whose lent bytes are as before where `Kept` does
pub record Answers (cs : List Condition) (Refused : ℕ → ℕ → Type 0) (Kept : Type 0) : Type 0 where
  pub refused : (n p : ℕ) → Refused n p ↔ First cs n p
  pub unrefused : ((n p : ℕ) → Refused n p → ⊥) ↔ None cs
  pub kept : (n p : ℕ) → Refused n p → Kept
