-- What the comparisons come to: `same` is equality, and `greater` is a strict order, on strings of one length the order
-- of the numbers that they stand for. Assumes nothing.
use Rattle.std.specs.Prelude.{◌≡◌, ◌↔◌, true, false, List, ℕ, ◌<◌, length}
use Rattle.notions.specs.Bytes.{Bytes}
use Rattle.routine.specs.Strings.{greater, same, weight}

-- `same` holds exactly of equal strings
abbrev pub SameExactly : Type 0
SameExactly = (a b : List ℕ) → (same a b ≡ true) ↔ (a ≡ b)

-- no string is greater than itself
abbrev pub GreaterIrreflexive : Type 0
GreaterIrreflexive = (a : List ℕ) → greater a a ≡ false

-- a string that is greater than another is greater than all that the other is greater than
abbrev pub GreaterTrans : Type 0
GreaterTrans = (a b c : List ℕ) → greater a b ≡ true → greater b c ≡ true → greater a c ≡ true

-- of two strings of one length, whose elements are bytes, one is greater exactly if it stands for the larger number
abbrev pub GreaterWeight : Type 0
GreaterWeight =
    (a b : List ℕ) → length a ≡ length b → Bytes a → Bytes b → (greater a b ≡ true) ↔ (weight b < weight a)
