-- What the functions promise, for all inputs. Assumes nothing.
use Rattle.std.specs.Prelude.{◌≡◌, List, ◌++◌, ℕ, length, take, drop}
use Rattle.frames.specs.declared.Framed.{Framed}
use Rattle.frames.specs.Frames.{framed, argument}

-- `frame`
abbrev pub Frames : List ℕ → Framed → Type 0
Frames b r = r ≡ framed b

-- `argument`
abbrev pub IsArgument : List ℕ → ℕ → List ℕ → Type 0
IsArgument b i r = r ≡ argument b i

-- `copy_argument`: as much of the argument as the room takes, and how much that is; what stands behind it in the room
-- stays
pub record Copies (b : List ℕ) (i : ℕ) (room room' : List ℕ) (r : ℕ) : Type 0 where
  pub answered : r ≡ length (take (length room) (argument b i))
  pub room_left : room' ≡ take (length room) (argument b i) ++ drop (length (argument b i)) room
