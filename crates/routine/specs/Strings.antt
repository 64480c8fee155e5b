-- Comparing byte strings. Assumes nothing.
use Rattle.std.specs.Prelude.{Bool, true, false, ◌&&◌, List, [], ◌∷◌, ℕ, ◌+◌, ◌*◌, ◌^◌, eqb, ltb, length}
use Rattle.notions.specs.Choice.{pick}

-- a and b are the same string
unfoldable pub same : List ℕ → List ℕ → Bool
same [] [] = true
same [] (y ∷ b) = false
same (x ∷ a) [] = false
same (x ∷ a) (y ∷ b) = eqb x y && same a b

-- a is greater than b, the first byte heaviest;
-- of two strings one of which begins with the other, the longer is greater
unfoldable pub greater : List ℕ → List ℕ → Bool
greater [] b = false
greater (x ∷ a) [] = true
greater (x ∷ a) (y ∷ b) = pick (eqb x y) (greater a b) (ltb y x)

-- what a string of bytes weighs: the number that it stands for, the first byte heaviest
unfoldable pub weight : List ℕ → ℕ
weight [] = 0
weight (x ∷ a) = x * 256 ^ length a + weight a
