-- Where the constants come from (4.2.2 and 5.3.3): the first 32 bits of the fractional parts of roots of primes.
-- Assumes nothing.
use Rattle.std.specs.Prelude.{ℕ, zero, suc, ◌+◌, ◌*◌, ◌%◌, ◌^◌, Bool, true, false, not, ◌&&◌, List, [], ◌∷◌, ◌++◌, ◌==◌, nat_le, nat_lt}
use Rattle.notions.specs.Choice.{pick}

-- no number from 2 to n + 1 divides p
unfoldable pub undivided : ℕ → ℕ → Bool
undivided zero p = true
undivided (suc n) p = not (p % (n + 2) == 0) && undivided n p

-- the primes up to n + 1, the least first
unfoldable pub primes : ℕ → List ℕ
primes zero = []
primes (suc n) = primes n ++ pick (undivided n (n + 2)) ((n + 2) ∷ []) []

-- the largest number up to n whose power e is at most x
unfoldable pub root_below : ℕ → ℕ → ℕ → ℕ
root_below e x zero = 0
root_below e x (suc n) = pick (nat_le (suc n ^ e) x) (suc n) (root_below e x n)

-- w is below 2 ^ 32, and with the whole part i of p's root of degree e the root lies from i + w / 2 ^ 32 on, and before
-- i + (w + 1) / 2 ^ 32
unfoldable pub is_fraction : ℕ → ℕ → ℕ → Bool
is_fraction e p w =
    let r = root_below e p 20 * 2 ^ 32 + w in
    nat_lt w (2 ^ 32) && nat_le (r ^ e) (p * 2 ^ (32 * e)) && nat_lt (p * 2 ^ (32 * e)) ((r + 1) ^ e)

-- the lists are equally long, and each of the second is that of the first in its place
unfoldable pub are_fractions : ℕ → List ℕ → List ℕ → Bool
are_fractions e [] [] = true
are_fractions e (p ∷ ps) (w ∷ ws) = is_fraction e p w && are_fractions e ps ws
are_fractions e [] (w ∷ ws) = false
are_fractions e (p ∷ ps) [] = false
