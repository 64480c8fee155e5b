-- The constants are what specs/Roots.antt says of them. The checker works it out for each entry, so that no table has to be
-- believed. Assumes nothing.
use Rattle.std.specs.Prelude.{◌≡◌, true, refl}
use Rattle.sha256_block.specs.Constants.{K, H}
use Rattle.sha256_block.specs.Roots.{undivided, primes, root_below, is_fraction, are_fractions}

-- 311 is the 64th prime
pub round_constants : are_fractions 3 (primes 310) K ≡ true
unfolding undivided primes root_below is_fraction are_fractions K
round_constants = refl

-- 19 is the eighth
pub initial_words : are_fractions 2 (primes 18) H ≡ true
unfolding undivided primes root_below is_fraction are_fractions H
initial_words = refl
