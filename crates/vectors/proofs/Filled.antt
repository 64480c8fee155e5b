-- The pattern, filled from its first byte on. Assumes nothing.
use mathlib.Core.Path.{◌≡◌, ap, sym, ◌∙◌}
use mathlib.Core.List.{List, [], ◌∷◌, ◌++◌}
use Prim.Native.Nat.{ℕ, suc, ◌+◌, ◌<◌}
use native.Mathlib.Omega.{arith}
use lib.ListN.{length, set, take}
use lib.Seq.{take-suc-set}
use Rattle.vectors.specs.Pattern.{pattern_byte, pattern_of}

pub filled_more : (pattern : List ℕ) (i : ℕ) → i < length pattern → take i pattern ≡ pattern_of i
    → take (i + 1) (set pattern i (pattern_byte i)) ≡ pattern_of (i + 1)
unfolding pattern_of
filled_more pattern i h f =
    let x = pattern_byte i in
    let k : i + 1 ≡ suc i = omega arith in
    ap (λ (n : ℕ). take n (set pattern i x)) k
    ∙ take-suc-set pattern i x h
    ∙ ap (λ (p : List ℕ). p ++ (x ∷ [])) f
    ∙ ap pattern_of (sym k)
