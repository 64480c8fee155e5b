-- Nothing is lost: the law of specs/Back.antt. Assumes nothing.
use mathlib.Core.Path.{◌≡◌}
use mathlib.Core.Bool.{◌&&◌}
use mathlib.Core.List.{List, [], ◌∷◌}
use Prim.Native.Nat.{ℕ, zero, suc, ◌+◌, ◌*◌, ◌/◌, ◌%◌, ◌<◌}
use native.Mathlib.Omega.{arith}
use borrow.Author.Tests.{ltb-true, eqb-true}
use lib.Dec.{eqb, ltb}
use lib.ListN.{length, get_or, drop_of_length-le}
use lib.Seq.{drop-cons}
use Rattle.notions.proofs.Tests.{both}
use Rattle.notions.specs.Choice.{pick}
use Rattle.octets.proofs.Laws.{word_back}
use Rattle.steps.specs.Steps.{bit, step_of, encode}
use Rattle.step_codecs.specs.Back.{StepBack}

-- a bit as a number
bit_value : (r v : ℕ) → r < 2 → pick (eqb r 1) v 0 ≡ r * v
bit_value zero v h = omega arith
bit_value (suc zero) v h = omega arith
bit_value (suc (suc r)) v h = absurd (omega arith)

summed : (x x₁ x₂ x₃ a b c d e : ℕ) → x ≡ a + 2 * x₁ → x₁ ≡ b + 2 * x₂ → x₂ ≡ c + 2 * x₃ → x₃ ≡ d + 2 * e
    → a * 1 + b * 2 + c * 4 + d * 8 + e * 16 ≡ x
summed x x₁ x₂ x₃ a b c d e h₀ h₁ h₂ h₃ = omega arith

halved : (x : ℕ) → (x ≡ x / 1 % 2 + 2 * (x / 2)) × (x / 2 ≡ x / 2 % 2 + 2 * (x / 4)) × (x / 4 ≡ x / 4 % 2 + 2 * (x / 8))
halved x = (omega arith, omega arith, omega arith)

halved_twice : (x : ℕ) → x < 32 → x / 8 ≡ x / 8 % 2 + 2 * (x / 16 % 2)
halved_twice x h = omega arith

flags_back : (x : ℕ) → x < 32
    → pick (bit 0 x) 1 0 + pick (bit 1 x) 2 0 + pick (bit 2 x) 4 0 + pick (bit 3 x) 8 0 + pick (bit 4 x) 16 0 ≡ x
flags_back x h =
    let e₀ : pick (bit 0 x) 1 0 ≡ x / 1 % 2 * 1 = bit_value (x / 1 % 2) 1 (omega arith) in
    let e₁ : pick (bit 1 x) 2 0 ≡ x / 2 % 2 * 2 = bit_value (x / 2 % 2) 2 (omega arith) in
    let e₂ : pick (bit 2 x) 4 0 ≡ x / 4 % 2 * 4 = bit_value (x / 4 % 2) 4 (omega arith) in
    let e₃ : pick (bit 3 x) 8 0 ≡ x / 8 % 2 * 8 = bit_value (x / 8 % 2) 8 (omega arith) in
    let e₄ : pick (bit 4 x) 16 0 ≡ x / 16 % 2 * 16 = bit_value (x / 16 % 2) 16 (omega arith) in
    let s = halved x in
    cc
    (summed x (x / 2) (x / 4) (x / 8) (x / 1 % 2) (x / 2 % 2) (x / 4 % 2) (x / 8 % 2) (x / 16 % 2)
    s.0 s.1 s.2 (halved_twice x h))

twelve : (b : List ℕ) → length b ≡ 12
    → get_or b 0 0 ∷ get_or b 1 0 ∷ get_or b 2 0 ∷ get_or b 3 0 ∷ get_or b 4 0 ∷ get_or b 5 0
    ∷ get_or b 6 0 ∷ get_or b 7 0 ∷ get_or b 8 0 ∷ get_or b 9 0 ∷ get_or b 10 0 ∷ get_or b 11 0 ∷ [] ≡ b
twelve b e =
    cc (
      drop-cons b 0 0 (omega arith),
      drop-cons b 1 0 (omega arith),
      drop-cons b 2 0 (omega arith),
      drop-cons b 3 0 (omega arith),
      drop-cons b 4 0 (omega arith),
      drop-cons b 5 0 (omega arith),
      drop-cons b 6 0 (omega arith),
      drop-cons b 7 0 (omega arith),
      drop-cons b 8 0 (omega arith),
      drop-cons b 9 0 (omega arith),
      drop-cons b 10 0 (omega arith),
      drop-cons b 11 0 (omega arith),
      drop_of_length-le b {i = 12} (omega arith),
    )

pub step_back : StepBack
unfolding step_of encode
step_back b p e c =
    let t₁ = both (ltb (get_or b 6 0) 32 && eqb (get_or b 9 0) 0 && eqb (get_or b 10 0) 0) (eqb (get_or b 11 0) 0) c in
    let t₂ = both (ltb (get_or b 6 0) 32 && eqb (get_or b 9 0) 0) (eqb (get_or b 10 0) 0) t₁.0 in
    let t₃ = both (ltb (get_or b 6 0) 32) (eqb (get_or b 9 0) 0) t₂.0 in
    let z₁₁ : get_or b 11 0 ≡ 0 = eqb-true (get_or b 11 0) 0 t₁.1 in
    let z₁₀ : get_or b 10 0 ≡ 0 = eqb-true (get_or b 10 0) 0 t₂.1 in
    let z₉ : get_or b 9 0 ≡ 0 = eqb-true (get_or b 9 0) 0 t₃.1 in
    let f = flags_back (get_or b 6 0) (ltb-true (get_or b 6 0) 32 t₃.0) in
    let pc = word_back (get_or b 0 0) (get_or b 1 0) (p 0) (p 1) in
    let cpu = word_back (get_or b 2 0) (get_or b 3 0) (p 2) (p 3) in
    let dma = word_back (get_or b 4 0) (get_or b 5 0) (p 4) (p 5) in
    cc (twelve b e, pc.0, pc.1, cpu.0, cpu.1, dma.0, dma.1)
