-- The laws of a step's bytes, for readers and for the crates above. Assumes nothing.
use mathlib.Core.Path.{◌≡◌, refl, ap, ◌∙◌}
use mathlib.Core.Bool.{Bool, true, false}
use Prim.Native.Nat.{ℕ, ◌+◌, ◌*◌, ◌/◌, ◌%◌, ◌^◌, ◌≤◌, ◌<◌}
use native.Mathlib.Omega.{arith}
use lib.Dec.{eqb}
use borrow.Author.Tests.{lt-ltb}
use Rattle.notions.specs.Choice.{pick}
use Rattle.octets.specs.Numbers.{number_of_two}
use Rattle.steps.specs.declared.Step.{Step}
use Rattle.steps.specs.Steps.{bit, step_of, clean, flags, encode, TellsStep}

flag_most : (f : Bool) → pick {A = ℕ} f 1 0 ≤ 1
flag_most true = omega arith
flag_most false = omega arith

flag_weight : (f : Bool) (w : ℕ) → pick f w 0 ≡ w * pick f 1 0
flag_weight true w = omega arith
flag_weight false w = omega arith

flag_is : (f : Bool) → eqb (pick f 1 0) 1 ≡ f
flag_is true = refl
flag_is false = refl

-- five digits of 0 and 1
record Digits (a b c d e f : ℕ) : Type 0 where
  d0 : f / 2 ^ 0 % 2 ≡ a
  d1 : f / 2 ^ 1 % 2 ≡ b
  d2 : f / 2 ^ 2 % 2 ≡ c
  d3 : f / 2 ^ 3 % 2 ≡ d
  d4 : f / 2 ^ 4 % 2 ≡ e
  most : f < 32

digits : (a b c d e f : ℕ) → a ≤ 1 → b ≤ 1 → c ≤ 1 → d ≤ 1 → e ≤ 1 → f ≡ a + 2 * b + 4 * c + 8 * d + 16 * e
    → Digits a b c d e f
digits a b c d e f ha hb hc hd he h = record {
  d0 = omega arith;
  d1 = omega arith;
  d2 = omega arith;
  d3 = omega arith;
  d4 = omega arith;
  most = omega arith;
}

flag_digits : (s : Step)
    → Digits (pick s.cpureads 1 0) (pick s.cpuwrites 1 0) (pick s.interrupt 1 0)
    (pick s.dmaactive 1 0) (pick s.dmawrites 1 0) (flags s)
flag_digits s =
    digits _ _ _ _ _ (flags s)
    (flag_most s.cpureads) (flag_most s.cpuwrites) (flag_most s.interrupt)
    (flag_most s.dmaactive) (flag_most s.dmawrites)
    (omega (
      arith,
      flag_weight s.cpuwrites 2,
      flag_weight s.interrupt 4,
      flag_weight s.dmaactive 8,
      flag_weight s.dmawrites 16,
    ))

pub flags_most : (s : Step) → flags s < 32
flags_most s = (flag_digits s).most

halves : (a : ℕ) → a < 65536 → number_of_two (a % 256) (a / 256 % 256) ≡ a
halves a h = omega arith

pub tells_step : TellsStep
unfolding step_of encode
tells_step s h =
    let d = flag_digits s in
    let r : bit 0 (flags s) ≡ s.cpureads = ap (λ (n : ℕ). eqb n 1) d.d0 ∙ flag_is s.cpureads in
    let w : bit 1 (flags s) ≡ s.cpuwrites = ap (λ (n : ℕ). eqb n 1) d.d1 ∙ flag_is s.cpuwrites in
    let i : bit 2 (flags s) ≡ s.interrupt = ap (λ (n : ℕ). eqb n 1) d.d2 ∙ flag_is s.interrupt in
    let a : bit 3 (flags s) ≡ s.dmaactive = ap (λ (n : ℕ). eqb n 1) d.d3 ∙ flag_is s.dmaactive in
    let t : bit 4 (flags s) ≡ s.dmawrites = ap (λ (n : ℕ). eqb n 1) d.d4 ∙ flag_is s.dmawrites in
    simp (
      halves s.pc h.pc,
      halves s.cpuaddress h.cpuaddress,
      halves s.dmaaddress h.dmaaddress,
      r,
      w,
      i,
      a,
      t,
    )

pub clean_encode : (s : Step) → clean (encode s) ≡ true
unfolding encode
clean_encode s = simp (lt-ltb (flags s) 32 (flags_most s))
