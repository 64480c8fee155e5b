-- Decimal numbers: the digits that the code counts are the ones that the text names, and how many there are.
-- Assumes nothing.
use mathlib.Core.Path.{◌≡◌, refl, ap, sym, subst}
use mathlib.Core.Logic.{⊎_elim}
use mathlib.Core.Bool.{Bool, false}
use Prim.Native.Nat.{ℕ, zero, suc, ◌-◌, ◌^◌, ◌≤◌, ◌<◌}
use native.Mathlib.Nat.{eq-or-lt_of_le, pow-le-pow_right, le_trans}
use native.Mathlib.Numerals.{add-one}
use native.Mathlib.Omega.{arith}
use lib.Dec.{ltb, leb}
use lib.ListN.{length, length-append}
use borrow.Author.Tests.{lt-ltb, le-ltb, leb-true, leb-false, ltb-true, ltb-false}
use Rattle.io.specs.Digits.{last_digits, IsDigitCount}
use Rattle.notions.specs.First.{first}
use Rattle.notions.proofs.Tests.{cases}
use Rattle.notions.proofs.First.{first_most, first_least, first_is, first_none}
use Rattle.report.specs.Text.{places, decimal}

fewest : (n j : ℕ) → IsDigitCount 10 1 n (suc j) → j ≤ 19 → suc j ≡ places n
unfolding places
fewest n j f h =
    let p : ℕ → Bool = λ k. ltb n (10 ^ suc k) in
    let e : suc j - 1 ≡ j = omega arith in
    let low : (k : ℕ) → k < j → p k ≡ false =
    λ k l. le-ltb n (10 ^ suc k)
    (le_trans (pow-le-pow_right (omega arith) l) (subst (λ (m : ℕ). 10 ^ m ≤ n) e (f.2 (omega arith)))) in
    ap suc
    (sym
    (⊎_elim (λ e. subst (λ (m : ℕ). first m p ≡ j) e (first_none j p low))
    (λ l. first_is 19 p j l low (lt-ltb n (10 ^ suc j) f.1))
    (eq-or-lt_of_le h)))

places_are : (n k : ℕ) → IsDigitCount 10 1 n k → k ≤ 20 → k ≡ places n
places_are n zero f h = absurd (omega (arith, f.0))
places_are n (suc j) f h = fewest n j f (omega arith)

-- a 64-bit number has at most 20 digits
twenty : (n k : ℕ) → IsDigitCount 10 1 n k → n < 18446744073709551616 → k ≤ 20
twenty n k f h =
    cases (leb k 20) (λ e. leb-true k 20 e)
    (λ e.
    let l : 20 < k = leb-false k 20 e in
    let p : 10 ^ 20 ≤ 10 ^ (k - 1) = pow-le-pow_right {n = 10} (omega arith) {i = 20} {j = k - 1} (omega arith) in
    let q : 10 ^ (k - 1) ≤ n = f.2 (omega arith) in
    let z : 100000000000000000000 ≤ n = le_trans p q in
    absurd (omega arith))

-- so the text of the fewest digits is the decimal number
pub spelled : (n k : ℕ) → IsDigitCount 10 1 n k → n < 18446744073709551616 → last_digits 10 k n ≡ decimal n
unfolding decimal
spelled n k f h = ap (λ (m : ℕ). last_digits 10 m n) (places_are n k f (twenty n k f h))

-- ---- lengths

pub length_digits : (b k n : ℕ) → length (last_digits b k n) ≡ k
length_digits b zero n = refl
length_digits b (suc k) n = simp (length-append, length_digits b k) (add-one k)

pub length_decimal : (n : ℕ) → length (decimal n) ≡ places n
unfolding decimal
length_decimal n = length_digits 10 (places n) n

-- a smaller number has fewer digits, and none has more than 20
pub places_most : (n j : ℕ) → n < 10 ^ suc j → places n ≤ suc j
unfolding places
places_most n j h =
    let p : ℕ → Bool = λ k. ltb n (10 ^ suc k) in
    cases (ltb j (first 19 p))
    (λ e.
    let q = ltb-false n (10 ^ suc j) (first_least 19 p j (ltb-true j (first 19 p) e)) in
    absurd (omega arith))
    (λ e. omega (arith, ltb-false j (first 19 p) e))

pub places_twenty : (n : ℕ) → places n ≤ 20
unfolding places
places_twenty n = omega (arith, first_most 19 (λ k. ltb n (10 ^ suc k)))

pub decimal_most : (n j : ℕ) → n < 10 ^ suc j → length (decimal n) ≤ suc j
decimal_most n j h = rw length_decimal (places_most n j h)
