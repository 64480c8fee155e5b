-- The laws of specs/Back.antt. Assumes nothing.
use mathlib.Core.Path.{◌≡◌, refl, ap, sym, ◌∙◌}
use mathlib.Core.List.{List, [], ◌∷◌}
use Prim.Native.Nat.{ℕ, zero, suc, ◌+◌, ◌*◌, ◌/◌, ◌%◌, ◌^◌, ◌≤◌, ◌<◌}
use native.Mathlib.Nat.{add-zero, pow-succ'}
use native.Mathlib.Omega.{arith}
use lib.ListN.{length, get_or, take, drop}
use lib.Seq.{get_or-drop, length-take-le}
use Rattle.notions.specs.Bytes.{Bytes}
use Rattle.notions.proofs.Bytes.{bytes_take}
use Rattle.octets.specs.Numbers.{number, little, number_of_two}
use Rattle.octets.specs.Back.{BytesBack, NumberBack, TwoNumber}

low : (x m : ℕ) → x < 256 → (x + 256 * m) % 256 ≡ x
low x m h = omega arith

high : (x m : ℕ) → x < 256 → (x + 256 * m) / 256 ≡ m
high x m h = omega arith

pub bytes_back : BytesBack
unfolding number little
bytes_back [] h = refl
bytes_back (x ∷ b) h =
    let l : (x + 256 * number b) % 256 ≡ x = low x (number b) (h 0) in
    let k : (x + 256 * number b) / 256 ≡ number b = high x (number b) (h 0) in
    rw (l, k) (ap (λ (r : List ℕ). x ∷ r) (bytes_back b (λ i. h (suc i))))

pub number_back : NumberBack
unfolding number little
number_back zero n h = omega arith
number_back (suc k) n h =
    let p : n < 256 * 256 ^ k = omega (arith, pow-succ' 256 k) in
    let r : number (little k (n / 256)) ≡ n / 256 = number_back k (n / 256) (omega arith) in
    omega arith

-- of a part, and of two bytes
pub part_back : (k : ℕ) (b : List ℕ) → Bytes b → k ≤ length b → little k (number (take k b)) ≡ take k b
part_back k b p h =
    ap (λ (j : ℕ). little j (number (take k b))) (sym (length-take-le k b h)) ∙ bytes_back (take k b) (bytes_take k b p)

pub word_back : (x y : ℕ) → x < 256 → y < 256 → (number_of_two x y % 256 ≡ x) × (number_of_two x y / 256 % 256 ≡ y)
word_back x y h k = (low x y h, omega arith)

first_two : (l : List ℕ) → number (take 2 l) ≡ number_of_two (get_or l 0 0) (get_or l 1 0)
unfolding number
first_two [] = refl
first_two (x ∷ []) = omega arith
first_two (x ∷ y ∷ l) = omega arith

pub two_number : TwoNumber
two_number b p =
    let z : p + 0 ≡ p = add-zero p in
    first_two (drop p b) ∙ simp (get_or-drop, z)
