-- Digits laid into a buffer. Of the loop that lays them, `goal` is the buffer that what is still to be laid leads to.
-- Assumes nothing.
use mathlib.Core.Path.{◌≡◌, refl, ap, sym, ◌∙◌}
use mathlib.Core.List.{List, [], ◌∷◌, ◌++◌}
use Prim.Native.Nat.{ℕ, ◌+◌, ◌*◌, ◌<◌, min}
use native.Mathlib.Numerals.{add-one}
use native.Mathlib.Omega.{arith}
use lib.ListN.{length, get_or, drop, length-append, length-take}
use lib.Seq.{sets, drop-cons, drop-length}
use Rattle.io.specs.Digits.{last_digits, IsDigitCount}
use Rattle.octets.proofs.Laid.{part_more, cut}
use Rattle.octets.proofs.Digits.{two_digits}
use Rattle.hex_text.specs.Digits.{hex_text}
use Rattle.hex_text.specs.Promises.{WritesHex}

-- two digits
pub digits_laid : (out out' t : List ℕ) (at n k : ℕ) → n < 256 → IsDigitCount 16 2 n k → t ≡ last_digits 16 k n
    → out' ≡ sets out at t
    → out' ≡ sets out at (last_digits 16 2 n)
digits_laid out out' t at n k h f e l =
    l
    ∙ ap (λ (x : List ℕ). sets out at x) (e ∙ ap (λ (j : ℕ). last_digits 16 j n) (two_digits n k h f.0 f.2))

-- the digits of bytes
pub hex_more : (out out' goal b : List ℕ) (i : ℕ) → i < length b → sets out (2 * i) (hex_text (drop i b)) ≡ goal
    → out' ≡ sets out (2 * i) (last_digits 16 2 (get_or b i 0)) → sets out' (2 * (i + 1)) (hex_text (drop (i + 1) b)) ≡ goal
unfolding hex_text
hex_more out out' goal b i h e l =
    let n : hex_text (drop i b) ≡ last_digits 16 2 (get_or b i 0) ++ hex_text (drop (i + 1) b) = rw (add-one, drop-cons b i 0) in
    part_more out out' goal (last_digits 16 2 (get_or b i 0)) (hex_text (drop (i + 1) b)) (2 * i) (2 * (i + 1))
    (ap (λ (x : List ℕ). sets out (2 * i) x) (sym n) ∙ e) l (omega arith)

hex_laid : (out goal b : List ℕ) (p i : ℕ) → i ≡ length b → sets out p (hex_text (drop i b)) ≡ goal → out ≡ goal
unfolding hex_text
hex_laid out goal b p i z e =
    ap (λ (l : List ℕ). sets out p (hex_text l)) (sym (ap (λ (j : ℕ). drop j b) z ∙ drop-length b)) ∙ e

length_hex : (b : List ℕ) → length (hex_text b) ≡ 2 * length b
unfolding hex_text
length_hex [] = refl
length_hex (x ∷ b) = simp length-append (omega (arith, length_hex b))

pub hex_whole : (b out out' : List ℕ) (i r : ℕ) → i ≡ length b
    → sets out' (2 * i) (hex_text (drop i b)) ≡ sets out 0 (hex_text b)
    → r ≡ min (length out) (2 * i) → WritesHex b out out' r
hex_whole b out out' i r z e n = record {
  answered = simp (length-take, length_hex) (omega arith);
  out_left = hex_laid out' (sets out 0 (hex_text b)) b (2 * i) i z e ∙ cut out (hex_text b);
}
