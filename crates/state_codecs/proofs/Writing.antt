-- Bytes laid into a buffer. Of a loop that lays them, `goal` is the buffer that what is still to be laid leads to.
-- Assumes nothing.
use mathlib.Core.Path.{◌≡◌, refl, ap, sym, ◌∙◌}
use mathlib.Core.List.{List, [], ◌∷◌, ◌++◌}
use Prim.Native.Nat.{ℕ, zero, suc, ◌+◌, ◌*◌, ◌/◌, ◌<◌}
use native.Mathlib.Numerals.{add-one}
use native.Mathlib.Omega.{arith}
use lib.ListN.{length, get_or, drop, length-append}
use lib.Seq.{sets, drop-cons, drop-length}
use Rattle.std.specs.Int.{w32, w64, to_le_bytes}
use Rattle.octets.specs.Numbers.{little}
use Rattle.octets.proofs.Laid.{part_more, laid_over}
use Rattle.sha256.specs.declared.Sha.{Sha}
use Rattle.state_codecs.specs.States.{words_bytes, state_bytes}

-- the library's bytes of a number
pub four_bytes : (n : ℕ) → to_le_bytes w32 n ≡ little 4 n
unfolding little
four_bytes n =
    let e₂ : n / 65536 ≡ n / 256 / 256 = omega arith in
    let e₃ : n / 16777216 ≡ n / 65536 / 256 = omega arith in
    cc

pub eight_bytes : (n : ℕ) → to_le_bytes w64 n ≡ little 8 n
unfolding little
eight_bytes n =
    let e₂ : n / 65536 ≡ n / 256 / 256 = omega arith in
    let e₃ : n / 16777216 ≡ n / 65536 / 256 = omega arith in
    let e₄ : n / 4294967296 ≡ n / 16777216 / 256 = omega arith in
    let e₅ : n / 1099511627776 ≡ n / 4294967296 / 256 = omega arith in
    let e₆ : n / 281474976710656 ≡ n / 1099511627776 / 256 = omega arith in
    let e₇ : n / 72057594037927936 ≡ n / 281474976710656 / 256 = omega arith in
    cc

-- words
pub words_more : (out out' goal ws : List ℕ) (i : ℕ) → i < length ws → sets out (4 * i) (words_bytes (drop i ws)) ≡ goal
    → out' ≡ sets out (4 * i) (little 4 (get_or ws i 0)) → sets out' (4 * (i + 1)) (words_bytes (drop (i + 1) ws)) ≡ goal
unfolding words_bytes little
words_more out out' goal ws i h e l =
    let n : words_bytes (drop i ws) ≡ little 4 (get_or ws i 0) ++ words_bytes (drop (i + 1) ws)
    = rw (add-one, drop-cons ws i 0) in
    part_more out out' goal (little 4 (get_or ws i 0)) (words_bytes (drop (i + 1) ws)) (4 * i) (4 * (i + 1))
    (ap (λ (x : List ℕ). sets out (4 * i) x) (sym n) ∙ e) l (omega arith)

pub words_whole : (out goal ws : List ℕ) (p i : ℕ) → i ≡ length ws → sets out p (words_bytes (drop i ws)) ≡ goal
    → out ≡ goal
unfolding words_bytes
words_whole out goal ws p i z e =
    ap (λ (l : List ℕ). sets out p (words_bytes l)) (sym (ap (λ (j : ℕ). drop j ws) z ∙ drop-length ws)) ∙ e

-- the bytes of a state
length_little : (k n : ℕ) → length (little k n) ≡ k
unfolding little
length_little zero n = refl
length_little (suc k) n = ap suc (length_little k (n / 256))

length_words : (ws : List ℕ) → length (words_bytes ws) ≡ 4 * length ws
unfolding words_bytes
length_words [] = refl
length_words (w ∷ ws) = simp (length-append, length_little) (omega (arith, length_words ws))

pub state_laid : (s : Sha) (out out₁ out₂ out₃ : List ℕ) → length s.words ≡ 8 → length s.block ≡ 64
    → length out ≡ 104
    → out₁ ≡ sets out 0 (words_bytes s.words) → out₂ ≡ sets out₁ 32 s.block
    → out₃ ≡ sets out₂ 96 (little 8 s.total)
    → out₃ ≡ state_bytes s
unfolding state_bytes
state_laid s out out₁ out₂ out₃ nw nb lo e₁ e₂ e₃ =
    let w = words_bytes s.words in
    let t = little 8 s.total in
    let lw : length w ≡ 32 = omega (arith, length_words s.words) in
    let lb : length (w ++ s.block) ≡ 96 = simp length-append (omega arith) in
    let lt : length (w ++ s.block ++ t) ≡ 104 = simp length-append (omega (arith, length_little 8 s.total)) in
    let p₂ : out₂ ≡ sets out 0 (w ++ s.block)
    = e₂ ∙ part_more out out₁ (sets out 0 (w ++ s.block)) w s.block 0 32 refl e₁ (omega arith) in
    e₃
    ∙ part_more out out₂ (sets out 0 (w ++ s.block ++ t)) (w ++ s.block) t 0 96 refl p₂ (omega arith)
    ∙ laid_over out (w ++ s.block ++ t) (omega arith)
