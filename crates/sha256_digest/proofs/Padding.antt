-- The padding: that it is the standard's, and that `last_digest` writes it. Assumes nothing.
use Rattle.std.proofs.Common.{◌≡◌, ℕ, suc, ◌+◌, ◌-◌, ◌*◌, ◌%◌, ◌≤◌, ◌<◌, List, ◌∷◌, ◌++◌, length, take, drop, set, replicate, refl, ap, ◌∙◌, append_assoc, arith, length-append}
use Rattle.std.proofs.lemmas.List.{drop-replicate, length-replicate, set_at, take-replicate}
use Rattle.std.proofs.lemmas.Slice.{take-put_mid}
use Rattle.std.specs.Int.{w64, to_be_bytes}
use borrow.Rule.Slice.PartMut.{put_mid}
use lib.Seq.{take-append-add}
use Rattle.sha256_block.specs.Words.{bytes}
use Rattle.sha256_digest.specs.Hash.{zeros, padding}
use Rattle.sha256_digest.specs.Padding as claim
use Rattle.sha256_digest.proofs.Output.{be_8}

pub zeros_fit : claim.ZerosFit
zeros_fit n = omega arith

pub zeros_fewest : claim.ZerosFewest
zeros_fewest n k h = omega arith

length_bytes_8 : (x : ℕ) → length (bytes 8 x) ≡ 8
unfolding bytes
length_bytes_8 x = refl

length_padding : (n : ℕ) → length (padding n) ≡ suc (zeros n + 8)
unfolding padding
length_padding n =
    ap suc
    (length-append (replicate (zeros n) 0) (bytes 8 (n * 8))
    ∙ cc (length-replicate {A = ℕ} (zeros n) 0, length_bytes_8 (n * 8)))

pub padding_long : claim.PaddingLong
padding_long n = omega (arith, length_padding n)

pub padded_whole : claim.PaddedWhole
padded_whole m = omega (arith, length-append m (padding (length m)), length_padding (length m))

pub length_be8 : (b : List ℕ) (x : ℕ) → b ≡ bytes 8 x → length b ≡ 8
length_be8 b x e = ap length e ∙ length_bytes_8 x

-- the bytes l, the byte 80, and zeros behind it to 128 bytes
marked : (l : List ℕ) → length l < 128
    → set (l ++ drop (length l) (replicate 128 0)) (length l) 0x80 ≡ l ++ (0x80 ∷ replicate (127 - length l) 0)
marked l h =
    let e : 128 - length l ≡ suc (127 - length l) = omega arith in
    rw (drop-replicate, e) (set_at l 0 (replicate (127 - length l) 0) 0x80 (length l) refl)

cut : (l : List ℕ) (k : ℕ) → length l + suc k ≤ 128
    → take (length l + suc k) (l ++ (0x80 ∷ replicate (127 - length l) 0)) ≡ l ++ (0x80 ∷ replicate k 0)
cut l k h = take-append-add l (0x80 ∷ replicate (127 - length l) 0) (suc k)
    ∙ ap (λ (z : List ℕ). l ++ (0x80 ∷ z)) (take-replicate k (127 - length l) 0 (omega arith))

-- what `last_digest` writes: the bytes p at the start, the byte 80 behind them, and the bytes b at the end of n
pub written : (l p b : List ℕ) (t n : ℕ) → length l ≡ t % 64 → n ≡ length l + 1 + zeros (length l) + 8
    → p ≡ l → b ≡ to_be_bytes w64 (t * 8)
    → take n (put_mid (n - 8) (n - (n - 8)) (set (p ++ drop (length l) (replicate 128 0)) (length l) 0x80) b) ≡ l ++ padding t
unfolding padding
written l p b t n el en ep eb =
    let k : ℕ = zeros t in
    let q : List ℕ = l ++ (0x80 ∷ replicate (127 - length l) 0) in
    let lb : length b ≡ 8 = ap length eb in
    let lq : length q ≡ length l + suc (127 - length l) = simp (length-append, length-replicate) in
    let eq : set (p ++ drop (length l) (replicate 128 0)) (length l) 0x80 ≡ q =
    ap (λ (z : List ℕ). set (z ++ drop (length l) (replicate 128 0)) (length l) 0x80) ep ∙ marked l (omega arith) in
    let ln : n - 8 ≡ length l + suc k = omega arith in
    ap (λ (z : List ℕ). take n (put_mid (n - 8) (n - (n - 8)) z b)) eq
    ∙ take-put_mid (n - 8) (n - (n - 8)) q b n (omega arith) (omega arith)
    ∙ cc (ln, cut l k (omega arith), be_8 (t * 8), append_assoc l (0x80 ∷ replicate k 0) (bytes 8 (t * 8)))
