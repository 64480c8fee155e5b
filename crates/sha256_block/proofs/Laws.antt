-- Laws of the hash value after whole blocks, for the crates above. Assumes nothing.
use Rattle.std.proofs.Common.{◌≡◌, ℕ, zero, suc, ◌+◌, ◌*◌, ◌/◌, ◌%◌, ◌<◌, ◌≤◌, List, ◌++◌, length, drop, refl, ap, ◌∙◌, add-zero, arith, length-append, length-drop}
use lib.Seq.{take-append-le, drop-append-le, drop-append-add}
use Rattle.sha256_block.specs.Block.{blocks, whole}

-- the hash value after n blocks says nothing of what stands behind them
blocks_append : (s m x : List ℕ) (n : ℕ) → n * 64 ≤ length m → blocks s (m ++ x) n ≡ blocks s m n
unfolding blocks
blocks_append s m x zero h = refl
blocks_append s m x (suc n) h =
    let l : 64 ≤ length (drop (n * 64) m) = rw length-drop (omega arith) in
    cc (
      blocks_append s m x n (omega arith),
      drop-append-le (n * 64) m x (omega arith),
      take-append-le 64
          (drop (n * 64) m) x l,
    )

blocks_join : (s a b : List ℕ) (i j : ℕ) → length a ≡ i * 64 → blocks s (a ++ b) (i + j) ≡ blocks (blocks s a i) b j
unfolding blocks
blocks_join s a b i zero h = ap (λ (n : ℕ). blocks s (a ++ b) n) (add-zero i) ∙ blocks_append s a b i (omega arith)
blocks_join s a b i (suc j) h =
    let e : i + suc j ≡ suc (i + j) = omega arith in
    let d : (i + j) * 64 ≡ length a + j * 64 = omega arith in
    ap (λ (n : ℕ). blocks s (a ++ b) n) e
    ∙ cc (blocks_join s a b i j h, ap (λ (n : ℕ). drop n (a ++ b)) d, drop-append-add a b (j * 64))

-- whole blocks, and others behind them
pub whole_join : (s a b : List ℕ) → length a % 64 ≡ 0 → whole s (a ++ b) ≡ whole (whole s a) b
whole_join s a b h =
    let l : length (a ++ b) ≡ length a + length b = length-append a b in
    let e : length (a ++ b) / 64 ≡ length a / 64 + length b / 64 = omega arith in
    ap (λ (n : ℕ). blocks s (a ++ b) n) e ∙ blocks_join s a b (length a / 64) (length b / 64) (omega arith)

-- too few bytes for a block
pub whole_short : (s a : List ℕ) → length a < 64 → whole s a ≡ s
unfolding blocks
whole_short s a h =
    let e : length a / 64 ≡ 0 = omega arith in
    ap (λ (n : ℕ). blocks s a n) e
