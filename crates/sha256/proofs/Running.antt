-- Taking bytes in: by a part of a block, by blocks, in one go or in two. Assumes nothing.
use mathlib.Core.Path.{◌≡◌, sym, ap, ◌∙◌}
use mathlib.Core.List.{List, [], ◌++◌, append_assoc, append-nil}
use Prim.Native.Nat.{ℕ, ◌+◌, ◌-◌, ◌%◌, ◌≤◌, ◌<◌}
use native.Mathlib.Omega.{arith}
use lib.ListN.{length, take, drop, replicate, length-take, length-append, length-drop, take-append-drop, drop_of_length-le}
use lib.Seq.{paste, take_all, take-length, take_at, drop-append-add, length-take-le}
use Rattle.sha256_block.specs.Block.{whole, rest}
use Rattle.sha256_block.proofs.Laws.{whole_join, whole_short}
use Rattle.sha256_block.proofs.Rest.{length_rest, rest_join, rest_short, whole_rest, rest_rest}
use Rattle.sha256_digest.proofs.Lists.{drop_replicate}
use Rattle.sha256.specs.declared.Sha.{Sha}
use Rattle.sha256.specs.Running.{filled, block_of, taken}

-- ---- a block

pub block_short : (y : List ℕ) → length y ≤ 64 → block_of y ≡ y ++ replicate (64 - length y) 0
block_short y h = ap (λ (z : List ℕ). z ++ replicate (64 - length y) 0) (take_all 64 y h)

-- y stored at the start of a block of zeros
pub block_stored : (y : List ℕ) → length y ≤ 64 → paste (replicate 64 0) 0 y (length y) ≡ block_of y
block_stored y h =
    let z : 0 + length y ≡ length y = omega arith in
    cc (take-length y, drop_replicate (length y) 64 0 h, block_short y h)

pub block_cut : (y : List ℕ) → block_of (take 64 y) ≡ block_of y
block_cut y =
    let z : 64 - length (take 64 y) ≡ 64 - length y = simp length-take (omega arith) in
    cc (take_all 64 (take 64 y) (simp length-take (omega arith)))

-- x stored behind the bytes y at the start of a block
pub block_joined : (y x : List ℕ) (n : ℕ) → length y ≡ n → n + length x ≤ 64
    → paste (block_of y) n x (length x) ≡ block_of (y ++ x)
block_joined y x n e h =
    let l : length (y ++ x) ≡ length y + length x = length-append y x in
    let b : block_of y ≡ y ++ replicate (64 - length y) 0 = block_short y (omega arith) in
    let t : take n (block_of y) ≡ y = ap (λ (z : List ℕ). take n z) b ∙ take_at y (replicate (64 - length y) 0) n e in
    let k : n + length x ≡ length y + length x = omega arith in
    let d : drop (n + length x) (block_of y) ≡ drop (length x) (replicate (64 - length y) 0) =
    cc (drop-append-add y (replicate (64 - length y) 0) (length x)) in
    let r : 64 - length y - length x ≡ 64 - length (y ++ x) = omega arith in
    cc (take-length x, drop_replicate (length x) (64 - length y) 0 (omega arith), block_short (y ++ x) (omega arith))

-- ---- the state

module _ (s : Sha) (el : length s.block ≡ 64) where
  pub length_filled : length (filled s) ≡ s.total % 64
  length_filled = length-take-le (s.total % 64) s.block (omega arith)

  length_with : (x : List ℕ) → length (filled s ++ x) ≡ s.total % 64 + length x
  length_with x = length-append (filled s) x ∙ ap (λ (n : ℕ). n + length x) length_filled

  -- too few bytes to fill the block
  pub taken_within : (x b : List ℕ) → s.total % 64 + length x < 64 → b ≡ block_of (filled s ++ x)
      → record { words = s.words; block = b; total = s.total + length x } ≡ taken s x
  unfolding taken
  taken_within x b h e =
      let l : length (filled s ++ x) < 64 = omega (arith, length_with x) in
      cc (whole_short s.words (filled s ++ x) l, rest_short (filled s ++ x) l)

  -- enough bytes to fill it: f is the block with the first of them, z are the others, and v is what they leave
  pub taken_filling : (x f w b z v : List ℕ) → 64 ≤ s.total % 64 + length x
      → f ≡ paste s.block (s.total % 64) (take (64 - s.total % 64) x) (length (take (64 - s.total % 64) x))
      → z ≡ drop (64 - s.total % 64) x
      → w ≡ whole (whole s.words f) z
      → v ≡ drop (length x - (s.total % 64 + length x) % 64) x
      → b ≡ block_of v
      → record { words = w; block = b; total = s.total + length x } ≡ taken s x
  unfolding taken
  taken_filling x f w b z v h ef ez ew ev eb =
      let a : ℕ = s.total % 64 in
      let o : ℕ = 64 - a in
      let k : ℕ = length x - (a + length x) % 64 in
      let y : List ℕ = filled s ++ x in
      let g : List ℕ = filled s ++ take o x in
      let p : List ℕ = filled s ++ take k x in
      let lo : length (take o x) ≡ o = length-take-le o x (omega arith) in
      let lk : length (take k x) ≡ k = length-take-le k x (omega arith) in
      let lg : length g % 64 ≡ 0 = omega (arith, length_with (take o x)) in
      let lp : length p % 64 ≡ 0 = omega (arith, length_with (take k x)) in
      let lv : length (drop k x) < 64 = rw length-drop (omega arith) in
      let full : length s.block ≤ a + length (take o x) = omega arith in
      let ed : drop (a + length (take o x)) s.block ≡ [] = drop_of_length-le s.block full in
      let fg : f ≡ g = cc (take-length (take o x), append-nil g) in
      let ey : y ≡ g ++ z = cc (append_assoc (filled s) (take o x) z, take-append-drop o x) in
      let ep : y ≡ p ++ drop k x = cc (append_assoc (filled s) (take k x) (drop k x), take-append-drop k x) in
      let ew' : w ≡ whole s.words y = ew ∙ ap (λ (l : List ℕ). whole (whole s.words l) z) fg
      ∙ sym (whole_join s.words g z lg) ∙ ap (λ (l : List ℕ). whole s.words l) (sym ey) in
      let er : rest y ≡ v = ap rest ep ∙ rest_join p (drop k x) lp ∙ rest_short (drop k x) lv ∙ sym ev in
      let eb' : b ≡ block_of (rest y) = eb ∙ ap block_of (sym er) in
      cc

  -- the filled part after taking in
  pub filled_taken : (x : List ℕ) → filled (taken s x) ≡ rest (filled s ++ x)
  unfolding taken
  filled_taken x =
      let y : List ℕ = filled s ++ x in
      let l : length (rest y) ≡ length y % 64 = length_rest y in
      ap (λ (b : List ℕ). take ((s.total + length x) % 64) b) (block_short (rest y) (omega arith))
      ∙ take_at (rest y) (replicate (64 - length (rest y)) 0) ((s.total + length x) % 64)
      (omega (arith, length_with x))

-- taking a in and then b is taking a ++ b in
pub taken_twice : (s : Sha) (a b : List ℕ) → length s.block ≡ 64 → taken (taken s a) b ≡ taken s (a ++ b)
unfolding taken
taken_twice s a b el =
    let y : List ℕ = filled s ++ a in
    let f : filled (taken s a) ≡ rest y = filled_taken s el a in
    let n : s.total + length a + length b ≡ s.total + length (a ++ b) = omega (arith, length-append a b) in
    cc (whole_rest s.words y b, rest_rest y b, append_assoc (filled s) a b)
