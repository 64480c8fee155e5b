-- One turn of each loop. Assumes nothing.
use Rattle.std.proofs.Common.{◌≡◌, ℕ, zero, suc, ◌+◌, ◌*◌, ◌/◌, ◌<◌, List, [], ◌∷◌, ◌++◌, length, get_or, take, drop, set, refl, sym, ap, ◌∙◌, add-one, add-zero, arith, length-set}
use Rattle.std.proofs.lemmas.List.{drop-drop, get_or-drop, get_or-set_other, get_or-set_same, get_or-take, take_more_set}
use Rattle.std.proofs.Math.Nat.{zero-mul, suc-mul}
use Rattle.std.specs.Int.{w32, from_be_bytes}
use Rattle.std.specs.Simd.{first_chunks}
use Rattle.sha256_block.specs.declared.Vars.{Vars}
use Rattle.sha256_block.specs.Words.{word, words}
use Rattle.sha256_block.specs.Constants.{K}
use Rattle.sha256_block.specs.Block.{next, schedule, round, rounds, compress, blocks}

-- what stands at i in a list that is cut into k pieces of n
piece : (n k i : ℕ) (m : List ℕ) → i < k → get_or (first_chunks n k m) i [] ≡ take n (drop (i * n) m)
piece n zero i m h = absurd (omega arith)
piece n (suc k) zero m h = ap (λ (j : ℕ). take n (drop j m)) (sym (zero-mul n))
piece n (suc k) (suc i) m h =
    let e : n + i * n ≡ suc i * n = omega (arith, suc-mul i n) in
    piece n k i (drop n m) (omega arith) ∙ ap (take n) (drop-drop (i * n) n m ∙ ap (λ (j : ℕ). drop j m) e)

-- the word of four bytes
word_of_piece : (m : List ℕ) (k : ℕ) → from_be_bytes w32 (take 4 (drop k m)) ≡ word m k
unfolding word
word_of_piece m k =
    let at : (j : ℕ) → j < 4 → get_or (take 4 (drop k m)) j 0 ≡ get_or m (k + j) 0 = λ j l.
    get_or-take 4 (drop k m) j 0 l ∙ get_or-drop k m j 0 in
    rw (at 0 (omega arith), at 1 (omega arith), at 2 (omega arith), at 3 (omega arith), add-zero) refl

words_next : (m : List ℕ) (i : ℕ) → words m (i + 1) ≡ words m i ++ (word m (i * 4) ∷ [])
unfolding words
words_next m i = rw add-one

pub words_more : (m w : List ℕ) (pieces : List (List ℕ)) (i x : ℕ) → i < length w → i < length m / 4
    → take i w ≡ words m i → pieces ≡ first_chunks 4 (length m / 4) m → x ≡ from_be_bytes w32 (get_or pieces i [])
    → take (i + 1) (set w i x) ≡ words m (i + 1)
words_more m w pieces i x h k inv ep ex =
    let e : x ≡ word m (i * 4) = ex ∙ ap (λ (l : List (List ℕ)). from_be_bytes w32 (get_or l i [])) ep
    ∙ ap (from_be_bytes w32) (piece 4 (length m / 4) i m k) ∙ word_of_piece m (i * 4) in
    cc (take_more_set w i x h, words_next m i)

schedule_next : (m : List ℕ) (n : ℕ)
    → schedule m (n + 1) ≡ schedule m n ++ (next (get_or (schedule m n) (n + 14) 0) (get_or (schedule m n) (n + 9) 0)
    (get_or (schedule m n) (n + 1) 0) (get_or (schedule m n) n 0) ∷ [])
unfolding schedule
schedule_next m n = rw (add-one, add-one)

-- the schedule's next word is made of words that are there, and the two before it are carried along
pub schedule_more : (m w : List ℕ) (n w2 w1 x : ℕ) → n < 48 → length w ≡ 64 → take (n + 16) w ≡ schedule m n
    → w2 ≡ get_or w (n + 14) 0 → w1 ≡ get_or w (n + 15) 0
    → x ≡ next w2 (get_or w (n + 9) 0) (get_or w (n + 1) 0) (get_or w n 0)
    → (length (set w (n + 16) x) ≡ 64)
    × (take (n + 1 + 16) (set w (n + 16) x) ≡ schedule m (n + 1))
    × (w1 ≡ get_or (set w (n + 16) x) (n + 1 + 14) 0)
    × (x ≡ get_or (set w (n + 16) x) (n + 1 + 15) 0)
schedule_more m w n w2 w1 x h l inv e2 e1 e =
    let e14 : n + 1 + 14 ≡ n + 15 = omega arith in
    let e15 : n + 1 + 15 ≡ n + 16 = omega arith in
    let e16 : n + 1 + 16 ≡ n + 16 + 1 = omega arith in
    let at : (i : ℕ) → i < n + 16 → get_or (take (n + 16) w) i 0 ≡ get_or w i 0 = λ i k. get_or-take (n + 16) w i 0 k in (
      simp length-set l,
      cc (
        take_more_set w (n + 16) x (omega arith),
        schedule_next m n,
        at (n + 14) (omega arith),
        at (n + 9) (omega arith),
        at (n + 1) (omega arith),
        at n (omega arith),
      ),
      cc (get_or-set_other w (n + 16) (n + 15) x 0 (λ q. omega arith)),
      cc (get_or-set_same w (n + 16) x 0 (omega arith)),
    )

rounds_next : (w : List ℕ) (v : Vars) (t : ℕ) → rounds w v (t + 1) ≡ round (get_or K t 0) (get_or w t 0) (rounds w v t)
unfolding rounds
rounds_next w v t = rw add-one

-- four rounds are one turn
pub rounds_four : (w : List ℕ) (v₀ v v1 v2 v3 v4 : Vars) (t : ℕ) → v ≡ rounds w v₀ t
    → v1 ≡ round (get_or K t 0) (get_or w t 0) v → v2 ≡ round (get_or K (t + 1) 0) (get_or w (t + 1) 0) v1
    → v3 ≡ round (get_or K (t + 2) 0) (get_or w (t + 2) 0) v2 → v4 ≡ round (get_or K (t + 3) 0) (get_or w (t + 3) 0) v3
    → v4 ≡ rounds w v₀ (t + 4)
rounds_four w v₀ v v1 v2 v3 v4 t e e1 e2 e3 e4 =
    let n2 : t + 1 + 1 ≡ t + 2 = omega arith in
    let n3 : t + 2 + 1 ≡ t + 3 = omega arith in
    let n4 : t + 3 + 1 ≡ t + 4 = omega arith in
    cc (rounds_next w v₀ t, rounds_next w v₀ (t + 1), rounds_next w v₀ (t + 2), rounds_next w v₀ (t + 3))

blocks_next : (s m : List ℕ) (n : ℕ) → blocks s m (n + 1) ≡ compress (blocks s m n) (take 64 (drop (n * 64) m))
unfolding blocks
blocks_next s m n = rw add-one

pub blocks_more : (s m w r : List ℕ) (pieces : List (List ℕ)) (i : ℕ) → i < length m / 64
    → w ≡ blocks s m i → pieces ≡ first_chunks 64 (length m / 64) m → r ≡ compress w (get_or pieces i [])
    → r ≡ blocks s m (i + 1)
blocks_more s m w r pieces i h ew ep er =
    let e : get_or pieces i [] ≡ take 64 (drop (i * 64) m) = ap (λ (l : List (List ℕ)). get_or l i []) ep ∙ piece 64 (length m / 64) i m h in
    cc (blocks_next s m i)
