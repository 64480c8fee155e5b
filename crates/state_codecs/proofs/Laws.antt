-- Nothing is lost: the law of specs/Back.antt. Assumes nothing.
use mathlib.Core.Path.{◌≡◌, refl, ap, ◌∙◌}
use mathlib.Core.List.{List, ◌++◌, append-nil}
use Prim.Native.Nat.{ℕ, zero, suc, ◌+◌, ◌-◌, ◌*◌, ◌≤◌}
use native.Mathlib.Omega.{arith}
use lib.ListN.{length, take, drop, replicate, length-drop}
use lib.Seq.{take-add, take_all}
use Rattle.notions.specs.Bytes.{Bytes}
use Rattle.notions.proofs.Bytes.{bytes_drop}
use Rattle.sha256.specs.Running.{block_of}
use Rattle.octets.specs.Numbers.{number, little}
use Rattle.octets.proofs.Laws.{part_back}
use Rattle.state_codecs.specs.States.{words_of, words_bytes, state_of, state_bytes}
use Rattle.state_codecs.specs.Back.{StateBack}

words_back : (k : ℕ) (b : List ℕ) → Bytes b → 4 * k ≤ length b → words_bytes (words_of k b) ≡ take (4 * k) b
unfolding words_of words_bytes
words_back zero b p h = refl
words_back (suc k) b p h =
    let e : 4 * suc k ≡ 4 + 4 * k = omega arith in
    let w : little 4 (number (take 4 b)) ≡ take 4 b = part_back 4 b p (omega arith) in
    let r : words_bytes (words_of k (drop 4 b)) ≡ take (4 * k) (drop 4 b)
    = words_back k (drop 4 b) (bytes_drop 4 b p) (simp length-drop (omega arith)) in
    cc (take-add 4 (4 * k) b)

-- a whole block has no zeros behind it
block_back : (b : List ℕ) → 64 ≤ length b → block_of b ≡ take 64 b
block_back b h =
    let z : 64 - length b ≡ 0 = omega arith in
    ap (λ (n : ℕ). take 64 b ++ replicate n 0) z ∙ append-nil (take 64 b)

pub state_back : StateBack
unfolding state_of state_bytes
state_back b p e =
    let w : words_bytes (words_of 8 b) ≡ take 32 b = words_back 8 b p (omega arith) in
    let k : block_of (drop 32 b) ≡ take 64 (drop 32 b) = block_back (drop 32 b) (simp length-drop (omega arith)) in
    let t : little 8 (number (take 8 (drop 96 b))) ≡ take 8 (drop 96 b)
    = part_back 8 (drop 96 b) (bytes_drop 96 b p) (simp length-drop (omega arith)) in
    cc (take-add 32 64 b, take-add 96 8 b, take_all 104 b (omega arith))
