-- Lists of bytes are made of lists of bytes. Assumes nothing.
use mathlib.Core.List.{List, [], ◌∷◌, ◌++◌}
use Prim.Native.Nat.{ℕ, zero, suc, ◌+◌, ◌<◌}
use native.Mathlib.Omega.{arith}
use lib.ListN.{take, drop, set}
use lib.Seq.{get_or-drop, sets}
use Rattle.notions.specs.Bytes.{Bytes}

pub bytes_cons : (x : ℕ) (l : List ℕ) → x < 256 → Bytes l → Bytes (x ∷ l)
bytes_cons x l h p zero = h
bytes_cons x l h p (suc i) = p i

pub bytes_append : (a b : List ℕ) → Bytes a → Bytes b → Bytes (a ++ b)
bytes_append [] b p q i = q i
bytes_append (x ∷ a) b p q zero = p zero
bytes_append (x ∷ a) b p q (suc i) = bytes_append a b (λ j. p (suc j)) q i

pub bytes_take : (n : ℕ) (l : List ℕ) → Bytes l → Bytes (take n l)
bytes_take zero l p i = omega arith
bytes_take (suc n) [] p i = omega arith
bytes_take (suc n) (x ∷ l) p zero = p zero
bytes_take (suc n) (x ∷ l) p (suc i) = bytes_take n l (λ j. p (suc j)) i

pub bytes_drop : (n : ℕ) (l : List ℕ) → Bytes l → Bytes (drop n l)
bytes_drop n l p i = rw get_or-drop (p (n + i))

bytes_set : (l : List ℕ) (a x : ℕ) → x < 256 → Bytes l → Bytes (set l a x)
bytes_set [] a x h p i = p i
bytes_set (y ∷ l) zero x h p zero = h
bytes_set (y ∷ l) zero x h p (suc i) = p (suc i)
bytes_set (y ∷ l) (suc a) x h p zero = p zero
bytes_set (y ∷ l) (suc a) x h p (suc i) = bytes_set l a x h (λ j. p (suc j)) i

pub bytes_sets : (l : List ℕ) (a : ℕ) (v : List ℕ) → Bytes l → Bytes v → Bytes (sets l a v)
bytes_sets l a [] p q = p
bytes_sets l a (x ∷ v) p q = bytes_sets (set l a x) (suc a) v (bytes_set l a x (q zero) p) (λ i. q (suc i))
