-- A list that is read from a place on. Assumes nothing.
use mathlib.Core.Path.{◌≡◌, ap, sym, ◌∙◌}
use mathlib.Core.List.{List, [], ◌∷◌, ◌++◌}
use Prim.Native.Nat.{ℕ, ◌+◌, ◌<◌}
use native.Mathlib.Omega.{arith}
use native.Mathlib.Numerals.{add-one}
use lib.ListN.{length, get_or, set, take, drop, length-drop}
use lib.Seq.{take_all, take-suc, take-suc-set, get_or-drop}

-- the first k bytes are those from place p on, and so are the first k + 1 once the next is stored
pub one_more : (b r : List ℕ) (p k : ℕ) → k < length r → p + k < length b → take k r ≡ take k (drop p b)
    → take (k + 1) (set r k (get_or b (p + k) 0)) ≡ take (k + 1) (drop p b)
one_more b r p k h g e =
    let l : k < length (drop p b) = rw length-drop (omega arith) in
    rw add-one
    (take-suc-set r k (get_or b (p + k) 0) h
    ∙ ap (λ (x : List ℕ). x ++ (get_or b (p + k) 0 ∷ [])) e
    ∙ ap (λ (y : ℕ). take k (drop p b) ++ (y ∷ [])) (sym (get_or-drop p b k 0))
    ∙ sym (take-suc (drop p b) k 0 l))

pub all_read : (b r : List ℕ) (p q k n : ℕ) → k ≡ n → length r ≡ n → p ≡ q → take k r ≡ take k (drop p b)
    → r ≡ take n (drop q b)
all_read b r p q k n ek er ep e = cc (take_all n r (omega arith))
