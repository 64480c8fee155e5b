-- Bytes laid into a buffer, as far as they fit. Assumes nothing.
use mathlib.Core.Path.{◌≡◌, refl, ap, sym, ◌∙◌}
use mathlib.Core.List.{List, [], ◌∷◌, ◌++◌, append-nil}
use Prim.Native.Nat.{ℕ, zero, suc, ◌+◌, ◌-◌, ◌≤◌, min}
use native.Mathlib.Nat.{add-zero}
use native.Mathlib.Omega.{arith}
use lib.ListN.{length, set, take, drop, length-take, length-drop, drop_of_length-le}
use lib.Seq.{sets, paste, sets-eq, set_out, drop-nil, take_all, take-length, length-take-le}

-- one part behind the other
pub sets_append : (a b l : List ℕ) (i : ℕ) → sets (sets l i a) (i + length a) b ≡ sets l i (a ++ b)
sets_append [] b l i = rw add-zero
sets_append (x ∷ a) b l i =
    let e : i + suc (length a) ≡ suc i + length a = omega arith in
    rw e (sets_append a b (set l i x) (suc i))

-- a part is laid; `goal` is the buffer that what is still to be laid leads to
pub part_more : (out out' goal a b : List ℕ) (p q : ℕ) → sets out p (a ++ b) ≡ goal → out' ≡ sets out p a → q ≡ p + length a
    → sets out' q b ≡ goal
part_more out out' goal a b p q e l n =
    ap (λ (k : ℕ). sets out' k b) n
    ∙ ap (λ (o : List ℕ). sets o (p + length a) b) l
    ∙ sets_append a b out p
    ∙ e

sets_nil : (i : ℕ) (t : List ℕ) → sets [] i t ≡ []
sets_nil i [] = refl
sets_nil i (a ∷ t) = sets_nil (suc i) t

sets_cons : (x : ℕ) (l : List ℕ) (i : ℕ) (t : List ℕ) → sets (x ∷ l) (suc i) t ≡ x ∷ sets l i t
sets_cons x l i [] = refl
sets_cons x l i (a ∷ t) = sets_cons x (set l i a) (suc i) t

-- from the buffer's start
pub cut : (l t : List ℕ) → sets l 0 t ≡ take (length l) t ++ drop (length t) l
cut [] t = sets_nil 0 t ∙ sym (drop-nil (length t))
cut (x ∷ l) [] = refl
cut (x ∷ l) (a ∷ t) = sets_cons a l 0 t ∙ ap (λ (r : List ℕ). a ∷ r) (cut l t)

-- from a place on: what stands before it stays
sets_from : (l : List ℕ) (i : ℕ) (t : List ℕ) → sets l i t ≡ take i l ++ sets (drop i l) 0 t
sets_from l zero t = refl
sets_from [] (suc i) t = sets_nil (suc i) t ∙ sym (sets_nil 0 t)
sets_from (x ∷ l) (suc i) t = sets_cons x l i t ∙ ap (λ (r : List ℕ). x ∷ r) (sets_from l i t)

-- none, where they begin behind the end
pub sets_out : (l t : List ℕ) (i : ℕ) → length l ≤ i → sets l i t ≡ l
sets_out l [] i h = refl
sets_out l (a ∷ t) i h = ap (λ (r : List ℕ). sets r (suc i) t) (set_out l i a h) ∙ sets_out l t (suc i) (omega arith)

-- n of them, and all, where they fit
pub laid_part : (l : List ℕ) (i n : ℕ) (x : List ℕ) → i + n ≤ length l → n ≤ length x
    → sets l i (take n x) ≡ paste l i x n
laid_part l i n x h k =
    let e : length (take n x) ≡ n = length-take-le n x k in
    sets-eq (take n x) l i (omega arith) ∙ ap (λ (j : ℕ). take i l ++ take n x ++ drop (i + j) l) e

pub laid_whole : (l : List ℕ) (i : ℕ) (x : List ℕ) → i + length x ≤ length l → sets l i x ≡ paste l i x (length x)
laid_whole l i x h = ap (λ (r : List ℕ). sets l i r) (sym (take-length x)) ∙ laid_part l i (length x) x h (omega arith)

-- over the whole buffer
pub laid_over : (l x : List ℕ) → length x ≡ length l → sets l 0 x ≡ x
laid_over l x e =
    let z : drop (length x) l ≡ [] = drop_of_length-le l {i = length x} (omega arith) in
    cut l x
    ∙ ap (λ (r : List ℕ). take (length l) x ++ r) z
    ∙ append-nil (take (length l) x)
    ∙ take_all (length l) x (omega arith)

-- what `store` leaves: k bytes fit, and stand as v in the room from the place on
take_length_take : (m : ℕ) (x : List ℕ) → take (length (take m x)) x ≡ take m x
take_length_take zero x = refl
take_length_take (suc m) [] = refl
take_length_take (suc m) (a ∷ x) = ap (λ (r : List ℕ). a ∷ r) (take_length_take m x)

drop_length_take : (y t : List ℕ) → drop (length (take (length y) t)) y ≡ drop (length t) y
drop_length_take [] t = sym (drop-nil (length t))
drop_length_take (a ∷ y) [] = refl
drop_length_take (a ∷ y) (b ∷ t) = drop_length_take y t

copied : (x y v : List ℕ) (k : ℕ) → k ≡ length (take (length y) x) → v ≡ take k x ++ drop k y → v ≡ sets y 0 x
copied x y v k e ev =
    ev
    ∙ ap (λ (j : ℕ). take j x ++ drop j y) e
    ∙ ap (λ (r : List ℕ). r ++ drop (length (take (length y) x)) y) (take_length_take (length y) x)
    ∙ ap (λ (r : List ℕ). take (length y) x ++ r) (drop_length_take y x)
    ∙ sym (cut y x)

pub stored : (l x v : List ℕ) (i n k : ℕ) → k ≡ min (length l - i) (length x) → n ≡ k → v ≡ take k x
    → take i l ++ (v ++ drop n (drop i l)) ≡ sets l i x
stored l x v i n k e en ev =
    let y = drop i l in
    let m : k ≡ length (take (length y) x) = simp (length-take, length-drop) e in
    let f : v ++ drop n y ≡ take k x ++ drop k y = cc in
    ap (λ (r : List ℕ). take i l ++ r) (f ∙ copied x y (take k x ++ drop k y) k m refl) ∙ sym (sets_from l i x)
