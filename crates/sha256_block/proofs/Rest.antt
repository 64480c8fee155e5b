-- What whole blocks leave of some bytes. Assumes nothing.
use Rattle.std.proofs.Common.{◌≡◌, ℕ, ◌+◌, ◌-◌, ◌*◌, ◌/◌, ◌%◌, ◌<◌, List, ◌++◌, length, take, drop, sym, ap, ◌∙◌, append_assoc, arith, length-append, length-drop, take-append-drop, length-take-le, take_all}
use lib.Seq.{drop-append-add}
use Rattle.sha256_block.specs.Block.{whole, rest}
use Rattle.sha256_block.proofs.Laws.{whole_join, whole_short}

pub length_rest : (y : List ℕ) → length (rest y) ≡ length y % 64
length_rest y = rw length-drop (omega arith)

-- the part of a slice that the code names so
pub left_behind : (y : List ℕ) → take (length y - (length y - length y % 64)) (drop (length y - length y % 64) y)
    ≡ rest y
left_behind y =
    let e : length y - length y % 64 ≡ length y / 64 * 64 = omega arith in
    ap (λ (n : ℕ). take (length y - n) (drop n y)) e
    ∙ take_all (length y - length y / 64 * 64) (rest y) (rw length-drop (omega arith))

pub rest_join : (a b : List ℕ) → length a % 64 ≡ 0 → rest (a ++ b) ≡ rest b
rest_join a b h =
    let l : length (a ++ b) ≡ length a + length b = length-append a b in
    let e : length (a ++ b) / 64 * 64 ≡ length a + length b / 64 * 64 = omega arith in
    ap (λ (n : ℕ). drop n (a ++ b)) e ∙ drop-append-add a b (length b / 64 * 64)

pub rest_short : (y : List ℕ) → length y < 64 → rest y ≡ y
rest_short y h =
    let e : length y / 64 * 64 ≡ 0 = omega arith in
    ap (λ (n : ℕ). drop n y) e

-- the whole blocks of y
fore : List ℕ → List ℕ
fore y = take (length y / 64 * 64) y

fore_rest : (y : List ℕ) → fore y ++ rest y ≡ y
unfolding fore
fore_rest y = take-append-drop (length y / 64 * 64) y

length_fore : (y : List ℕ) → length (fore y) % 64 ≡ 0
unfolding fore
length_fore y =
    let l : length (take (length y / 64 * 64) y) ≡ length y / 64 * 64 =
    length-take-le (length y / 64 * 64) y (omega arith) in
    omega arith

whole_fore : (s y : List ℕ) → whole s y ≡ whole s (fore y)
whole_fore s y =
    let h : length (rest y) < 64 = omega (arith, length_rest y) in
    ap (λ (z : List ℕ). whole s z) (sym (fore_rest y)) ∙ whole_join s (fore y) (rest y) (length_fore y)
    ∙ whole_short (whole s (fore y)) (rest y) h

-- bytes behind y meet what y's whole blocks leave
pub whole_rest : (s y z : List ℕ) → whole s (y ++ z) ≡ whole (whole s y) (rest y ++ z)
whole_rest s y z =
    ap (λ (u : List ℕ). whole s (u ++ z)) (sym (fore_rest y))
    ∙ ap (λ (u : List ℕ). whole s u) (append_assoc (fore y) (rest y) z)
    ∙ whole_join s (fore y) (rest y ++ z) (length_fore y)
    ∙ ap (λ (u : List ℕ). whole u (rest y ++ z)) (sym (whole_fore s y))

pub rest_rest : (y z : List ℕ) → rest (y ++ z) ≡ rest (rest y ++ z)
rest_rest y z =
    ap (λ (u : List ℕ). rest (u ++ z)) (sym (fore_rest y))
    ∙ ap rest (append_assoc (fore y) (rest y) z)
    ∙ rest_join (fore y) (rest y ++ z) (length_fore y)
