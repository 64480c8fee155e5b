-- Strings byte by byte, for `equal` and `greater`. Assumes nothing.
use mathlib.Core.Path.{◌≡◌, refl, sym, ap, ◌∙◌}
use mathlib.Core.List.{List, [], ◌∷◌}
use mathlib.Core.Bool.{Bool, true, false, ◌&&◌, false≢true}
use Prim.Native.Nat.{ℕ, ◌<◌}
use native.Mathlib.Omega.{arith}
use borrow.Author.Tests.{eqb-true, eq-eqb, ne_eqb, lt-ltb, le-ltb}
use lib.Bits.{bit_or, bit_xor, or_add_and, xor_add_and, and_le_l, and_le_r, xor_self, or_zero_l}
use lib.Dec.{eqb}
use lib.ListN.{length}
use Rattle.std.specs.Ordering.{MatchOrdering}
use Rattle.std.proofs.Common.{Ordering, Less, Equal, Greater}
use Rattle.notions.proofs.Tests.{cases}
use Rattle.routine.specs.Strings.{greater, same}
use Rattle.routine.proofs.Order.{same_equal}

-- ---- equal

pub same_length : (a b : List ℕ) → (length a ≡ length b → ⊥) → false ≡ same a b
same_length a b n = cases (same a b) (λ h. absurd (n (ap length (same_equal a b h)))) (λ h. sym h)

or_zero : (a b : ℕ) → bit_or a b ≡ 0 → (a ≡ 0) × (b ≡ 0)
or_zero a b e =
    let s = or_add_and a b in
    let l = and_le_l a b in
    let r = and_le_r a b in
    (omega arith, omega arith)

xor_zero : (a b : ℕ) → bit_xor a b ≡ 0 → a ≡ b
xor_zero a b e =
    let s = xor_add_and a b in
    let l = and_le_l a b in
    let r = and_le_r a b in
    omega arith

-- what is gathered stays 0 exactly if it was 0 and the two bytes are equal
gathered : (d x y : ℕ) → eqb (bit_or d (bit_xor x y)) 0 ≡ (eqb d 0 && eqb x y)
gathered d x y =
    cases (eqb d 0)
    (λ p.
    let d0 : d ≡ 0 = eqb-true d 0 p in
    cases (eqb x y)
    (λ q.
    let xy : x ≡ y = eqb-true x y q in
    simp (p, q) (eq-eqb _ 0 (ap (λ (n : ℕ). bit_or n (bit_xor x y)) d0 ∙ or_zero_l (bit_xor x y)
    ∙ ap (λ (n : ℕ). bit_xor n y) xy ∙ xor_self y)))
    (λ q. simp (p, q) (ne_eqb _ 0 (λ e. false≢true (sym q ∙ eq-eqb x y (xor_zero x y (or_zero d (bit_xor x y) e).1))))))
    (λ p. simp p (ne_eqb _ 0 (λ e. false≢true (sym p ∙ eq-eqb d 0 (or_zero d (bit_xor x y) e).0))))

and_assoc : (a b c : Bool) → ((a && b) && c) ≡ (a && (b && c))
and_assoc true b c = refl
and_assoc false b c = refl

same_cons : (x y : ℕ) (a b : List ℕ) → same (x ∷ a) (y ∷ b) ≡ (eqb x y && same a b)
unfolding same
same_cons x y a b = refl

-- one pair of bytes more is gathered: a and b are what is left
pub same_more : (a b : List ℕ) {u v : List ℕ} (d x y : ℕ) {t : Bool} → u ≡ x ∷ a → v ≡ y ∷ b
    → (length u ≡ length v) × (t ≡ (eqb d 0 && same u v))
    → (length a ≡ length b) × (t ≡ (eqb (bit_or d (bit_xor x y)) 0 && same a b))
same_more a b {u} {v} d x y {t} eu ev p =
    let l : length (x ∷ a) ≡ length (y ∷ b) = cc in
    (omega arith, rw (gathered d x y, and_assoc) (cc (same_cons x y a b)))

-- nothing is left
pub same_whole : (a b : List ℕ) (d : ℕ) {t : Bool} → length a ≡ 0 → (length a ≡ length b) × (t ≡ (eqb d 0 && same a b))
    → eqb d 0 ≡ t
unfolding same
same_whole [] [] d e p = sym (p.1 ∙ and_true (eqb d 0))
  where
    and_true : (t : Bool) → (t && true) ≡ t
    and_true true = refl
    and_true false = refl
same_whole [] (y ∷ b) d e p = absurd (let l = p.0 in omega arith)
same_whole (x ∷ a) b d e p = absurd (omega arith)

-- ---- greater

-- the first bytes decide by their order, or they are equal and the others decide
pub greater_ranked : (x y : ℕ) (a b : List ℕ) (o : Ordering) → MatchOrdering o (x < y) (x ≡ y) (y < x)
    → MatchOrdering o (greater (x ∷ a) (y ∷ b) ≡ false) (greater (x ∷ a) (y ∷ b) ≡ greater a b)
    (greater (x ∷ a) (y ∷ b) ≡ true)
unfolding greater
greater_ranked x y a b Less h =
    let l : x < y = h in
    simp (ne_eqb x y (λ e. omega arith), le-ltb y x (omega arith)) refl
greater_ranked x y a b Equal h = simp (eq-eqb x y h) refl
greater_ranked x y a b Greater h =
    let l : y < x = h in
    simp (ne_eqb x y (λ e. omega arith), lt-ltb y x l) refl
