-- The claims about the comparisons hold. Assumes nothing.
use mathlib.Core.Path.{◌≡◌, refl, sym, ap, ◌∙◌}
use mathlib.Core.List.{List, [], ◌∷◌}
use mathlib.Core.Logic.{◌⊎◌, inl, inr}
use mathlib.Core.Bool.{true, false, false≢true}
use Prim.Native.Nat.{ℕ, suc, ◌+◌, ◌*◌, ◌^◌, ◌<◌, ◌≤◌}
use native.Mathlib.Omega.{arith}
use native.Mathlib.Nat.{pow-zero, pow-suc, suc-mul, mul-le-mul_right}
use borrow.Author.Tests.{eqb-true, eqb-false, eq-eqb, ne_eqb, ltb-true, ltb-false, lt-ltb}
use lib.Dec.{ltb, eqb}
use lib.ListN.{length}
use Rattle.notions.specs.Bytes.{Bytes}
use Rattle.notions.proofs.Tests.{cases, both, clash}
use Rattle.routine.specs.Strings.{greater, same, weight}
use Rattle.routine.specs.Order as claim

-- ---- `same`

same_self : (a : List ℕ) → same a a ≡ true
unfolding same
same_self [] = refl
same_self (x ∷ a) = simp (eq-eqb x x refl, same_self a)

pub equal_same : (a b : List ℕ) → a ≡ b → same a b ≡ true
equal_same a b e = rw e (same_self b)

pub same_equal : (a b : List ℕ) → same a b ≡ true → a ≡ b
unfolding same
same_equal [] [] e = refl
same_equal [] (y ∷ b) e = absurd (false≢true e)
same_equal (x ∷ a) [] e = absurd (false≢true e)
same_equal (x ∷ a) (y ∷ b) e =
    let p = both (eqb x y) (same a b) e in
    cc (eqb-true x y p.0, same_equal a b p.1)

pub same_exactly : claim.SameExactly
same_exactly a b = (same_equal a b, equal_same a b)

-- ---- `greater` is a strict order on all strings

pub greater_irreflexive : claim.GreaterIrreflexive
unfolding greater
greater_irreflexive [] = refl
greater_irreflexive (x ∷ a) = simp (eq-eqb x x refl) (greater_irreflexive a)

-- the heads decide, or they are equal and the tails decide
head_or_tail : (x y : ℕ) (a b : List ℕ) → greater (x ∷ a) (y ∷ b) ≡ true → (y < x) ⊎ ((x ≡ y) × (greater a b ≡ true))
unfolding greater
head_or_tail x y a b e =
    cases (eqb x y) (λ h. inr (eqb-true x y h, simp h at e)) (λ h. inl (ltb-true y x (simp h at e)))

by_head : (x y : ℕ) (a b : List ℕ) → y < x → greater (x ∷ a) (y ∷ b) ≡ true
unfolding greater
by_head x y a b h = simp (ne_eqb x y (λ e. omega arith), lt-ltb y x h)

by_tail : (x y : ℕ) (a b : List ℕ) → x ≡ y → greater a b ≡ true → greater (x ∷ a) (y ∷ b) ≡ true
unfolding greater
by_tail x y a b h e = simp (eq-eqb x y h, e)

none_greater : {P : Type 0} (b : List ℕ) → greater [] b ≡ true → P
unfolding greater
none_greater b e = absurd (false≢true e)

longer_greater : (x : ℕ) (a : List ℕ) → greater (x ∷ a) [] ≡ true
unfolding greater
longer_greater x a = refl

pub greater_trans : claim.GreaterTrans
greater_trans [] b c p q = none_greater b p
greater_trans (x ∷ a) [] c p q = none_greater c q
greater_trans (x ∷ a) (y ∷ b) [] p q = longer_greater x a
greater_trans (x ∷ a) (y ∷ b) (z ∷ c) p q =
    elim (head_or_tail x y a b p) [
      | inl h ↦ elim (head_or_tail y z b c q) [
        | inl g ↦ by_head x z a c (omega arith)
        | inr g ↦ by_head x z a c
            (omega (arith, g.0))
      ]
      | inr h ↦
          elim (head_or_tail y z b c q) [
            | inl g ↦ by_head x z a c (omega (arith, h.0))
            | inr g ↦ by_tail x z a c (h.0 ∙ g.0) (greater_trans a b c h.1 g.1)
          ]
    ]

-- ---- strings of one length compare as the numbers that they stand for

suc_injective : {m n : ℕ} → suc m ≡ suc n → m ≡ n
suc_injective {m} {n} e = omega arith

suc_not_zero : {P : Type 0} {n : ℕ} → suc n ≡ 0 → P
suc_not_zero {P} {n} e = absurd (omega arith)

weight_lt : (a : List ℕ) → Bytes a → weight a < 256 ^ length a
unfolding weight
weight_lt [] h = rw pow-zero (omega arith)
weight_lt (x ∷ a) h =
    let p : ℕ = 256 ^ length a in
    let b : x < 256 = h 0 in
    let m : x * p ≤ 255 * p = mul-le-mul_right p (omega arith) in
    rw pow-suc (omega (arith, weight_lt a (λ i. h (suc i))))

pub weight_greater : (a b : List ℕ) → length a ≡ length b → Bytes a → Bytes b → greater a b ≡ true → weight b < weight a
unfolding weight
weight_greater [] b e ha hb p = none_greater b p
weight_greater (x ∷ a) [] e ha hb p = suc_not_zero e
weight_greater (x ∷ a) (y ∷ b) e ha hb p =
    let e' : length a ≡ length b = suc_injective e in
    let k : ℕ = 256 ^ length a in
    elim (head_or_tail x y a b p) [
      | inl h ↦
          let m : suc y * k ≤ x * k = mul-le-mul_right k h in
          let s : suc y * k ≡ y * k + k = suc-mul y k in
          let n : weight b < k = rw e' (weight_lt b (λ i. hb (suc i))) in
          rw (← e') (omega arith)
      | inr h ↦
          let n : weight b < weight a = weight_greater a b e' (λ i. ha (suc i)) (λ i. hb (suc i)) h.1 in
          rw (← e', h.0) (omega arith)
    ]

less : (x y : ℕ) → (x ≡ y → ⊥) → (y < x → ⊥) → x < y
less x y n l =
    cases (ltb x y) (λ h. ltb-true x y h)
    (λ h. cases (ltb y x) (λ g. absurd (l (ltb-true y x g)))
    (λ g. absurd (n (between (ltb-false y x g) (ltb-false x y h)))))
  where
    between : x ≤ y → y ≤ x → x ≡ y
    between p q = omega arith

-- not greater: greater the other way round, or equal
pub not_greater : (a b : List ℕ) → length a ≡ length b → greater a b ≡ false → (greater b a ≡ true) ⊎ (a ≡ b)
unfolding greater
not_greater [] [] e p = inr refl
not_greater [] (y ∷ b) e p = suc_not_zero (sym e)
not_greater (x ∷ a) [] e p = suc_not_zero e
not_greater (x ∷ a) (y ∷ b) e p =
    cases (eqb x y)
    (λ h.
    let heads = eqb-true x y h in
    elim (not_greater a b (suc_injective e) (simp h at p)) [
      | inl q ↦ inl (by_tail y x b a (sym heads) q)
      | inr q ↦ inr (cc)
    ])
    (λ h. inl (by_head y x b a (less x y (eqb-false x y h)
    (λ g. clash (greater (x ∷ a) (y ∷ b)) (by_head x y a b g) p))))

pub greater_weight : claim.GreaterWeight
greater_weight a b e ha hb = (weight_greater a b e ha hb, heavier)
  where
    heavier : weight b < weight a → greater a b ≡ true
    heavier h =
        cases (greater a b) (λ p. p)
        (λ p. elim (not_greater a b e p) [
          | inl q ↦ absurd (omega (arith, weight_greater b a (sym e) hb ha q))
          | inr q ↦ absurd (omega (arith, ap weight q))
        ])
