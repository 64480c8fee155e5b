-- The laws of "the first such": they say all there is to say of it. Assumes nothing.
use mathlib.Core.Path.{◌≡◌, refl, ap, sym, subst}
use mathlib.Core.Bool.{Bool, true, false}
use Prim.Native.Nat.{ℕ, zero, suc, ◌+◌, ◌≤◌, ◌<◌}
use native.Mathlib.Nat.{not-suc-le-zero, le_of_suc-le-suc}
use native.Mathlib.Omega.{arith}
use lib.Dec.{ltb}
use borrow.Author.Tests.{ltb-true, ltb-false, le-ltb, lt-ltb}
use Rattle.std.specs.Prelude.{Option, Some, None, MatchOption}
use Rattle.notions.specs.First.{first, found}
use Rattle.notions.proofs.Tests.{cases}

pub first_most : (n : ℕ) (p : ℕ → Bool) → first n p ≤ n
unfolding first
first_most zero p = omega arith
first_most (suc n) p =
    cases (p 0) (λ e. simp e (omega arith)) (λ e. simp e (omega (arith, first_most n (λ k. p (suc k)))))

-- where one is found, the property holds
pub first_found : (n : ℕ) (p : ℕ → Bool) → first n p < n → p (first n p) ≡ true
unfolding first
first_found zero p h = absurd (not-suc-le-zero h)
first_found (suc n) p h =
    cases (p 0) (λ e. simp e) (λ e. simp e (first_found n (λ k. p (suc k)) (le_of_suc-le-suc (simp e at h))))

-- below it, the property holds nowhere
pub first_least : (n : ℕ) (p : ℕ → Bool) (k : ℕ) → k < first n p → p k ≡ false
unfolding first
first_least zero p k h = absurd (not-suc-le-zero h)
first_least (suc n) p zero h = cases (p 0) (λ e. absurd (not-suc-le-zero (simp e at h))) (λ e. e)
first_least (suc n) p (suc k) h =
    cases (p 0) (λ e. absurd (not-suc-le-zero (simp e at h)))
    (λ e. first_least n (λ j. p (suc j)) k (le_of_suc-le-suc (simp e at h)))

-- what a search has found that passed all before it
pub first_is : (n : ℕ) (p : ℕ → Bool) (i : ℕ) → i < n → ((k : ℕ) → k < i → p k ≡ false) → p i ≡ true → first n p ≡ i
unfolding first
first_is zero p i h f e = absurd (not-suc-le-zero h)
first_is (suc n) p zero h f e = simp e
first_is (suc n) p (suc i) h f e =
    simp (f zero (omega arith))
    (ap suc (first_is n (λ k. p (suc k)) i (le_of_suc-le-suc h) (λ k l. f (suc k) (omega arith)) e))

-- what a search answers that passed all
pub first_none : (n : ℕ) (p : ℕ → Bool) → ((k : ℕ) → k < n → p k ≡ false) → first n p ≡ n
unfolding first
first_none zero p f = refl
first_none (suc n) p f =
    simp (f zero (omega arith)) (ap suc (first_none n (λ k. p (suc k)) (λ k l. f (suc k) (omega arith))))

-- a check that refuses the first such: it passes exactly if there is none
pub none_found : (n : ℕ) (p : ℕ → Bool) → ltb (first n p) n ≡ false → (k : ℕ) → k < n → p k ≡ false
none_found n p e k h = first_least n p k (omega (arith, ltb-false (first n p) n e))

pub found_none : (n : ℕ) (p : ℕ → Bool) → ((k : ℕ) → k < n → p k ≡ false) → ltb (first n p) n ≡ false
found_none n p f = le-ltb (first n p) n (omega (arith, first_none n p f))

-- two properties that agree below n have the same first
pub first_same : (n : ℕ) (p q : ℕ → Bool) → ((k : ℕ) → k < n → p k ≡ q k) → first n p ≡ first n q
unfolding first
first_same zero p q f = refl
first_same (suc n) p q f =
    simp (f zero (omega arith), first_same n (λ k. p (suc k)) (λ k. q (suc k)) (λ k l. f (suc k) (omega arith)))

-- a search over n has passed all below k
pub record Passed (n : ℕ) (p : ℕ → Bool) (k : ℕ) : Type 0 where
  pub most : k ≤ n
  pub none : (j : ℕ) → j < k → p j ≡ false

pub passed_zero : (n : ℕ) (p : ℕ → Bool) → Passed n p 0
passed_zero n p = record { most = omega arith; none = λ j l. absurd (not-suc-le-zero l) }

pub passed_more : {n : ℕ} {p : ℕ → Bool} {k : ℕ} → Passed n p k → k < n → p k ≡ false → Passed n p (k + 1)
passed_more {n} {p} {k} s h e = record {
  most = omega arith;
  none = λ j l. cases (ltb j k)
      (λ t. s.none j (ltb-true j k t))
      (λ t. let q : k ≡ j = omega (arith, ltb-false j k t) in subst (λ (i : ℕ). p i ≡ false) q e);
}

-- what it answers at a hit, and at the end
pub passed_found : {n : ℕ} {p : ℕ → Bool} {k : ℕ} → Passed n p k → k < n → p k ≡ true → k ≡ first n p
passed_found s h e = sym (first_is _ _ _ h s.none e)

pub passed_all : {n : ℕ} {p : ℕ → Bool} {k : ℕ} → Passed n p k → n ≤ k → k ≡ first n p
passed_all {n} {p} {k} s h = omega (arith, first_none n p (λ j l. s.none j (omega arith)))

-- what `find` over a range from 0 on answers, in the words of `first_from_Range`
pub found_in_range : (n : ℕ) (p : ℕ → Bool) (r : Option ℕ)
    → MatchOption r ((k : ℕ) → 0 ≤ k → k < n → p k ≡ false)
    (λ i. (0 ≤ i) × (i < n) × (p i ≡ true) × ((k : ℕ) → 0 ≤ k → k < i → p k ≡ false))
    → r ≡ found n p
found_in_range n p None h = simp (found_none n p (λ k l. h k (omega arith) l))
found_in_range n p (Some i) h =
    let e : first n p ≡ i = first_is n p i h.1 (λ k l. h.3 k (omega arith) l) h.2 in
    simp (e, lt-ltb i n h.1)

-- what a search that has found one, or none, says of the first
pub found_some : (n : ℕ) (p : ℕ → Bool) (k : ℕ) → found n p ≡ Some k → (ltb (first n p) n ≡ true) × (k ≡ first n p)
found_some n p k e = cases (ltb (first n p) n) (λ t. (t, let z = simp t at e in cc)) (λ t. absurd (let z = simp t at e in cc))

pub found_nothing : (n : ℕ) (p : ℕ → Bool) → found n p ≡ None → ltb (first n p) n ≡ false
found_nothing n p e = cases (ltb (first n p) n) (λ t. absurd (let z = simp t at e in cc)) (λ t. t)
