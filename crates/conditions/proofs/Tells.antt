-- Tests of a check, and what each tells in the words of a condition. Assumes nothing.
use mathlib.Core.Path.{◌≡◌, refl}
use mathlib.Core.Logic.{◌≢◌, ◌⊎◌, inl, inr}
use mathlib.Core.Bool.{Bool, true, false, not, ◌&&◌, ◌||◌, true≢false, false≢true}
use Prim.Native.Nat.{ℕ, ◌≤◌, ◌<◌}
use native.Mathlib.Omega.{arith}
use lib.Dec.{leb, ltb, eqb}
use borrow.Author.Tests.{ltb-true, ltb-false, leb-true, leb-false, eqb-true, eqb-false, not-true, not-false}
use Rattle.notions.specs.First.{first}
use Rattle.notions.proofs.First.{first_found, none_found}

-- the test holds exactly where P does
pub record Tells (t : Bool) (P : Type 0) : Type 0 where
  pub yes : t ≡ true → P
  pub no : t ≡ false → P → ⊥

pub tells_lt : (a b : ℕ) → Tells (ltb a b) (a < b)
tells_lt a b = record { yes = ltb-true a b; no = λ e h. let g = ltb-false a b e in omega arith }

pub tells_ge : (a b : ℕ) → Tells (not (ltb a b)) (b ≤ a)
tells_ge a b = record {
  yes = λ e. ltb-false a b (not-true (ltb a b) e);
  no = λ e h. let g = ltb-true a b (not-false (ltb a b) e) in omega arith;
}

pub tells_le : (a b : ℕ) → Tells (leb a b) (a ≤ b)
tells_le a b = record { yes = leb-true a b; no = λ e h. let g = leb-false a b e in omega arith }

pub tells_eq : (a b : ℕ) → Tells (eqb a b) (a ≡ b)
tells_eq a b = record { yes = eqb-true a b; no = eqb-false a b }

pub tells_not : {t : Bool} {P : Type 0} → Tells t P → Tells (not t) (P → ⊥)
tells_not {t} p = record { yes = λ e. p.no (not-true t e); no = λ e f. f (p.yes (not-false t e)) }

pub tells_ne : (a b : ℕ) → Tells (not (eqb a b)) (a ≢ b)
tells_ne a b = tells_not (tells_eq a b)

pub tells_or : {a b : Bool} {P Q : Type 0} → Tells a P → Tells b Q → Tells (a || b) (P ⊎ Q)
tells_or {a = true} p q = record { yes = λ e. inl (p.yes refl); no = λ e. absurd (true≢false e) }
tells_or {a = false} p q =
    record { yes = λ e. inr (q.yes e); no = λ e. elim [ inl x ↦ p.no refl x | inr y ↦ q.no e y ] }

pub tells_and : {a b : Bool} {P Q : Type 0} → Tells a P → Tells b Q → Tells (a && b) (P × Q)
tells_and {a = true} p q = record { yes = λ e. (p.yes refl, q.yes e); no = λ e x. q.no e x.1 }
tells_and {a = false} p q = record { yes = λ e. absurd (false≢true e); no = λ e x. p.no refl x.0 }

-- a test of two, of which one fails
pub tells_lacks : (a b : Bool) {P Q : Type 0} → Tells (not a) P → Tells (not b) Q → Tells (not (a && b)) (P ⊎ Q)
tells_lacks true b p q =
    record { yes = λ e. inr (q.yes e); no = λ e. elim [ inl x ↦ p.no refl x | inr y ↦ q.no e y ] }
tells_lacks false b p q = record { yes = λ e. inl (p.yes refl); no = λ e. absurd (true≢false e) }

-- the same in other words
pub tells_as : {t : Bool} {P Q : Type 0} → (P → Q) → (Q → P) → Tells t P → Tells t Q
tells_as f g p = record { yes = λ e. f (p.yes e); no = λ e x. p.no e (g x) }

-- tests associate to the left, and what they tell to the right
pub tells_flat : {t : Bool} {P Q R : Type 0} → Tells t ((P ⊎ Q) ⊎ R) → Tells t (P ⊎ (Q ⊎ R))
tells_flat =
    tells_as
    (elim [ inl x ↦ elim x [ inl p ↦ inl p | inr q ↦ inr (inl q) ] | inr r ↦ inr (inr r) ])
    (elim [ inl p ↦ inl (inl p) | inr x ↦ elim x [ inl q ↦ inl (inr q) | inr r ↦ inr r ] ])

-- one of n is found
pub tells_some : (n : ℕ) (t : ℕ → Bool) {P : Type 0} → ((k : ℕ) → k < n → t k ≡ true → P)
    → (((k : ℕ) → k < n → t k ≡ false) → P → ⊥) → Tells (ltb (first n t) n) P
tells_some n t f g = record {
  yes = λ e. let h = ltb-true (first n t) n e in f (first n t) h (first_found n t h);
  no = λ e. g (none_found n t e);
}
