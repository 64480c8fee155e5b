-- A check follows a list of conditions: it refuses with the first that applies, and passes if none does.
-- Assumes nothing.
use mathlib.Core.Path.{◌≡◌, refl, sym, subst, ◌∙◌}
use mathlib.Core.Logic.{inl, inr}
use mathlib.Core.Bool.{Bool, true, false}
use mathlib.Core.List.{List, [], ◌∷◌, ◌++◌}
use Prim.Native.Nat.{ℕ, ◌<◌}
use native.Mathlib.Omega.{arith}
use lib.Dec.{ltb}
use borrow.Author.Tests.{ltb-true, ltb-false}
use Rattle.notions.specs.Choice.{pick}
use Rattle.notions.specs.First.{first}
use Rattle.std.specs.Prelude.{Ok, Err}
use Rattle.refusal.specs.Numbers.{number}
use Rattle.refusal.specs.Answers.{Answer, refused_at, and_then}
use Rattle.refusal.specs.declared.Reason.{Reason}
use Rattle.refusal.specs.declared.Refusal.{Refusal}
use Rattle.notions.proofs.Tests.{cases}
use Rattle.notions.proofs.First.{first_found, first_least, none_found}
use Rattle.conditions.specs.Conditions.{Condition, placed, plain, first_of, Absent, First, None}
use Rattle.conditions.proofs.Tells.{Tells}

-- ---- conditions

-- the first that applies has one number and one place
pub record Once (cs : List Condition) : Type 0 where
  pub same : (n m p q : ℕ) → First cs n p → First cs m q → (n ≡ m) × (p ≡ q)

pub once_none : Once []
once_none = record { same = λ n m p q x y. absurd x }

same_more : (c : Condition) (cs : List Condition) → ((p q : ℕ) → c.At p → c.At q → p ≡ q) → Once cs
    → (n m p q : ℕ) → First (c ∷ cs) n p → First (c ∷ cs) m q → (n ≡ m) × (p ≡ q)
same_more c cs h o n m p q (inl x) (inl y) = (x.0 ∙ sym y.0, h p q x.1 y.1)
same_more c cs h o n m p q (inl x) (inr y) = absurd (y.0 p x.1)
same_more c cs h o n m p q (inr x) (inl y) = absurd (x.0 q y.1)
same_more c cs h o n m p q (inr x) (inr y) = o.same n m p q x.1 y.1

pub once_placed : {n k : ℕ} {P : Type 0} {cs : List Condition} → Once cs → Once (placed n k P ∷ cs)
once_placed {n} {k} {P} {cs} o = record { same = same_more (placed n k P) cs (λ p q x y. x.0 ∙ sym y.0) o }

-- of two first places neither is before the other
one_place : (n m : ℕ) (P : ℕ → Type 0) (p q : ℕ) → (first_of n m P).At p → (first_of n m P).At q → p ≡ q
one_place n m P p q x y =
    cases (ltb p q)
    (λ e. absurd (y.2 p (ltb-true p q e) x.1))
    (λ e. cases (ltb q p) (λ f. absurd (x.2 q (ltb-true q p f) y.1))
    (λ f. omega (arith, ltb-false p q e, ltb-false q p f)))

pub once_first : {n m : ℕ} {P : ℕ → Type 0} {cs : List Condition} → Once cs → Once (first_of n m P ∷ cs)
once_first {n} {m} {P} {cs} o = record { same = same_more (first_of n m P) cs (one_place n m P) o }

pub none_first : (cs : List Condition) (n p : ℕ) → None cs → First cs n p → ⊥
none_first [] n p x y = y
none_first (c ∷ cs) n p x (inl y) = x.0 p y.1
none_first (c ∷ cs) n p x (inr y) = none_first cs n p x.1 y.1

-- ---- checks

-- the check a refuses with the first that applies, and passes if none does
pub record Follows (cs : List Condition) (a : Answer) : Type 0 where
  pub none : a ≡ Ok tt → None cs
  pub first : (q : Refusal) → a ≡ Err q → First cs (number q.reason) q.place

pub follows_none : Follows [] (Ok tt)
follows_none = record { none = λ e. tt; first = λ q e. absurd (cc) }

-- the first of the list refuses at p
follows_here : (r : Reason) (c : Condition) (cs : List Condition) (p : ℕ) → number r ≡ c.number → c.At p
    → Follows (c ∷ cs) (refused_at r p)
follows_here r c cs p e h = record {
  none = λ f. absurd (cc);
  first = λ q f.
      let s : ◌≡◌ {A = Refusal} (record { reason = r; place = p }) q = cc in
      subst (λ (x : Refusal). First (c ∷ cs) (number x.reason) x.place) s (inl (e, h));
}

follows_later : (c : Condition) (cs : List Condition) (a : Answer) → Absent c → Follows cs a → Follows (c ∷ cs) a
follows_later c cs a h f = record { none = λ e. (h, f.none e); first = λ q e. inr (h, f.first q e) }

pub follows_placed : (r : Reason) (k : ℕ) {t : Bool} {P : Type 0} {cs : List Condition} {rest : Answer}
    → Tells t P → (t ≡ false → Follows cs rest) → Follows (placed (number r) k P ∷ cs) (pick t (refused_at r k) rest)
follows_placed r k {t = true} {P} {cs} h f = follows_here r (placed (number r) k P) cs k refl (refl, h.yes refl)
follows_placed r k {t = false} {P} {cs} {rest} h f =
    follows_later (placed (number r) k P) cs rest (λ p x. h.no refl x.1) (f refl)

-- where the page names no place, the check tells 0
pub follows_plain : (r : Reason) {t : Bool} {P : Type 0} {cs : List Condition} {rest : Answer}
    → Tells t P → (t ≡ false → Follows cs rest) → Follows (plain (number r) P ∷ cs) (pick t (refused_at r 0) rest)
follows_plain r h f = follows_placed r 0 h f

follows_place : (r : Reason) (m k : ℕ) (u : Bool) (P : ℕ → Type 0) (cs : List Condition) (rest : Answer)
    → (u ≡ true → (first_of (number r) m P).At k) → (u ≡ false → Absent (first_of (number r) m P))
    → (u ≡ false → Follows cs rest) → Follows (first_of (number r) m P ∷ cs) (pick u (refused_at r k) rest)
follows_place r m k true P cs rest h g f = follows_here r (first_of (number r) m P) cs k refl (h refl)
follows_place r m k false P cs rest h g f = follows_later (first_of (number r) m P) cs rest (g refl) (f refl)

pub follows_first : (r : Reason) (m : ℕ) (t : ℕ → Bool) {P : ℕ → Type 0} {cs : List Condition} {rest : Answer}
    → ((k : ℕ) → Tells (t k) (P k)) → (((k : ℕ) → k < m → t k ≡ false) → Follows cs rest)
    → Follows (first_of (number r) m P ∷ cs) (pick (ltb (first m t) m) (refused_at r (first m t)) rest)
follows_first r m t {P} {cs} {rest} h f =
    let k : ℕ = first m t in
    follows_place r m k (ltb k m) P cs rest
    (λ e. let l = ltb-true k m e in (l, (h k).yes (first_found m t l), λ j i. (h j).no (first_least m t j i)))
    (λ e p x. (h p).no (none_found m t e p x.0) x.1)
    (λ e. f (none_found m t e))

none_both : (cs ds : List Condition) → None cs → None ds → None (cs ++ ds)
none_both [] ds x y = y
none_both (c ∷ cs) ds x y = (x.0, none_both cs ds x.1 y)

first_left : (cs ds : List Condition) (n p : ℕ) → First cs n p → First (cs ++ ds) n p
first_left [] ds n p x = absurd x
first_left (c ∷ cs) ds n p (inl x) = inl x
first_left (c ∷ cs) ds n p (inr x) = inr (x.0, first_left cs ds n p x.1)

first_right : (cs ds : List Condition) (n p : ℕ) → None cs → First ds n p → First (cs ++ ds) n p
first_right [] ds n p x y = y
first_right (c ∷ cs) ds n p x y = inr (x.0, first_right cs ds n p x.1 y)

-- one check and then another: one list and then another
pub follows_then : {cs ds : List Condition} {a b : Answer} → Follows cs a → Follows ds b
    → Follows (cs ++ ds) (and_then a b)
follows_then {cs} {ds} {a = Ok u} f g = record {
  none = λ e. none_both cs ds (f.none refl) (g.none e);
  first = λ q e. first_right cs ds (number q.reason) q.place (f.none refl) (g.first q e);
}
follows_then {cs} {ds} {a = Err r} f g = record {
  none = λ e. absurd (cc);
  first = λ q e. first_left cs ds (number q.reason) q.place (f.first q e);
}
