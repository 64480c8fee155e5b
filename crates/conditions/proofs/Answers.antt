-- A call whose answer tells that of a check which follows a list of conditions answers as the list says.
-- Assumes nothing.
use mathlib.Core.Path.{◌≡◌, refl, sym, ap, subst, ◌∙◌}
use mathlib.Core.Logic.{◌≢◌}
use mathlib.Core.List.{List}
use Prim.Native.Nat.{ℕ}
use native.Mathlib.Omega.{arith}
use lib.ListN.{length}
use Rattle.std.specs.Prelude.{Result, Ok, Err}
use Rattle.refusal.specs.Numbers.{number}
use Rattle.refusal.specs.Answers.{Answer, refusal_row, told, after_call}
use Rattle.refusal.proofs.Settled.{refusal_settled}
use Rattle.refusal.specs.declared.Refusal.{Refusal}
use Rattle.conditions.specs.Conditions.{Condition, First, None, RefusedAs, Answers}
use Rattle.conditions.proofs.Follows.{Once, Follows, none_first}

first_refuses : (cs : List Condition) (a : Answer) → Once cs → Follows cs a → (n p : ℕ) → First cs n p → RefusedAs a n p
first_refuses cs (Ok u) o f n p x = absurd (none_first cs n p (f.none refl) x)
first_refuses cs (Err q) o f n p x =
    let e = o.same (number q.reason) n q.place p (f.first q refl) x in (q, refl, e.0, e.1)

refuses_first : (cs : List Condition) (a : Answer) → Follows cs a → (n p : ℕ) → RefusedAs a n p → First cs n p
refuses_first cs a f n p r =
    subst (λ (k : ℕ). First cs k p) r.2 (subst (λ (k : ℕ). First cs (number r.0.reason) k) r.3 (f.first r.0 r.1))

passes_none : (cs : List Condition) (a : Answer) → Follows cs a → ((n p : ℕ) → RefusedAs a n p → ⊥) → None cs
passes_none cs (Ok u) f g = f.none refl
passes_none cs (Err q) f g = absurd (g (number q.reason) q.place (q, refl, refl, refl))

-- a call that tells the check's refusals and no others
pub answers_checked : {cs : List Condition} {a : Answer} (R : ℕ → ℕ → Type 0) (Kept : Type 0) → Once cs → Follows cs a
    → ((n p : ℕ) → R n p → RefusedAs a n p) → ((n p : ℕ) → RefusedAs a n p → R n p)
    → ((n p : ℕ) → RefusedAs a n p → Kept) → Answers cs R Kept
answers_checked {cs} {a} R Kept o f to from kept = record {
  refused = λ n p. (λ r. refuses_first cs a f n p (to n p r), λ x. from n p (first_refuses cs a o f n p x));
  unrefused = (
    λ g. passes_none cs a f (λ n p e. g n p (from n p e)),
    λ x n p r. none_first cs n p x (refuses_first cs a f n p (to n p r)),
  );
  kept = λ n p r. kept n p (to n p r);
}

-- a row that tells a refusal is no other's; one value behind 0 would look like a place
told_refusal : (a : Answer) (q : Refusal) (v : List ℕ) → length v ≢ 1 → refusal_row q ≡ told a v → a ≡ Err q
told_refusal (Ok u) q v h e = absurd (h (let z = ap length e in omega arith))
told_refusal (Err r) q v h e = ap Err (refusal_settled r q (sym e))

-- answers that tell a value, by their rows
pub record Rows (T : Type 0) (row : Result T Refusal → List ℕ) : Type 0 where
  pub refuses : (q : Refusal) → row (Err q) ≡ refusal_row q
  pub settled : (r s : Result T Refusal) → row r ≡ row s → r ≡ s

-- a call whose row is the check's refusal, or values behind 0
pub answers_told : {T : Type 0} {row : Result T Refusal → List ℕ} {cs : List Condition} {a : Answer}
    (Kept : Type 0) (v : List ℕ) (r : Result T Refusal) → Rows T row → Once cs → Follows cs a → length v ≢ 1
    → row r ≡ told a v → ((q : Refusal) → a ≡ Err q → Kept) → Answers cs (RefusedAs r) Kept
answers_told {T} {row} {cs} {a} Kept v r w o f h e kept =
    answers_checked _ Kept o f
    (λ n p d. (d.0, told_refusal a d.0 v h (sym (w.refuses d.0) ∙ ap row (sym d.1) ∙ e), d.2, d.3))
    (λ n p d.
    (d.0, w.settled r (Err d.0) (e ∙ ap (λ (x : Answer). told x v) d.1 ∙ sym (w.refuses d.0)), d.2, d.3))
    (λ n p d. kept d.0 d.1)

-- what is lent to a call that is refused
pub lent_kept : {a : Answer} {q : Refusal} (new old : List ℕ) → a ≡ Err q → after_call a new old ≡ old
lent_kept {a} {q} new old e = ap (λ (x : Answer). after_call x new old) e

-- what holds of the new and of the old holds of what is lent, refused or not
pub lent_either : (P : (List ℕ → List ℕ → List ℕ) → Type 0) (a : Answer) → P (λ new old. new) → P (λ new old. old)
    → P (after_call a)
lent_either P (Ok u) p q = p
lent_either P (Err r) p q = q
