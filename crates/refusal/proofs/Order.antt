-- Refusals in order: a call that is done has passed each test, and one that is refused has failed one. Assumes nothing.
use mathlib.Core.Path.{◌≡◌, refl, subst}
use mathlib.Core.Bool.{Bool, true, false, true≢false}
use Prim.Native.Nat.{ℕ}
use Rattle.std.specs.Prelude.{Ok, Err}
use Rattle.notions.specs.Choice.{pick}
use Rattle.refusal.specs.Numbers.{number}
use Rattle.refusal.specs.Answers.{Answer, refused_at, and_then}
use Rattle.refusal.specs.declared.Reason.{Reason}
use Rattle.refusal.specs.declared.Refusal.{Refusal}

pub done_passed : (t : Bool) (r : Refusal) (a : Answer) → pick t (Err r) a ≡ Ok tt → (t ≡ false) × (a ≡ Ok tt)
done_passed true r a e = absurd (cc)
done_passed false r a e = (refl, e)

pub both_done : (a b : Answer) → and_then a b ≡ Ok tt → (a ≡ Ok tt) × (b ≡ Ok tt)
both_done (Ok u) b e = (refl, e)
both_done (Err r) b e = absurd (cc)

-- ---- the numbers that a check refuses with

abbrev pub Refuses : (ℕ → Type 0) → Answer → Type 0
Refuses P a = (r : Refusal) → a ≡ Err r → P (number r.reason)

pub refuses_none : (P : ℕ → Type 0) → Refuses P (Ok tt)
refuses_none P r e = absurd (cc)

pub refuses_test : (P : ℕ → Type 0) (t : Bool) (n : Reason) (p : ℕ) (a : Answer) → P (number n) → Refuses P a
    → Refuses P (pick t (refused_at n p) a)
refuses_test P true n p a h f r e = subst P (let z : number n ≡ number r.reason = cc in z) h
refuses_test P false n p a h f r e = f r e

pub refuses_after : (P : ℕ → Type 0) (a b : Answer) → Refuses P a → (a ≡ Ok tt → Refuses P b) → Refuses P (and_then a b)
refuses_after P (Ok u) b f g = g refl
refuses_after P (Err r) b f g = f

pub refuses_then : (P : ℕ → Type 0) (a b : Answer) → Refuses P a → Refuses P b → Refuses P (and_then a b)
refuses_then P a b f g = refuses_after P a b f (λ e. g)

-- a test that fails refuses nothing
pub refuses_untested : (P : ℕ → Type 0) (t : Bool) (n : Reason) (p : ℕ) (a : Answer) → t ≡ false → Refuses P a
    → Refuses P (pick t (refused_at n p) a)
refuses_untested P true n p a e f = absurd (true≢false e)
refuses_untested P false n p a e f = f
