-- The laws of regions and of the layout's check, for readers and for the crates above. Assumes nothing.
use mathlib.Core.Path.{◌≡◌, refl, sym, ap, ◌∙◌}
use mathlib.Core.Bool.{Bool, true, false, not, ◌&&◌, true≢false}
use mathlib.Core.List.{List}
use mathlib.Core.Logic.{◌↔◌, ◌⊎◌, inl, inr}
use Prim.Native.Nat.{ℕ, ◌+◌, ◌*◌, ◌/◌, ◌%◌, ◌≤◌, ◌<◌}
use native.Mathlib.Omega.{arith}
use borrow.Author.Tests.{leb-true, le-leb, ltb-true, ltb-false, lt-ltb, le-ltb, eqb-true, eq-eqb, not-true, not-false}
use lib.Dec.{leb, ltb, eqb}
use lib.ListN.{length}
use Rattle.refusal.specs.Numbers.{number}
use Rattle.refusal.specs.Answers.{Answer, told}
use Rattle.refusal.specs.declared.Reason.TheVariants.{LayoutSize, RegionReversed, RegionSize, ZeroInCode, RegionsShare}
use Rattle.refusal.specs.declared.Refusal.{Refusal}
use Rattle.notions.proofs.Tests.{cases, untrue, clash, both, neither}
use Rattle.notions.proofs.First.{none_found, found_none}
use Rattle.refusal.proofs.Order.{done_passed, Refuses, refuses_none, refuses_test}
use Rattle.layout.specs.declared.Region.{Region}
use Rattle.layout.specs.declared.Layout.{Layout}
use Rattle.layout.specs.Regions.{within, reversed, size, shares}
use Rattle.layout.specs.Layouts.{CR, KR, MR, CTR, region, layout_of, wrong_size, may_share, collide, layout_check}
use Rattle.layout.specs.Layouts.{first_reversed, first_wrong_size, first_collision}
use Rattle.layout.specs.Layouts.{layout_bytes, regions, key_bytes, counter_bytes, least_mailbox}
use Rattle.layout.specs.Promises.{layout_values, checked_row, Checks}
use Rattle.layout.proofs.Settled.{checked_row_settled}
use Rattle.layout.specs.Good.{Good}
use Rattle.std.specs.Prelude.{Err, Ok, Result}

-- ---- what `check` answers

abbrev pub checked_as : Answer → Layout → Result Layout Refusal
checked_as (Ok u) l = Ok l
checked_as (Err r) l = Err r

row_checked_as : (a : Answer) (l : Layout) → checked_row (checked_as a l) ≡ told a (layout_values l)
row_checked_as (Ok u) l = refl
row_checked_as (Err r) l = refl

pub is_checks : (b : List ℕ) (r : Result Layout Refusal) → r ≡ checked_as (layout_check b) (layout_of b) → Checks b r
is_checks b r e = record { answered = ap checked_row e ∙ row_checked_as (layout_check b) (layout_of b) }

from_good : (a : Answer) (l m : Layout) → Ok m ≡ checked_as a l → (a ≡ Ok tt) × (m ≡ l)
from_good (Ok u) l m e = (refl, cc)
from_good (Err r) l m e = absurd (cc)

from_refused : (a : Answer) (l : Layout) (r : Refusal) → Err r ≡ checked_as a l → a ≡ Err r
from_refused (Ok u) l r e = absurd (cc)
from_refused (Err s) l r e = cc

-- the same by the answer's two forms, whatever was checked
pub told_good : (a : Answer) (l m : Layout) → checked_row (Ok m) ≡ told a (layout_values l)
    → (a ≡ Ok tt) × (m ≡ l)
told_good a l m e =
    from_good a l m (checked_row_settled (Ok m) (checked_as a l) (e ∙ sym (row_checked_as a l)))

pub told_refused : (a : Answer) (l : Layout) (r : Refusal) → checked_row (Err r) ≡ told a (layout_values l)
    → a ≡ Err r
told_refused a l r e =
    from_refused a l r (checked_row_settled (Err r) (checked_as a l) (e ∙ sym (row_checked_as a l)))

-- ---- regions

pub within_ends : (r : Region) (a : ℕ) → within r a ≡ true → (r.lo ≤ a) × (a ≤ r.hi)
within_ends r a e =
    let p = both (leb r.lo a) (leb a r.hi) e in
    (leb-true r.lo a p.0, leb-true a r.hi p.1)

pub ends_within : (r : Region) (a : ℕ) → r.lo ≤ a → a ≤ r.hi → within r a ≡ true
ends_within r a l h = simp (le-leb r.lo a l, le-leb a r.hi h)

pub outside_ends : (r : Region) (a : ℕ) → within r a ≡ false → (a < r.lo) ⊎ (r.hi < a)
outside_ends r a e =
    cases (ltb a r.lo) (λ t. inl (ltb-true a r.lo t))
    (λ t. cases (ltb r.hi a) (λ s. inr (ltb-true r.hi a s))
    (λ s. clash (within r a) (ends_within r a (ltb-false a r.lo t) (ltb-false r.hi a s)) e))

pub shares_at : (a b : Region) (k : ℕ) → within a k ≡ true → within b k ≡ true → shares a b ≡ true
shares_at a b k p q =
    let x = within_ends a k p in
    let y = within_ends b k q in
    simp (le-leb a.lo b.hi (omega arith), le-leb b.lo a.hi (omega arith))

-- of two regions that are not reversed, `shares` says exactly that some address is in both
pub shares_exactly : (a b : Region) → reversed a ≡ false → reversed b ≡ false
    → (shares a b ≡ true) ↔ ((k : ℕ) × (within a k ≡ true) × (within b k ≡ true))
shares_exactly a b u v = (
  λ e. let x = both (leb a.lo b.hi) (leb b.lo a.hi) e in
      let p = leb-true a.lo b.hi x.0 in
      let q = leb-true b.lo a.hi x.1 in
      let m = ltb-false a.hi a.lo u in
      let n = ltb-false b.hi b.lo v in
      cases (ltb a.lo b.lo)
      (λ t. let l = ltb-true a.lo b.lo t in
      (b.lo, ends_within a b.lo (omega arith) q, ends_within b b.lo (omega arith) n))
      (λ t. (a.lo, ends_within a a.lo (omega arith) m, ends_within b a.lo (ltb-false a.lo b.lo t) p)),
  λ s. shares_at a b s.0 s.1 s.2,
)

-- ---- the layouts that pass

-- the tests of the check, each by the region's number
record Passes (b : List ℕ) : Type 0 where
  long : eqb (length b) layout_bytes ≡ true
  ordered : (k : ℕ) → k < regions → reversed (region b k) ≡ false
  sized : (k : ℕ) → k < regions → wrong_size k (region b k) ≡ false
  outside : within (region b CR) 0 ≡ false
  apart : (n : ℕ) → n < regions * regions
      → (ltb (n / regions) (n % regions) && collide b (n / regions) (n % regions)) ≡ false

done_passes : (b : List ℕ) → layout_check b ≡ Ok tt → Passes b
unfolding layout_check
done_passes b e =
    let p = done_passed _ _ _ e in
    let q = done_passed _ _ _ p.1 in
    let s = done_passed _ _ _ q.1 in
    let t = done_passed _ _ _ s.1 in
    let u = done_passed _ _ _ t.1 in
    record {
      long = not-false _ p.0;
      ordered = none_found _ _ q.0;
      sized = none_found _ _ s.0;
      outside = t.0;
      apart = none_found _ _ u.0;
    }

passes_done : (b : List ℕ) → Passes b → layout_check b ≡ Ok tt
unfolding layout_check
passes_done b p =
    simp (p.long, found_none _ _ p.ordered, found_none _ _ p.sized, p.outside, found_none _ _ p.apart)

pub done_good : (b : List ℕ) → layout_check b ≡ Ok tt → Good b
done_good b e =
    let p = done_passes b e in
    record {
      long = eqb-true (length b) layout_bytes p.long;
      ordered = λ k h. ltb-false (region b k).hi (region b k).lo (p.ordered k h);
      key =
          let n = neither _ _ (p.sized KR (omega arith)) in
          eqb-true (size (region b KR)) key_bytes (not-false _ (neither _ _ n.0).0);
      mailbox = ltb-false (size (region b MR)) least_mailbox (neither _ _ (p.sized MR (omega arith))).0;
      counter = eqb-true (size (region b CTR)) counter_bytes (not-false _ (p.sized CTR (omega arith)));
      zero = p.outside;
      apart = λ i j l h m a x y.
          let en : (regions * i + j) / regions ≡ i = omega arith in
          let em : (regions * i + j) % regions ≡ j = omega arith in
          let c : (ltb i j && collide b i j) ≡ false = simp (en, em) at (p.apart (regions * i + j) (omega arith)) in
          true≢false (sym (shares_at (region b i) (region b j) a x y) ∙ (simp (lt-ltb i j l, m) at c));
    }

forward : (b : List ℕ) → Good b → (k : ℕ) → k < regions → reversed (region b k) ≡ false
forward b g k h = le-ltb (region b k).hi (region b k).lo (g.ordered k h)

-- a test of one region only
only_at : (k n : ℕ) (p : ℕ → Bool) → p n ≡ false → (eqb k n && p k) ≡ false
only_at k n p e =
    cases (eqb k n)
    (λ t. simp (t, ap p (eqb-true k n t)) e)
    (λ t. simp t)

sizes : (b : List ℕ) → Good b → (k : ℕ) → wrong_size k (region b k) ≡ false
sizes b g k =
    simp (
      only_at k KR (λ j. not (eqb (size (region b j)) key_bytes)) (simp (eq-eqb (size (region b KR)) key_bytes g.key)),
      only_at k MR (λ j. ltb (size (region b j)) least_mailbox) (le-ltb (size (region b MR)) least_mailbox g.mailbox),
      only_at k CTR (λ j. not (eqb (size (region b j)) counter_bytes))
          (simp (eq-eqb (size (region b CTR)) counter_bytes g.counter)),
    )

no_collision : (b : List ℕ) → Good b → (i j : ℕ) → j < regions → (ltb i j && collide b i j) ≡ true → ⊥
no_collision b g i j h e =
    let p = both (ltb i j) (collide b i j) e in
    let q = both (not (may_share i j)) (shares (region b i) (region b j)) p.1 in
    let l = ltb-true i j p.0 in
    let s = (shares_exactly (region b i) (region b j) (forward b g i (omega arith)) (forward b g j h)).0 q.1 in
    g.apart i j l h (not-true (may_share i j) q.0) s.0 s.1 s.2

pub good_done : (b : List ℕ) → Good b → layout_check b ≡ Ok tt
good_done b g =
    passes_done b (record {
      long = eq-eqb (length b) layout_bytes g.long;
      ordered = forward b g;
      sized = λ k h. sizes b g k;
      outside = g.zero;
      apart = λ n h.
          let i = n / regions in
          let j = n % regions in
          untrue (ltb i j && collide b i j) (no_collision b g i j (omega arith));
    })

-- one that does not is refused with 2 to 6
pub layout_numbers : (b : List ℕ) → Refuses (λ n. (number LayoutSize ≤ n) × (n ≤ number RegionsShare)) (layout_check b)
unfolding layout_check
layout_numbers b =
    let P : ℕ → Type 0 = λ n. (number LayoutSize ≤ n) × (n ≤ number RegionsShare) in
    refuses_test P (not (eqb (length b) layout_bytes)) LayoutSize 0 _ (omega arith, omega arith)
    (refuses_test P (ltb (first_reversed b) regions) RegionReversed (first_reversed b) _ (omega arith, omega arith)
    (refuses_test P (ltb (first_wrong_size b) regions) RegionSize (first_wrong_size b) _ (omega arith, omega arith)
    (refuses_test P (within (region b CR) 0) ZeroInCode 0 _ (omega arith, omega arith)
    (refuses_test P (ltb (first_collision b) (regions * regions)) RegionsShare 0 (Ok tt) (omega arith, omega arith)
    (refuses_none P)))))

-- ---- the regions of a layout that passes

pub zero_outside_lem : (b : List ℕ) → layout_check b ≡ Ok tt → within (layout_of b).cr 0 ≡ false
unfolding layout_of
zero_outside_lem b e = (done_good b e).zero

-- an address of one region is in no other, CR and AR apart
pub elsewhere : {b : List ℕ} → Good b → (i j : ℕ) → i < regions → j < regions → (i ≡ j → ⊥)
    → may_share i j ≡ false → may_share j i ≡ false
    → (a : ℕ) → within (region b i) a ≡ true → within (region b j) a ≡ false
elsewhere {b} g i j h k n m l a x =
    untrue (within (region b j) a)
    (λ y. cases (ltb i j)
    (λ t. g.apart i j (ltb-true i j t) k m a x y)
    (λ t. g.apart j i (omega (arith, ltb-false i j t)) h l a y x))
