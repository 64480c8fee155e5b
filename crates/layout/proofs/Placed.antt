-- Where the regions of attestation lie in a board's memory. Assumes nothing.
use mathlib.Core.Path.{◌≡◌, refl}
use mathlib.Core.Logic.{◌⊎◌, inl, inr}
use mathlib.Core.Bool.{false}
use mathlib.Core.List.{List}
use Prim.Native.Nat.{ℕ, ◌+◌, ◌*◌, ◌≤◌, ◌<◌}
use native.Mathlib.Omega.{arith}
use borrow.Author.Tests.{ltb-true, ltb-false}
use lib.Dec.{ltb}
use Rattle.notions.specs.Bytes.{Bytes}
use Rattle.notions.proofs.Tests.{cases}
use Rattle.layout.specs.declared.Layout.{Layout}
use Rattle.layout.specs.Regions.{size}
use Rattle.layout.specs.Layouts.{regions, region_bytes, key_bytes, counter_bytes, least_mailbox}
use Rattle.layout.specs.Layouts.{CR, KR, MR, CTR, AR, region, layout_of, may_share, layout_check}
use Rattle.layout.specs.Calls.{memory_bytes}
use Rattle.layout.specs.Good.{Good}
use Rattle.layout.proofs.Laws.{done_good, ends_within}
use Rattle.std.specs.Prelude.{Ok}

pub record Placed (l : Layout) : Type 0 where
  pub key : size l.kr ≡ key_bytes
  pub key_in : l.kr.lo + key_bytes ≤ memory_bytes
  pub mail_in : l.mr.lo + least_mailbox ≤ memory_bytes
  pub mail : l.mr.lo + 95 ≤ l.mr.hi
  pub counter : size l.ctr ≡ counter_bytes
  pub counter_in : l.ctr.lo + counter_bytes ≤ memory_bytes
  pub region : 1 ≤ size l.ar
  pub region_in : l.ar.lo + size l.ar ≤ memory_bytes
  -- the fewest bytes of MR are apart from those of CTR and of KR
  pub apart : (l.mr.lo + least_mailbox ≤ l.ctr.lo) ⊎ (l.ctr.lo + counter_bytes ≤ l.mr.lo)
  pub key_apart : (l.mr.lo + least_mailbox ≤ l.kr.lo) ⊎ (l.kr.lo + key_bytes ≤ l.mr.lo)

-- a region of a layout of bytes ends in the memory
region_ends : (b : List ℕ) → Bytes b → (k : ℕ) → (region b k).hi < memory_bytes
region_ends b h k =
    let p = h (region_bytes * k + 2) in
    let q = h (region_bytes * k + 3) in
    omega arith

-- two runs of addresses with none in common: the one ends before the other begins
before_or_behind : (a b c d : ℕ) → a ≤ b → c ≤ d → ((x : ℕ) → a ≤ x → x ≤ b → c ≤ x → x ≤ d → ⊥) → (b < c) ⊎ (d < a)
before_or_behind a b c d u v f =
    cases (ltb b c) (λ t. inl (ltb-true b c t))
    (λ t. cases (ltb d a) (λ s. inr (ltb-true d a s))
    (λ s. absurd (cases (ltb a c)
    (λ r. let h = ltb-true a c r in f c (omega arith) (ltb-false b c t) (omega arith) v)
    (λ r. f a (omega arith) u (ltb-false a c r) (ltb-false d a s)))))

-- so it is with two regions of a good layout that may not share
good_apart : (b : List ℕ) → Good b → (i j : ℕ) → i < j → j < regions → may_share i j ≡ false
    → ((region b i).hi < (region b j).lo) ⊎ ((region b j).hi < (region b i).lo)
good_apart b g i j h k m =
    before_or_behind (region b i).lo (region b i).hi (region b j).lo (region b j).hi
    (g.ordered i (omega arith))
    (g.ordered j k)
    (λ x p q r t. g.apart i j h k m x (ends_within (region b i) x p q) (ends_within (region b j) x r t))

good_placed : (b : List ℕ) → Bytes b → Good b → Placed (layout_of b)
unfolding layout_of
good_placed b h g =
    let k = region_ends b h KR in
    let m = region_ends b h MR in
    let c = region_ends b h CTR in
    let a = region_ends b h AR in
    let ek = g.key in
    let em = g.mailbox in
    let ec = g.counter in
    let oa = g.ordered AR (omega arith) in
    let oc = g.ordered CR (omega arith) in
    record {
      key = ek;
      key_in = omega arith;
      mail_in = omega arith;
      mail = omega arith;
      counter = ec;
      counter_in = omega arith;
      region = omega arith;
      region_in = omega arith;
      apart = elim (good_apart b g MR CTR (omega arith) (omega arith) refl)
          [ inl p ↦ inl (omega arith) | inr p ↦ inr (omega arith) ];
      key_apart = elim (good_apart b g KR MR (omega arith) (omega arith) refl)
          [ inl p ↦ inr (omega arith) | inr p ↦ inl (omega arith) ];
    }

pub placed : (b : List ℕ) → Bytes b → layout_check b ≡ Ok tt → Placed (layout_of b)
placed b h e = good_placed b h (done_good b e)
