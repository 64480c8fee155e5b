-- Two memory bodies with the same start and length of each segment: they are checked alike, and the memories that they
-- describe differ in KR and XS alone exactly if the bytes that the segments hold do. Assumes nothing.
use mathlib.Core.Path.{◌≡◌, refl, ap, sym, subst, ◌∙◌}
use mathlib.Core.Bool.{Bool, true, false, not, ◌&&◌, false≢true}
use mathlib.Core.List.{List}
use mathlib.Core.Logic.{◌⊎◌, inl, inr, ⊎_elim}
use Prim.Native.Nat.{ℕ, zero, suc, ◌+◌, ◌-◌, ◌≤◌, ◌<◌}
use native.Mathlib.Nat.{eq-or-lt_of_le, le_of_suc-le-suc, not-suc-le-zero}
use native.Mathlib.Omega.{arith}
use lib.Dec.{ltb, leb}
use lib.ListN.{length, get_or, get_or-eq_default}
use borrow.Author.Tests.{ltb-true, ltb-false, leb-true, leb-false, not-true}
use Rattle.notions.specs.First.{first}
use Rattle.notions.proofs.Tests.{cases, clash, untrue, both, neither}
use Rattle.notions.proofs.First.{first_found, first_same, none_found}
use Rattle.layout.specs.declared.Layout.{Layout}
use Rattle.layout.specs.Regions.{within, outside}
use Rattle.layout.specs.Calls.{memory_bytes}
use Rattle.file_segments.specs.Segments.{head_size, start_at, size_at, place, reached, segments, segment_fails}
use Rattle.file_segments.specs.Segments.{first_wrong, segment_check, described}
use Rattle.file_segments.proofs.Described as D
use Rattle.claims_monitor.specs.Demand3.{Agree}
use Rattle.claims_monitor.specs.Outside.{kr_or_xs}
use Rattle.claims_files.specs.Files.{KeyOrScratch, SameHeads}
use Rattle.claims_files.proofs.Parts.{segments_end}
use Rattle.std.specs.Prelude.{Ok}

in_order : {P : Type 0} (j k : ℕ) → (j < k → P) → (k < j → P) → (j ≡ k → P) → P
in_order j k f g h =
    cases (ltb j k) (λ e. f (ltb-true j k e))
    (λ e. cases (ltb k j) (λ d. g (ltb-true k j d)) (λ d. h (omega (arith, ltb-false j k e, ltb-false k j d))))

-- ---- one body

module _ (b : List ℕ) where
  -- a segment ends where a later one begins, or before
  later : (j k : ℕ) → j < k → place b j + head_size + size_at b (place b j) ≤ place b k
  unfolding place
  later j zero h = absurd (not-suc-le-zero h)
  later j (suc k) h =
      ⊎_elim (λ e. subst (λ (n : ℕ). place b j + head_size + size_at b (place b j) ≤ place b (suc n)) e (omega arith))
      (λ m. omega (arith, later j k m)) (eq-or-lt_of_le (le_of_suc-le-suc h))

  -- a byte before segment n stands in one before it
  record Holder (n p : ℕ) : Type 0 where
    segment : ℕ
    before : segment < n
    from : place b segment ≤ p
    till : p < place b segment + head_size + size_at b (place b segment)

  holder : (n p : ℕ) → p < place b n → Holder n p
  unfolding place
  holder zero p h = absurd (not-suc-le-zero h)
  holder (suc n) p h =
      cases (ltb p (place b n))
      (λ t.
      let z = holder n p (ltb-true p (place b n) t) in
      record { segment = z.segment; before = omega (arith, z.before); from = z.from; till = z.till })
      (λ t. record { segment = n; before = omega arith; from = ltb-false p (place b n) t; till = h })

module _ (l : Layout) (b : List ℕ) where
  -- a segment's start and length are laid nowhere
  head_open : (k i : ℕ) → i < head_size → KeyOrScratch l b (place b k + i) → ⊥
  head_open k i h z =
      in_order z.segment k (λ m. omega (arith, z.stands, z.held, later b z.segment k m))
      (λ m. omega (arith, z.stands, later b k z.segment m)) (λ d. omega (arith, z.stands, ap (place b) d))

  -- byte i of segment k is laid at one address
  address_is : (k i : ℕ) → i < size_at b (place b k) → (z : KeyOrScratch l b (place b k + head_size + i))
      → start_at b (place b z.segment) + z.byte ≡ start_at b (place b k) + i
  address_is k i h z =
      in_order z.segment k (λ m. absurd (omega (arith, z.stands, z.held, later b z.segment k m)))
      (λ m. absurd (omega (arith, z.stands, later b k z.segment m)))
      (λ d. omega (arith, z.stands, ap (place b) d, ap (λ (n : ℕ). start_at b (place b n)) d))

  open_outside : (k i : ℕ) → i < size_at b (place b k) → outside l.kr (start_at b (place b k) + i) ≡ true
      → outside l.xs (start_at b (place b k) + i) ≡ true → KeyOrScratch l b (place b k + head_size + i) → ⊥
  open_outside k i h hk hx z =
      let a = start_at b (place b k) + i in
      let nk = not-true (within l.kr a) hk in
      let nx = not-true (within l.xs a) hx in
      false≢true (simp (nk, nx) at (ap (kr_or_xs l) (sym (address_is k i h z)) ∙ z.hides))

-- ---- two bodies

abbrev pub AllHeads : List ℕ → List ℕ → Type 0
AllHeads b c = (j i : ℕ) → i < head_size → get_or b (place b j + i) 0 ≡ get_or c (place b j + i) 0

-- the same byte at every place that no segment lays into KR or XS
abbrev pub SameHeld : Layout → List ℕ → List ℕ → Type 0
SameHeld l b c = (p : ℕ) → (KeyOrScratch l b p → ⊥) → get_or b p 0 ≡ get_or c p 0

pub held_heads : (l : Layout) (b c : List ℕ) → SameHeld l b c → AllHeads b c
held_heads l b c s j i h = s (place b j + i) (head_open l b j i h)

-- behind the last segment there is nothing
pub all_heads : (b c : List ℕ) → length b ≡ length c → segment_check b ≡ Ok tt → SameHeads b c → AllHeads b c
all_heads b c long e s j i h =
    let n = segments b in
    let z = segments_end b e in
    let none : length b ≤ place b j + i → get_or b (place b j + i) 0 ≡ get_or c (place b j + i) 0 =
    λ m.
    get_or-eq_default b 0 {n = place b j + i} m
    ∙ sym (get_or-eq_default c 0 {n = place b j + i} (omega arith)) in
    in_order j n (λ m. s j i m h) (λ m. none (omega (arith, z, later b n j m)))
    (λ d. none (omega (arith, z, ap (place b) d)))

module _ (b c : List ℕ) (long : length b ≡ length c) (heads : AllHeads b c) where
  start_same : (k : ℕ) → start_at b (place b k) ≡ start_at c (place b k)
  start_same k =
      let z : place b k + 0 ≡ place b k = omega arith in
      let e0 : get_or b (place b k) 0 ≡ get_or c (place b k) 0 = rw z at (heads k 0 (omega arith)) in
      let e1 = heads k 1 (omega arith) in
      simp (e0, e1)

  size_same : (k : ℕ) → size_at b (place b k) ≡ size_at c (place b k)
  size_same k = let e2 = heads k 2 (omega arith) in let e3 = heads k 3 (omega arith) in simp (e2, e3)

  place_same : (k : ℕ) → place b k ≡ place c k
  unfolding place
  place_same zero = refl
  place_same (suc k) =
      ap (λ (n : ℕ). place b k + head_size + n) (size_same k)
      ∙ ap (λ (p : ℕ). p + head_size + size_at c p) (place_same k)

  from_same : (k : ℕ) → D.from b k ≡ D.from c k
  from_same k = start_same k ∙ ap (start_at c) (place_same k)

  held_same : (k : ℕ) → size_at b (place b k) ≡ size_at c (place c k)
  held_same k = size_same k ∙ ap (size_at c) (place_same k)

  till_same : (k : ℕ) → D.till b k ≡ D.till c k
  till_same k = cc (from_same k, held_same k)

  segments_same : segments b ≡ segments c
  unfolding segments
  segments_same =
      ap (λ (n : ℕ). first n (λ k. leb n (place b k))) long
      ∙ first_same (length c) (λ k. leb (length c) (place b k)) (λ k. leb (length c) (place c k))
      (λ k h. ap (leb (length c)) (place_same k))

  reached_same : (k : ℕ) → reached b k ≡ reached c k
  unfolding reached
  reached_same zero = refl
  reached_same (suc k) = till_same k

  fails_same : (k : ℕ) → segment_fails b k ≡ segment_fails c k
  unfolding segment_fails
  fails_same k = cc (long, place_same k, reached_same k, from_same k, held_same k)

  wrong_same : first_wrong b ≡ first_wrong c
  unfolding first_wrong
  wrong_same =
      ap (λ (n : ℕ). first n (segment_fails b)) segments_same
      ∙ first_same (segments c) (segment_fails b) (segment_fails c) (λ k h. fails_same k)

  pub check_same : segment_check b ≡ segment_check c
  unfolding segment_check
  check_same = cc (segments_same, wrong_same)

  -- either body tells which bytes are laid into KR or XS
  pub told_by_either : (l : Layout) (p : ℕ) → KeyOrScratch l b p → KeyOrScratch l c p
  told_by_either l p z =
      let k = z.segment in
      record {
        segment = k;
        byte = z.byte;
        counted = omega (arith, z.counted, segments_same);
        held = omega (arith, z.held, held_same k);
        stands = omega (arith, z.stands, place_same k);
        hides = ap (λ (n : ℕ). kr_or_xs l (n + z.byte)) (sym (from_same k)) ∙ z.hides;
      }

  -- ---- the memories that they describe

  module _ (l : Layout) (e : segment_check b ≡ Ok tt) where
    also : segment_check c ≡ Ok tt
    also = sym check_same ∙ e

    -- byte i of segment k, in the body and in the memory
    module _ (k i : ℕ) (h : k < segments b) (m : i < size_at b (place b k)) where
      named_there : get_or (described c) (D.from b k + i) 0 ≡ get_or c (place b k + head_size + i) 0
      named_there =
          ap (λ (n : ℕ). get_or (described c) (n + i) 0) (from_same k)
          ∙ D.named c also k i (omega (arith, segments_same)) (omega (arith, held_same k))
          ∙ ap (λ (n : ℕ). get_or c (n + head_size + i) 0) (sym (place_same k))

      memory_from_body : get_or b (place b k + head_size + i) 0 ≡ get_or c (place b k + head_size + i) 0
          → get_or (described b) (D.from b k + i) 0 ≡ get_or (described c) (D.from b k + i) 0
      memory_from_body d = D.named b e k i h m ∙ d ∙ sym named_there

      body_from_memory : get_or (described b) (D.from b k + i) 0 ≡ get_or (described c) (D.from b k + i) 0
          → get_or b (place b k + head_size + i) 0 ≡ get_or c (place b k + head_size + i) 0
      body_from_memory d = sym (D.named b e k i h m) ∙ d ∙ named_there

    unnamed_same : (a : ℕ) → a < memory_bytes → ((k : ℕ) → k < segments b → (a < D.from b k) ⊎ (D.till b k ≤ a))
        → get_or (described b) a 0 ≡ get_or (described c) a 0
    unnamed_same a h f =
        D.unnamed b e a h f
        ∙ sym (D.unnamed c also a h (λ k g.
        subst (λ (n : ℕ). (a < n) ⊎ (D.till c k ≤ a)) (from_same k)
        (subst (λ (n : ℕ). (a < D.from b k) ⊎ (n ≤ a)) (till_same k) (f k (omega (arith, segments_same))))))

    names : ℕ → ℕ → Bool
    names a k = leb (D.from b k) a && ltb a (D.till b k)

    beside : (a k : ℕ) → names a k ≡ false → (a < D.from b k) ⊎ (D.till b k ≤ a)
    unfolding names
    beside a k h =
        cases (ltb a (D.till b k))
        (λ t. cases (leb (D.from b k) a) (λ u. clash (names a k) (simp (t, u)) h)
        (λ u. inl (leb-false (D.from b k) a u)))
        (λ t. inr (ltb-false a (D.till b k) t))

    named_same : SameHeld l b c → (a k : ℕ) → k < segments b → names a k ≡ true → outside l.kr a ≡ true
        → outside l.xs a ≡ true → get_or (described b) a 0 ≡ get_or (described c) a 0
    unfolding names
    named_same s a k h n hk hx =
        let i = a - D.from b k in
        let q = both (leb (D.from b k) a) (ltb a (D.till b k)) n in
        let lo = leb-true (D.from b k) a q.0 in
        let hi = ltb-true a (D.till b k) q.1 in
        let m : i < size_at b (place b k) = omega arith in
        let z : a ≡ D.from b k + i = omega arith in
        let d =
        s (place b k + head_size + i)
        (open_outside l b k i m (ap (outside l.kr) (sym z) ∙ hk) (ap (outside l.xs) (sym z) ∙ hx)) in
        rw z (memory_from_body k i h m d)

    pub described_agree : SameHeld l b c → Agree l (described b) (described c)
    described_agree s = record {
      long = D.length_described b ∙ sym (D.length_described c);
      same =
          λ a hk hx.
          let k = first (segments b) (names a) in
          cases (ltb k (segments b))
          (λ t.
          let h = ltb-true k (segments b) t in
          named_same s a k h (first_found (segments b) (names a) h) hk hx)
          (λ t.
          cases (ltb a memory_bytes)
          (λ u. unnamed_same a (ltb-true a memory_bytes u) (λ j g. beside a j (none_found (segments b) (names a) t j g)))
          (λ u.
          let m = ltb-false a memory_bytes u in
          get_or-eq_default (described b) 0 {n = a} (omega (arith, D.length_described b))
          ∙ sym (get_or-eq_default (described c) 0 {n = a} (omega (arith, D.length_described c)))));
    }

    -- ---- and back

    module _ (g : Agree l (described b) (described c)) (p : ℕ) (n : KeyOrScratch l b p → ⊥) where
      held_byte : (k i : ℕ) → k < segments b → i < size_at b (place b k) → p ≡ place b k + head_size + i
          → get_or b (place b k + head_size + i) 0 ≡ get_or c (place b k + head_size + i) 0
      held_byte k i h m z =
          let a = D.from b k + i in
          let secret : kr_or_xs l a ≡ true → KeyOrScratch l b p =
          λ t. record { segment = k; byte = i; counted = h; held = m; stands = z; hides = t } in
          let o = untrue (kr_or_xs l a) (λ t. n (secret t)) in
          let q = neither (within l.kr a) (within l.xs a) o in
          body_from_memory k i h m (g.same a (ap not q.0) (ap not q.1))

      byte_same : p < length b → get_or b p 0 ≡ get_or c p 0
      byte_same h =
          let z = holder b (segments b) p (omega (arith, segments_end b e)) in
          let k = z.segment in
          cases (ltb p (place b k + head_size))
          (λ t.
          let d = ltb-true p (place b k + head_size) t in
          let x : p ≡ place b k + (p - place b k) = omega (arith, z.from) in
          rw x (heads k (p - place b k) (omega (arith, z.from))))
          (λ t.
          let d = ltb-false p (place b k + head_size) t in
          let i = p - (place b k + head_size) in
          let x : p ≡ place b k + head_size + i = omega arith in
          rw x (held_byte k i z.before (omega (arith, z.till)) x))

      pub agree_held : get_or b p 0 ≡ get_or c p 0
      agree_held =
          cases (ltb p (length b)) (λ t. byte_same (ltb-true p (length b) t))
          (λ t.
          let d = ltb-false p (length b) t in
          get_or-eq_default b 0 {n = p} d ∙ sym (get_or-eq_default c 0 {n = p} (omega arith)))
