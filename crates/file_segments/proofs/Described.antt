-- The memory that segments describe of which none fails, byte by byte: a named byte is the segment's, an unnamed one is
-- 0. Assumes nothing.
use mathlib.Core.Path.{◌≡◌, ap, sym, subst, ◌∙◌}
use mathlib.Core.Bool.{false}
use mathlib.Core.List.{List}
use mathlib.Core.Logic.{◌⊎◌, ⊎_elim}
use Prim.Native.Nat.{ℕ, zero, suc, ◌+◌, ◌≤◌, ◌<◌}
use native.Mathlib.Nat.{eq-or-lt_of_le, le_of_suc-le-suc, not-suc-le-zero}
use native.Mathlib.Omega.{arith}
use lib.Dec.{ltb, eqb}
use lib.ListN.{length, get_or, drop, length-drop, length-replicate, get_or-replicate}
use lib.Seq.{paste, length-sets, get_or-drop}
use borrow.Author.Tests.{ltb-false, eqb-false}
use Rattle.refusal.specs.declared.Reason.TheVariants.{Segment}
use Rattle.notions.proofs.Tests.{neither}
use Rattle.notions.proofs.First.{none_found}
use Rattle.refusal.proofs.Order.{done_passed}
use Rattle.octets.specs.Numbers.{number_of_two}
use Rattle.octets.proofs.Laid.{laid_part}
use Rattle.layout.specs.Calls.{memory_bytes}
use Rattle.file_segments.specs.Segments.{head_size, start_at, size_at, place, reached, segments, fails_at}
use Rattle.file_segments.specs.Segments.{segment_fails, first_wrong, segment_check, contents_at, image, described}
use Rattle.file_segments.proofs.Lists.{paste_in, paste_below, paste_above}
use Rattle.std.specs.Prelude.{Ok}

-- the length is the number two bytes behind the start
pub size_at_lem : (b : List ℕ) (p : ℕ) → start_at b (p + 2) ≡ size_at b p
size_at_lem b p = let e : p + 2 + 1 ≡ p + 3 = omega arith in ap (λ (i : ℕ). number_of_two (get_or b (p + 2) 0) (get_or b i 0)) e

-- ---- a segment that does not fail

-- p is its place, and `end` where the one before ends
pub record Right (b : List ℕ) (p end : ℕ) : Type 0 where
  pub header : p + head_size ≤ length b
  pub some : 0 < size_at b p
  pub contents : p + head_size + size_at b p ≤ length b
  pub after : end ≤ start_at b p
  pub within : start_at b p + size_at b p ≤ memory_bytes

pub right : (b : List ℕ) (p end : ℕ) → fails_at b p end ≡ false → Right b p end
right b p end h =
    let h5 = neither _ _ h in
    let h4 = neither _ _ h5.0 in
    let h3 = neither _ _ h4.0 in
    let h2 = neither (ltb (length b) (p + head_size)) (eqb (size_at b p) 0) h3.0 in
    let n0 = eqb-false (size_at b p) 0 h2.1 in
    record {
      header = ltb-false (length b) (p + head_size) h2.0;
      some = omega (arith, n0);
      contents = ltb-false (length b) (p + head_size + size_at b p) h3.1;
      after = ltb-false (start_at b p) end h4.1;
      within = ltb-false memory_bytes (start_at b p + size_at b p) h5.1;
    }

-- ---- the memory

pub length_image : (n : ℕ) (b : List ℕ) (k : ℕ) → length (image n b k) ≡ n
unfolding image
length_image n b zero = length-replicate {A = ℕ} n 0
length_image n b (suc k) =
    length-sets (image n b k) (start_at b (place b k)) (contents_at b (place b k)) ∙ length_image n b k

pub length_described : (b : List ℕ) → length (described b) ≡ memory_bytes
length_described b = length_image memory_bytes b (segments b)

-- the addresses that segment k names
abbrev pub from : List ℕ → ℕ → ℕ
from b k = start_at b (place b k)

abbrev pub till : List ℕ → ℕ → ℕ
till b k = from b k + size_at b (place b k)

module _ (b : List ℕ) (passed : segment_check b ≡ Ok tt) where
  none_wrong : ltb (first_wrong b) (segments b) ≡ false
  unfolding segment_check
  none_wrong =
      (done_passed (ltb (first_wrong b) (segments b)) (record { reason = Segment; place = first_wrong b }) (Ok tt) passed).0

  pub all_right : (k : ℕ) → k < segments b → Right b (place b k) (reached b k)
  unfolding first_wrong segment_fails
  all_right k h = right b (place b k) (reached b k) (none_found (segments b) (segment_fails b) none_wrong k h)

  -- a segment ends where a later one may start, or before
  pub ordered : (k n : ℕ) → k < n → n < segments b → till b k ≤ from b n
  unfolding reached
  ordered k zero h l = absurd (not-suc-le-zero h)
  ordered k (suc n) h l =
      let r = all_right (suc n) l in
      ⊎_elim (λ e. subst (λ (j : ℕ). till b j ≤ from b (suc n)) (sym e) r.after)
      (λ m. omega (arith, ordered k n m (omega arith), r.after)) (eq-or-lt_of_le (le_of_suc-le-suc h))

  -- what laying in segment n changes
  module _ (n : ℕ) (h : n < segments b) where
    at_most : till b n ≤ length (image memory_bytes b n)
    at_most = omega (arith, length_image memory_bytes b n, (all_right n h).within)

    enough : size_at b (place b n) ≤ length (drop (place b n + head_size) b)
    enough = simp length-drop (omega (arith, (all_right n h).contents))

    next : image memory_bytes b (suc n)
        ≡ paste (image memory_bytes b n) (from b n) (drop (place b n + head_size) b) (size_at b (place b n))
    unfolding image
    next =
        laid_part (image memory_bytes b n) (from b n) (size_at b (place b n))
        (drop (place b n + head_size) b) at_most enough

    next_in : (i : ℕ) → i < size_at b (place b n)
        → get_or (image memory_bytes b (suc n)) (from b n + i) 0 ≡ get_or b (place b n + head_size + i) 0
    next_in i l =
        ap (λ (m : List ℕ). get_or m (from b n + i) 0) next
        ∙ paste_in (image memory_bytes b n) (drop (place b n + head_size) b) (from b n) (size_at b (place b n))
        (omega (arith, at_most)) enough i l
        ∙ get_or-drop (place b n + head_size) b i 0

    next_below : (a : ℕ) → a < from b n → get_or (image memory_bytes b (suc n)) a 0 ≡ get_or (image memory_bytes b n) a 0
    next_below a l =
        ap (λ (m : List ℕ). get_or m a 0) next
        ∙ paste_below (image memory_bytes b n) (drop (place b n + head_size) b) (from b n) (size_at b (place b n))
        (omega (arith, at_most)) enough a l

    next_above : (a : ℕ) → till b n ≤ a → get_or (image memory_bytes b (suc n)) a 0 ≡ get_or (image memory_bytes b n) a 0
    next_above a l =
        ap (λ (m : List ℕ). get_or m a 0) next
        ∙ paste_above (image memory_bytes b n) (drop (place b n + head_size) b) (from b n) (size_at b (place b n))
        (omega (arith, at_most)) enough a l

  -- where n segments are laid in, byte i that segment k names is byte i of its contents
  abbrev NamedBy : ℕ → ℕ → ℕ → Type 0
  NamedBy n k i = get_or (image memory_bytes b n) (from b k + i) 0 ≡ get_or b (place b k + head_size + i) 0

  image_named : (n : ℕ) → n ≤ segments b → (k i : ℕ) → k < n → i < size_at b (place b k) → NamedBy n k i
  image_named zero h k i l m = absurd (not-suc-le-zero l)
  image_named (suc n) h k i l m =
      ⊎_elim
      (λ e. subst (λ (j : ℕ). i < size_at b (place b j) → NamedBy (suc n) j i) (sym e) (next_in n h i) m)
      (λ q. next_below n h (from b k + i) (omega (arith, ordered k n q h)) ∙ image_named n (omega arith) k i q m)
      (eq-or-lt_of_le (le_of_suc-le-suc l))

  image_unnamed : (n : ℕ) → n ≤ segments b → (a : ℕ) → a < memory_bytes
      → ((k : ℕ) → k < n → (a < from b k) ⊎ (till b k ≤ a))
      → get_or (image memory_bytes b n) a 0 ≡ 0
  unfolding image
  image_unnamed zero h a l f = get_or-replicate {A = ℕ} memory_bytes a 0 0 l
  image_unnamed (suc n) h a l f =
      let rest = image_unnamed n (omega arith) a l (λ k q. f k (omega arith)) in
      ⊎_elim (λ q. next_below n h a q ∙ rest) (λ q. next_above n h a q ∙ rest) (f n (omega arith))

  -- byte i that segment k names is byte i of its contents
  pub named : (k i : ℕ) → k < segments b → i < size_at b (place b k)
      → get_or (described b) (from b k + i) 0 ≡ get_or b (place b k + head_size + i) 0
  named = image_named (segments b) (omega arith)

  -- a byte that none names is 0
  pub unnamed : (a : ℕ) → a < memory_bytes → ((k : ℕ) → k < segments b → (a < from b k) ⊎ (till b k ≤ a))
      → get_or (described b) a 0 ≡ 0
  unnamed = image_unnamed (segments b) (omega arith)
