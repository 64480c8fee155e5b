-- The two walks over the segments of a body, on plain variables: the check, and the filling of the memory.
-- Assumes nothing.
use mathlib.Core.Path.{◌≡◌, refl, ap, sym, subst, ◌∙◌}
use mathlib.Core.Bool.{Bool, true, false}
use mathlib.Core.List.{List}
use mathlib.Core.Logic.{⊎_elim}
use Prim.Native.Nat.{ℕ, ◌+◌, ◌≤◌, ◌<◌}
use native.Mathlib.Nat.{eq-or-lt_of_le}
use native.Mathlib.Omega.{arith}
use native.Mathlib.Numerals.{add-one}
use lib.Dec.{ltb, leb}
use lib.ListN.{length, replicate, length-replicate}
use lib.Seq.{sets}
use borrow.Author.Count.{below_none, below_more}
use borrow.Author.Tests.{ltb-true, ltb-false, leb-true, lt-ltb, le-ltb, le-leb, lt-leb}
use Rattle.notions.specs.First.{first}
use Rattle.refusal.specs.Answers.{refused_at}
use Rattle.refusal.specs.declared.Reason.TheVariants.{Segment}
use Rattle.notions.proofs.Tests.{cases}
use Rattle.notions.proofs.First.{first_is, first_none, first_found, Passed, passed_zero, passed_more, passed_found}
use Rattle.notions.proofs.First.{passed_all}
use Rattle.file_segments.specs.Segments.{head_size, start_at, size_at, place, reached, segments, fails_at}
use Rattle.file_segments.specs.Segments.{segment_fails, first_wrong, segment_check, contents_at, image}
use Rattle.std.specs.Prelude.{Some, Ok}
use Rattle.std.specs.Borrow.{Bor}
use Rattle.file_segments.specs.declared.Places.{Places}
use Rattle.file_segments.specs.Inner.{GivesPlace}

-- p is the place of segment number k, and those before it begin in the body
pub record Walked (b : List ℕ) (k p : ℕ) : Type 0 where
  pub at : p ≡ place b k
  pub before : (j : ℕ) → j < k → place b j < length b
  pub small : k ≤ p
  pub few : k ≤ length b

none : (b : List ℕ) (p : ℕ) → p ≡ 0 → Walked b 0 p
unfolding place
none b p e = record { at = e; before = below_none (λ j. place b j < length b); small = omega arith; few = omega arith }

more : (b : List ℕ) (k p p' : ℕ) → Walked b k p → p < length b → p' ≡ p + head_size + size_at b p → Walked b (k + 1) p'
unfolding place
more b k p p' d h e =
    record {
      at = rw add-one (cc (d.at, e));
      before = below_more (λ j. place b j < length b) k d.before (subst (λ (n : ℕ). n < length b) d.at h);
      small = omega (arith, d.small, e);
      few = omega (arith, d.small);
    }

-- at the body's end all segments are passed
counted : (b : List ℕ) (k p : ℕ) → Walked b k p → length b ≤ p → segments b ≡ k
unfolding segments
counted b k p d h =
    let past : ℕ → Bool = λ j. leb (length b) (place b j) in
    let not_past : (j : ℕ) → j < k → past j ≡ false = λ j l. lt-leb (length b) (place b j) (d.before j l) in
    ⊎_elim (λ e. subst (λ (n : ℕ). first n past ≡ k) e (first_none k past not_past))
    (λ l. first_is (length b) past k l not_past (le-leb (length b) (place b k) (omega (arith, d.at))))
    (eq-or-lt_of_le d.few)

-- before it there is one more
inside : (b : List ℕ) (k p : ℕ) → Walked b k p → p < length b → k < segments b
unfolding segments
inside b k p d h =
    let s = first (length b) (λ j. leb (length b) (place b j)) in
    cases (ltb k s) (λ e. ltb-true k s e)
    (λ e.
    let m : s ≤ k = ltb-false k s e in
    let f : length b ≤ place b s =
    leb-true (length b) (place b s)
    (first_found (length b) (λ j. leb (length b) (place b j)) (omega (arith, d.small))) in
    absurd
    (⊎_elim (λ q. omega (arith, d.at, ap (place b) q, f)) (λ l. omega (arith, d.before s l, f)) (eq-or-lt_of_le m)))

-- ---- a turn of the walk

pub turn : (b : List ℕ) (s t : Places) (p : ℕ) → s.body.now ≡ b → GivesPlace s (Some p) t
    → (p ≡ s.at) × (s.at < length b) × (t.body.now ≡ b) × (t.at ≡ s.at + head_size + size_at b s.at)
turn b s t p e g =
    subst (λ (x : List ℕ). (p ≡ s.at) × (s.at < length x) × (t.body.now ≡ x) × (t.at ≡ s.at + head_size + size_at x s.at)) e
    (g.0, g.1, ap (λ (x : Bor (List ℕ)). x.now) g.2, g.3)

-- ---- the check

-- the k segments before p do not fail, and the last of them ends at `end`
pub record Checked (b : List ℕ) (k p end : ℕ) : Type 0 where
  pub walked : Walked b k p
  pub ended : end ≡ reached b k
  pub passed : Passed (segments b) (segment_fails b) k

pub check_none : (b : List ℕ) (k p : ℕ) → k ≡ 0 → p ≡ 0 → Checked b k p 0
unfolding reached
check_none b k p z e =
    subst (λ (j : ℕ). Checked b j p 0) (sym z)
    (record { walked = none b p e; ended = refl; passed = passed_zero (segments b) (segment_fails b) })

module _ (b : List ℕ) (k p end : ℕ) (d : Checked b k p end) where
  test_at : (t : Bool) → fails_at b p end ≡ t → segment_fails b k ≡ t
  unfolding segment_fails
  test_at t h =
      ap (λ (q : ℕ). fails_at b q (reached b k)) (sym d.walked.at) ∙ ap (fails_at b p) (sym d.ended) ∙ h

  pub check_more : (p' end' : ℕ) → p < length b → fails_at b p end ≡ false → p' ≡ p + head_size + size_at b p
      → end' ≡ start_at b p + size_at b p → Checked b (k + 1) p' end'
  unfolding reached
  check_more p' end' h f ep ee =
      record {
        walked = more b k p p' d.walked h ep;
        ended = rw add-one (cc (d.walked.at, ee));
        passed = passed_more d.passed (inside b k p d.walked h) (test_at false f);
      }

  pub check_found : p < length b → fails_at b p end ≡ true → segment_check b ≡ refused_at Segment k
  unfolding segment_check first_wrong
  check_found h f =
      let i = inside b k p d.walked h in
      simp (sym (passed_found d.passed i (test_at true f)), lt-ltb k (segments b) i)

  pub check_all : length b ≤ p → segment_check b ≡ Ok tt
  unfolding segment_check first_wrong
  check_all h =
      let n = counted b k p d.walked h in
      simp (le-ltb (first_wrong b) (segments b) (omega (arith, n, passed_all d.passed (omega (arith, n)))))

-- ---- the filling

-- the segments before p are laid into the memory, which has n bytes
pub record Laid (n : ℕ) (b : List ℕ) (p : ℕ) (memory : List ℕ) : Type 0 where
  pub number : ℕ
  pub walked : Walked b number p
  pub stands : memory ≡ image n b number

pub laid_none : (b memory : List ℕ) (n p : ℕ) → p ≡ 0 → memory ≡ replicate n 0 → Laid (length memory) b p memory
unfolding image
laid_none b memory n p z e =
    let same : length memory ≡ n = ap length e ∙ length-replicate {A = ℕ} n 0 in
    record { number = 0; walked = none b p z; stands = e ∙ ap (λ (k : ℕ). replicate k 0) (sym same) }

module _ {n : ℕ} {b : List ℕ} {p : ℕ} {memory : List ℕ} (d : Laid n b p memory) where
  pub laid_more : (memory' : List ℕ) (p' : ℕ) → p < length b → p' ≡ p + head_size + size_at b p
      → memory' ≡ sets memory (start_at b p) (contents_at b p) → Laid n b p' memory'
  unfolding image
  laid_more memory' p' h ep em =
      record {
        number = d.number + 1;
        walked = more b d.number p p' d.walked h ep;
        stands = rw add-one (cc (em, d.stands, d.walked.at));
      }

  pub laid_through : length b ≤ p → memory ≡ image n b (segments b)
  laid_through h = d.stands ∙ ap (image n b) (sym (counted b d.number p d.walked h))
