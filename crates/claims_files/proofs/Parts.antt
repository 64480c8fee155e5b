-- The parts of a file, the end of its segments, and a file that is cut short. Assumes nothing.
use mathlib.Core.Path.{◌≡◌, refl, ap, sym, ◌∙◌}
use mathlib.Core.Bool.{Bool, true, false}
use mathlib.Core.List.{List, ◌++◌}
use mathlib.Core.Logic.{⊎_elim}
use Prim.Native.Nat.{ℕ, zero, suc, ◌+◌, ◌*◌, ◌≤◌, ◌<◌}
use native.Mathlib.Nat.{eq-or-lt_of_le, le_of_suc-le-suc, not-suc-le-zero}
use native.Mathlib.Omega.{arith}
use lib.Dec.{ltb, leb}
use lib.ListN.{length, take, drop, length-append, length-take, length-drop}
use lib.Seq.{take-add, take_all, ext_get_or, get_or-take, get_or-drop}
use borrow.Author.Tests.{ltb-true, ltb-false, leb-true, lt-ltb, le-ltb, eq-eqb}
use Rattle.notions.specs.First.{first}
use Rattle.notions.proofs.Tests.{cases}
use Rattle.notions.proofs.First.{first_found, first_is, none_found, found_none}
use Rattle.refusal.specs.Answers.{refused_at}
use Rattle.refusal.specs.declared.Reason.TheVariants.{Contents}
use Rattle.refusal.proofs.Order.{done_passed}
use Rattle.layout.specs.Layouts.{layout_bytes}
use Rattle.file_contents.specs.Contents.{largest_file, contents_size, entries, layout_entry, memory_entry, trace_entry}
use Rattle.file_contents.specs.Contents.{entry_size, number_size, offset, size, begins, entry_fails, first_failing}
use Rattle.file_contents.specs.Contents.{file_check, body}
use Rattle.file_contents.proofs.Entries.{sound, Right, right}
use Rattle.file_segments.specs.Segments.{place, segments, segment_check}
use Rattle.file_segments.proofs.Described as D
use Rattle.claims_files.specs.Files.{FileParts, cut_place}
use Rattle.std.specs.Prelude.{Ok}

-- ---- the end of the segments

place_grows : (b : List ℕ) (k : ℕ) → k ≤ place b k
unfolding place
place_grows b zero = omega arith
place_grows b (suc k) = omega (arith, place_grows b k)

reaches : (b : List ℕ) → length b ≤ place b (segments b)
unfolding segments
reaches b =
    let past : ℕ → Bool = λ k. leb (length b) (place b k) in
    let s = first (length b) past in
    cases (ltb s (length b))
    (λ e. leb-true (length b) (place b s) (first_found (length b) past (ltb-true s (length b) e)))
    (λ e. omega (arith, ltb-false s (length b) e, place_grows b s))

keeps_within : (b : List ℕ) → segment_check b ≡ Ok tt → (n : ℕ) → n ≤ segments b → place b n ≤ length b
unfolding place
keeps_within b e zero h = omega arith
keeps_within b e (suc n) h = (D.all_right b e n h).contents

pub segments_end : (b : List ℕ) → segment_check b ≡ Ok tt → place b (segments b) ≡ length b
segments_end b e = omega (arith, reaches b, keeps_within b e (segments b) (omega arith))

-- ---- a file that passes

none_fails : (f : List ℕ) → file_check f ≡ Ok tt → (k : ℕ) → k < entries → entry_fails f k ≡ false
unfolding file_check first_failing
none_fails f e k h =
    let p = done_passed (ltb largest_file (length f)) _ _ e in
    let q = done_passed (ltb (first_failing f) entries) _ (Ok tt) p.1 in
    cases (ltb (length f) contents_size) (λ t. absurd (omega (arith, ltb-false 0 entries (simp t at q.0))))
    (λ t. none_found entries (entry_fails f) (simp t at q.0) k h)

-- where the bodies end
abbrev end : List ℕ → ℕ
end f = contents_size + size f layout_entry + size f memory_entry + size f trace_entry

in_parts : (f : List ℕ) → length f ≤ end f
    → f ≡ take contents_size f ++ body f layout_entry ++ body f memory_entry ++ body f trace_entry
unfolding body begins
in_parts f h =
    let a = contents_size + size f layout_entry in
    sym (take_all (end f) f h)
    ∙ take-add (a + size f memory_entry) (size f trace_entry) f
    ∙ ap (λ (p : List ℕ). p ++ body f trace_entry)
    (take-add a (size f memory_entry) f
    ∙ ap (λ (p : List ℕ). p ++ body f memory_entry) (take-add contents_size (size f layout_entry) f))

pub parts : (f : List ℕ) → file_check f ≡ Ok tt → FileParts f
unfolding body entry_fails
parts f e =
    let s = sound f e in
    let r : (k : ℕ) → k < entries → Right f k (begins f k) = λ k h. right f k (begins f k) (none_fails f e k h) in
    let long : (k : ℕ) → k < entries → length (body f k) ≡ size f k =
    λ k h. simp (length-take, length-drop) (omega (arith, (r k h).within)) in
    record {
      most = s.most;
      all = in_parts f (omega (arith, s.whole, s.layout));
      there = λ k h. (r k h).there;
      long = long;
      layout = long layout_entry (omega arith) ∙ s.layout;
    }

-- ---- and back

module _ (f : List ℕ) (p : FileParts f) where
  long_layout : size f layout_entry ≡ layout_bytes
  long_layout = sym (p.long layout_entry (omega arith)) ∙ p.layout

  ends : length f ≡ end f
  ends =
      let m = p.long memory_entry (omega arith) in
      let t = p.long trace_entry (omega arith) in
      let n = simp (length-append, length-take) at (ap length p.all) in
      omega (arith, n, m, t, p.layout, long_layout)

  no_entry_fails : (k : ℕ) → k < entries → entry_fails f k ≡ false
  unfolding entry_fails begins
  no_entry_fails zero h =
      simp (
        eq-eqb _ _ (p.there layout_entry h),
        le-ltb (length f) (contents_size + size f layout_entry) (omega (arith, ends)),
        eq-eqb (size f layout_entry) layout_bytes long_layout,
      )
  no_entry_fails (suc zero) h =
      simp (
        eq-eqb _ _ (p.there memory_entry h),
        le-ltb (length f) (contents_size + size f layout_entry + size f memory_entry) (omega (arith, ends)),
      )
  no_entry_fails (suc (suc zero)) h =
      simp (
        eq-eqb _ _ (p.there trace_entry h),
        le-ltb (length f) (end f) (omega (arith, ends)),
        le-ltb (end f) (length f) (omega (arith, ends)),
      )
  no_entry_fails (suc (suc (suc k))) h = absurd (omega arith)

  pub passes : file_check f ≡ Ok tt
  unfolding file_check first_failing
  passes =
      simp (
        le-ltb largest_file (length f) p.most,
        le-ltb (length f) contents_size (omega (arith, ends)),
        found_none entries (entry_fails f) no_entry_fails,
      )

-- ---- one that is cut short

begins_grow : (f : List ℕ) (j k : ℕ) → j ≤ k → begins f j ≤ begins f k
unfolding begins
begins_grow f zero zero h = omega arith
begins_grow f (suc j) zero h = absurd (not-suc-le-zero h)
begins_grow f j (suc k) h =
    ⊎_elim (λ d. omega (arith, ap (begins f) d)) (λ m. omega (arith, begins_grow f j k (le_of_suc-le-suc m)))
    (eq-or-lt_of_le h)

place_below : (f : List ℕ) (n : ℕ) → ltb (cut_place f n) entries ≡ true
place_below f n =
    cases (ltb n (begins f memory_entry)) (λ u. simp u)
    (λ u. cases (ltb n (begins f trace_entry)) (λ v. simp (u, v)) (λ v. simp (u, v)))

-- a number of the Contents, read from what is left
number_left : (f : List ℕ) (n p : ℕ) → p + number_size ≤ n
    → take number_size (drop p (take n f)) ≡ take number_size (drop p f)
number_left f n p h =
    ext_get_or 0 (take number_size (drop p (take n f))) (take number_size (drop p f))
    (simp (length-take, length-drop) (omega arith))
    (λ i l.
    let m : i < number_size = let z = simp length-take at l in omega arith in
    get_or-take number_size (drop p (take n f)) i 0 m
    ∙ get_or-drop p (take n f) i 0
    ∙ get_or-take n f (p + i) 0 (omega arith)
    ∙ sym (get_or-take number_size (drop p f) i 0 m ∙ get_or-drop p f i 0))

module _ (f : List ℕ) (n : ℕ) (e : file_check f ≡ Ok tt) (h : n < length f) where
  abbrev left : List ℕ
  left = take n f

  length_left : length left ≡ n
  length_left = simp length-take (omega arith)

  -- where the Contents are left, the entries are the same, and those fail whose body is not whole
  module _ (l : contents_size ≤ n) where
    offset_left : (k : ℕ) → k < entries → offset left k ≡ offset f k
    offset_left k m = cc (number_left f n (entry_size * k) (omega arith))

    size_left : (k : ℕ) → k < entries → size left k ≡ size f k
    size_left k m = cc (number_left f n (entry_size * k + number_size) (omega arith))

    begins_left : (k : ℕ) → k ≤ entries → begins left k ≡ begins f k
    unfolding begins
    begins_left zero m = refl
    begins_left (suc k) m = cc (begins_left k (omega arith), size_left k (omega arith))

    there_left : (k : ℕ) → k < entries → offset left k ≡ begins left k
    there_left k m = offset_left k m ∙ (parts f e).there k m ∙ sym (begins_left k (omega arith))

    ends_left : (k : ℕ) → k < entries → begins left k + size left k ≡ begins f (suc k)
    unfolding begins
    ends_left k m = cc (begins_left k (omega arith), size_left k m)

    lost : (k : ℕ) → k < entries → n < begins f (suc k) → entry_fails left k ≡ true
    unfolding entry_fails
    lost k m b =
        simp (
          eq-eqb _ _ (there_left k m),
          lt-ltb (length left) (begins left k + size left k) (omega (arith, length_left, ends_left k m)),
        )

    whole : (k : ℕ) → k < trace_entry → begins f (suc k) ≤ n → entry_fails left k ≡ false
    unfolding entry_fails
    whole zero m b =
        simp (
          eq-eqb _ _ (there_left layout_entry (omega arith)),
          le-ltb (length left) (begins left layout_entry + size left layout_entry)
              (omega (arith, length_left, ends_left layout_entry (omega arith))),
          eq-eqb (size left layout_entry) layout_bytes
              (size_left layout_entry (omega arith) ∙ long_layout f (parts f e)),
        )
    whole (suc zero) m b =
        simp (
          eq-eqb _ _ (there_left memory_entry (omega arith)),
          le-ltb (length left) (begins left memory_entry + size left memory_entry)
              (omega (arith, length_left, ends_left memory_entry (omega arith))),
        )
    whole (suc (suc k)) m b = absurd (omega arith)

    found : (k : ℕ) → k < entries → begins f k ≤ n → n < begins f (suc k) → first entries (entry_fails left) ≡ k
    found k m b c =
        first_is entries (entry_fails left) k m
        (λ j i. whole j (omega arith) (omega (arith, begins_grow f (suc j) k i)))
        (lost k m c)

  at_place : first_failing left ≡ cut_place f n
  unfolding first_failing begins
  at_place =
      cases (ltb (length left) contents_size)
      (λ t.
      let z = ltb-true (length left) contents_size t in
      simp (t, lt-ltb n (begins f memory_entry) (omega (arith, length_left))))
      (λ t.
      let l : contents_size ≤ n = omega (arith, ltb-false (length left) contents_size t, length_left) in
      cases (ltb n (begins f memory_entry))
      (λ u. simp (t, u) (found l layout_entry (omega arith) l (ltb-true n (begins f memory_entry) u)))
      (λ u.
      let a = ltb-false n (begins f memory_entry) u in
      cases (ltb n (begins f trace_entry))
      (λ v. simp (t, u, v) (found l memory_entry (omega arith) a (ltb-true n (begins f trace_entry) v)))
      (λ v.
      simp (t, u, v)
      (found l trace_entry (omega arith) (ltb-false n (begins f trace_entry) v) (omega (arith, ends f (parts f e)))))))

  short : ltb largest_file (length left) ≡ false
  short = le-ltb largest_file (length left) (omega (arith, length_left, (parts f e).most))

  pub cut_fails : file_check left ≡ refused_at Contents (cut_place f n)
  unfolding file_check
  cut_fails = simp (short, at_place, place_below f n)
