-- Two files that differ in hidden bytes: what is read of them to refuse or to judge them. Assumes nothing.
use mathlib.Core.Path.{◌≡◌, refl, ap, sym, subst, ◌∙◌}
use mathlib.Core.Bool.{Bool, true, ◌&&◌}
use mathlib.Core.List.{List}
use mathlib.Core.Logic.{inl, inr, ⊎_elim}
use Prim.Native.Nat.{ℕ, zero, suc, ◌+◌, ◌-◌, ◌*◌, ◌/◌, ◌%◌, ◌≤◌, ◌<◌}
use native.Mathlib.Omega.{arith}
use lib.Dec.{ltb, eqb}
use lib.ListN.{length, get_or, take, drop, set, length-take, length-drop, length-set, get_or-eq_default}
use lib.Seq.{ext_get_or, get_or-take, get_or-drop, get_or-set_same, get_or-set_other}
use borrow.Author.Tests.{ltb-true, ltb-false}
use Rattle.notions.proofs.Tests.{cases, clash, untrue}
use Rattle.notions.proofs.First.{first_same}
use Rattle.layout.specs.Layouts.{layout_of}
use Rattle.traces.specs.Traces.{step_size}
use Rattle.file_contents.specs.Contents.{contents_size, entries, entry_size, number_size, layout_entry, memory_entry}
use Rattle.file_contents.specs.Contents.{trace_entry, offset, size, begins, entry_fails, first_failing, file_check, body}
use Rattle.file_contents.proofs.Entries.{sound}
use Rattle.file_segments.specs.Segments.{segment_check}
use Rattle.runfile.specs.Promises.{file_layout, file_memory, file_trace, bodies_check, judge_check}
use Rattle.claims_monitor.specs.Demand3.{Agree, stores_scratch, secret, cpu_data, SameTrace}
use Rattle.claims_monitor.proofs.Demand3Calls.{blank_same, trace_check_same}
use Rattle.claims_files.specs.Files.{SameFile, ByteOf, KeyOrScratch, Hidden, SameBytes, SameForm}
use Rattle.claims_files.proofs.Segments.{AllHeads, SameHeld, held_heads, all_heads, check_same, told_by_either}
use Rattle.claims_files.proofs.Segments.{described_agree, agree_held}
use Rattle.claims_files.proofs.Parts.{parts}
use Rattle.std.specs.Prelude.{Ok}

-- ---- a part of a list

part_byte : (f : List ℕ) (p n i : ℕ) → i < n → get_or (take n (drop p f)) i 0 ≡ get_or f (p + i) 0
part_byte f p n i h = get_or-take n (drop p f) i 0 h ∙ get_or-drop p f i 0

part_same : (f g : List ℕ) (p n : ℕ) → length f ≡ length g
    → ((i : ℕ) → i < n → get_or f (p + i) 0 ≡ get_or g (p + i) 0) → take n (drop p f) ≡ take n (drop p g)
part_same f g p n e h =
    ext_get_or 0 (take n (drop p f)) (take n (drop p g)) (simp (length-take, length-drop, e))
    (λ i l.
    let m : i < n = let z = simp length-take at l in omega arith in
    part_byte f p n i m ∙ h i m ∙ sym (part_byte g p n i m))

-- ---- where hidden bytes stand

hidden_behind : (f : List ℕ) (k : ℕ) → Hidden f k → begins f memory_entry ≤ k
unfolding begins
hidden_behind f k = ⊎_elim (λ z. omega (arith, z.1.1)) (λ z. omega (arith, z.1.1))

body_size : (f : List ℕ) (k p : ℕ) → p < length (body f k) → p < size f k
unfolding body
body_size f k p h = let z = simp length-take at h in omega arith

-- a byte of a file stands in one body
one_body : (f : List ℕ) (k p q : ℕ) → ByteOf f memory_entry k p → ByteOf f trace_entry k q → ⊥
unfolding begins
one_body f k p q a b = omega (arith, body_size f memory_entry p a.0, a.1, b.1)

one_place : (f : List ℕ) (e k p q : ℕ) → ByteOf f e k p → ByteOf f e k q → p ≡ q
one_place f e k p q a b = omega (arith, a.1, b.1)

in_file : (f : List ℕ) (e k p : ℕ) → ByteOf f e k p → k < length f
unfolding body
in_file f e k p a = let z = simp (length-take, length-drop) at a.0 in omega (arith, a.1)

pub changed : (f : List ℕ) (k v : ℕ) → Hidden f k → SameBytes f (set f k v) × (get_or (set f k v) k 0 ≡ v)
changed f k v h = (
  record {
    long = sym (length-set f k v);
    same = λ j n. sym (get_or-set_other f k j v 0 (λ e. n (subst (Hidden f) (sym e) h)));
  },
  get_or-set_same f k v 0
      (⊎_elim (λ z. in_file f memory_entry k z.0 z.1) (λ z. in_file f trace_entry k z.0 z.1) h),
)

-- ---- two files of one length with the same contents

abbrev SameLow : List ℕ → List ℕ → Type 0
SameLow f g = (k : ℕ) → k < contents_size → get_or f k 0 ≡ get_or g k 0

module _ (f g : List ℕ) (long : length f ≡ length g) (low : SameLow f g) where
  number_same : (p : ℕ) → p + number_size ≤ contents_size → take number_size (drop p f) ≡ take number_size (drop p g)
  number_same p h = part_same f g p number_size long (λ i l. low (p + i) (omega arith))

  offset_same : (k : ℕ) → k < entries → offset f k ≡ offset g k
  offset_same k h = cc (number_same (entry_size * k) (omega arith))

  size_same : (k : ℕ) → k < entries → size f k ≡ size g k
  size_same k h = cc (number_same (entry_size * k + number_size) (omega arith))

  begins_same : (k : ℕ) → k ≤ entries → begins f k ≡ begins g k
  unfolding begins
  begins_same zero h = refl
  begins_same (suc k) h = cc (begins_same k (omega arith), size_same k (omega arith))

  fails_same : (k : ℕ) → k < entries → entry_fails f k ≡ entry_fails g k
  unfolding entry_fails
  fails_same k h = cc (long, offset_same k h, size_same k h, begins_same k (omega arith))

  failing_same : first_failing f ≡ first_failing g
  unfolding first_failing
  failing_same = cc (long, first_same entries (entry_fails f) (entry_fails g) fails_same)

  file_check_same : file_check f ≡ file_check g
  unfolding file_check
  file_check_same = cc (long, failing_same)

  -- a body, and its bytes in the file
  module _ (e : ℕ) (h : e < entries) where
    body_long : length (body f e) ≡ length (body g e)
    unfolding body
    body_long = simp (length-take, length-drop, long, size_same e h, begins_same e (omega arith))

    byte_there : (p : ℕ) → p < size f e → get_or (body g e) p 0 ≡ get_or g (begins f e + p) 0
    unfolding body
    byte_there p m =
        part_byte g (begins g e) (size g e) p (omega (arith, size_same e h))
        ∙ ap (λ (n : ℕ). get_or g (n + p) 0) (sym (begins_same e (omega arith)))

    body_same : (p : ℕ) → (p < length (body f e) → get_or f (begins f e + p) 0 ≡ get_or g (begins f e + p) 0)
        → get_or (body f e) p 0 ≡ get_or (body g e) p 0
    unfolding body
    body_same p d =
        cases (ltb p (length (body f e)))
        (λ t.
        let i = ltb-true p (length (body f e)) t in
        let m = body_size f e p i in
        part_byte f (begins f e) (size f e) p m ∙ d i ∙ sym (byte_there p m))
        (λ t.
        let i = ltb-false p (length (body f e)) t in
        get_or-eq_default (body f e) 0 {n = p} i
        ∙ sym (get_or-eq_default (body g e) 0 {n = p} (omega (arith, body_long))))

    file_same : (p : ℕ) → p < size f e → get_or (body f e) p 0 ≡ get_or (body g e) p 0
        → get_or f (begins f e + p) 0 ≡ get_or g (begins f e + p) 0
    unfolding body
    file_same p m d = sym (part_byte f (begins f e) (size f e) p m) ∙ d ∙ byte_there p m

    byte_of_same : (k p : ℕ) → ByteOf f e k p → ByteOf g e k p
    byte_of_same k p a = (omega (arith, a.0, body_long), omega (arith, a.1, begins_same e (omega arith)))

-- ---- two files that differ in hidden bytes

module _ (f g : List ℕ) (s : SameBytes f g) where
  before_same : (k : ℕ) → k < begins f memory_entry → get_or f k 0 ≡ get_or g k 0
  before_same k h = s.same k (λ z. omega (arith, hidden_behind f k z))

  low_same : SameLow f g
  unfolding begins
  low_same k h = before_same k (omega arith)

  pub layout_same : body f layout_entry ≡ body g layout_entry
  unfolding begins
  layout_same =
      ext_get_or 0 (body f layout_entry) (body g layout_entry) (body_long f g s.long low_same layout_entry (omega arith))
      (λ p l.
      body_same f g s.long low_same layout_entry (omega arith) p
      (λ i. before_same (contents_size + p) (omega (arith, body_size f layout_entry p i))))

  memory_long : length (body f memory_entry) ≡ length (body g memory_entry)
  memory_long = body_long f g s.long low_same memory_entry (omega arith)

  memory_same : SameHeld (file_layout f) (body f memory_entry) (body g memory_entry)
  memory_same p n =
      let k = begins f memory_entry + p in
      body_same f g s.long low_same memory_entry (omega arith) p (λ i.
      s.same k (⊎_elim
      (λ z. n (subst (KeyOrScratch (file_layout f) (body f memory_entry))
      (one_place f memory_entry k z.0 p z.1 (i, refl)) z.2))
      (λ z. one_body f k p z.0 (i, refl) z.1)))

  memory_heads : AllHeads (body f memory_entry) (body g memory_entry)
  memory_heads = held_heads (file_layout f) (body f memory_entry) (body g memory_entry) memory_same

  pub trace_same : SameTrace (file_layout f) (file_trace f) (file_trace g)
  trace_same = record {
    long = body_long f g s.long low_same trace_entry (omega arith);
    same =
        λ p n.
        let k = begins f trace_entry + p in
        body_same f g s.long low_same trace_entry (omega arith) p (λ i.
        s.same k (⊎_elim
        (λ z. one_body f k z.0 p z.1 (i, refl))
        (λ z. clash (secret (file_layout f) (file_trace f) z.0) z.2
        (ap (secret (file_layout f) (file_trace f)) (one_place f trace_entry k z.0 p z.1 (i, refl)) ∙ n))));
  }

  -- they are refused alike
  pub judge_check_same : (x y room : List ℕ) → length x ≡ length y → judge_check f x room ≡ judge_check g y room
  unfolding judge_check bodies_check
  judge_check_same x y room e =
      let c = file_check_same f g s.long low_same in
      let m = check_same (body f memory_entry) (body g memory_entry) memory_long memory_heads in
      let t = trace_check_same (file_layout f) (file_trace f) (file_trace g) trace_same (length room) in
      cc (c, e, layout_same, m, t)

  -- and have one form and memories that agree
  pub memories_agree : segment_check (body f memory_entry) ≡ Ok tt → Agree (file_layout f) (file_memory f) (file_memory g)
  memories_agree e =
      described_agree (body f memory_entry) (body g memory_entry) memory_long memory_heads (file_layout f) e memory_same

  pub same_form : SameForm f g
  same_form = record {
    long = s.long;
    contents = part_same f g 0 contents_size s.long (λ i l. low_same (0 + i) (omega arith));
    heads = λ j i h m. memory_heads j i m;
  }

  -- either file tells which bytes are hidden
  secret_same : (p : ℕ) → secret (file_layout f) (file_trace f) p ≡ secret (file_layout f) (file_trace g) p
  secret_same p =
      let l = file_layout f in
      ap (λ (t : Bool). eqb (p % step_size) cpu_data && t)
      (ap (stores_scratch l) (blank_same l (file_trace f) (file_trace g) trace_same (p / step_size)))

  hidden_same : (k : ℕ) → Hidden f k → Hidden g k
  hidden_same k =
      ⊎_elim
      (λ z.
      let held =
      told_by_either (body f memory_entry) (body g memory_entry) memory_long memory_heads (file_layout f) z.0 z.2 in
      inl (
        z.0,
        byte_of_same f g s.long low_same memory_entry (omega arith) k z.0 z.1,
        subst (λ (b : List ℕ). KeyOrScratch (layout_of b) (body g memory_entry) z.0) layout_same held,
      ))
      (λ z.
      let stored = sym (secret_same z.0) ∙ z.2 in
      inr (
        z.0,
        byte_of_same f g s.long low_same trace_entry (omega arith) k z.0 z.1,
        subst (λ (b : List ℕ). secret (layout_of b) (file_trace g) z.0 ≡ true) layout_same stored,
      ))

  pub either_file : SameBytes g f
  either_file = record { long = sym s.long; same = λ k n. sym (s.same k (λ z. n (hidden_same k z))) }

-- ---- and back: two files of one form that hold the same

module _ (f g : List ℕ) (c : file_check f ≡ Ok tt) (e : segment_check (body f memory_entry) ≡ Ok tt)
    (s : SameForm f g) (same : SameFile f g) where
  low_form : SameLow f g
  low_form k h =
      sym (get_or-take contents_size f k 0 h)
      ∙ ap (λ (t : List ℕ). get_or t k 0) s.contents
      ∙ get_or-take contents_size g k 0 h

  -- the byte at a place is the same if it is not hidden
  Open : ℕ → Type 0
  Open k = (Hidden f k → ⊥) → get_or f k 0 ≡ get_or g k 0

  -- byte p of each body
  layout_byte : (p : ℕ) → p < size f layout_entry → Open (begins f layout_entry + p)
  unfolding Open
  layout_byte p h n =
      file_same f g s.long low_form layout_entry (omega arith) p h (ap (λ (b : List ℕ). get_or b p 0) same.layouts)

  memory_byte : (p : ℕ) → p < size f memory_entry → Open (begins f memory_entry + p)
  unfolding Open
  memory_byte p h n =
      let b = body f memory_entry in
      let d = body g memory_entry in
      let long = body_long f g s.long low_form memory_entry (omega arith) in
      let i : p < length b = omega (arith, (parts f c).long memory_entry (omega arith)) in
      file_same f g s.long low_form memory_entry (omega arith) p h
      (agree_held b d long (all_heads b d long e s.heads) (file_layout f) e same.memories p
      (λ z. n (inl (p, (i, refl), z))))

  trace_byte : (p : ℕ) → p < size f trace_entry → Open (begins f trace_entry + p)
  unfolding Open
  trace_byte p h n =
      let i : p < length (file_trace f) = omega (arith, (parts f c).long trace_entry (omega arith)) in
      file_same f g s.long low_form trace_entry (omega arith) p h
      (same.traces.same p
      (untrue (secret (file_layout f) (file_trace f) p) (λ t. n (inr (p, (i, refl), t)))))

  behind : (k : ℕ) → length f ≤ k → Open k
  unfolding Open
  behind k h n =
      get_or-eq_default f 0 {n = k} h ∙ sym (get_or-eq_default g 0 {n = k} (omega (arith, s.long)))

  -- each place is in the contents, in a body, or behind the file
  every_byte : (k : ℕ) → Open k
  unfolding Open begins
  every_byte k =
      let a = begins f memory_entry in
      let t = begins f trace_entry in
      let from : (b : ℕ) → b ≤ k → Open (b + (k - b)) → Open k =
      λ b h. let z : b + (k - b) ≡ k = omega arith in subst Open z in
      cases (ltb k contents_size) (λ u n. low_form k (ltb-true k contents_size u))
      (λ u.
      let h₀ = ltb-false k contents_size u in
      cases (ltb k a) (λ v. from contents_size h₀ (layout_byte (k - contents_size) (omega (arith, ltb-true k a v))))
      (λ v.
      let h₁ = ltb-false k a v in
      cases (ltb k t) (λ w. from a h₁ (memory_byte (k - a) (omega (arith, ltb-true k t w))))
      (λ w.
      let h₂ = ltb-false k t w in
      cases (ltb k (length f))
      (λ x. from t h₂ (trace_byte (k - t) (omega (arith, ltb-true k (length f) x, (sound f c).whole, (sound f c).trace))))
      (λ x. behind k (ltb-false k (length f) x)))))

  pub same_bytes : SameBytes f g
  unfolding Open
  same_bytes = record { long = s.long; same = every_byte }
