-- The entries of a run file: the search for the first that fails, and what is known of a file in which none does.
-- Assumes nothing.
use Rattle.std.specs.Prelude.{Ok}
use mathlib.Core.Path.{◌≡◌, sym, ap, ◌∙◌}
use mathlib.Core.Bool.{true, false, not, ◌&&◌, ◌||◌}
use mathlib.Core.List.{List}
use Prim.Native.Nat.{ℕ, ◌+◌, ◌-◌, ◌≤◌, ◌<◌}
use native.Mathlib.Omega.{arith}
use lib.Dec.{eqb, ltb}
use lib.ListN.{length, take, drop}
use borrow.Author.Tests.{ltb-true, ltb-false, lt-ltb, eqb-true, not-false}
use Rattle.notions.specs.First.{first}
use Rattle.refusal.specs.declared.Reason.TheVariants.{Contents}
use Rattle.notions.proofs.Tests.{cases, neither}
use Rattle.notions.proofs.First.{none_found}
use Rattle.refusal.proofs.Order.{done_passed}
use Rattle.layout.specs.Layouts.{layout_bytes}
use Rattle.file_contents.specs.Contents.{largest_file, contents_size, entries, layout_entry, memory_entry, trace_entry}
use Rattle.file_contents.specs.Contents.{offset, size, begins, fails_from}
use Rattle.file_contents.specs.Contents.{entry_fails, first_failing, file_check, body}

-- ---- one entry

-- what holds of an entry that does not fail
pub record Right (f : List ℕ) (k begin : ℕ) : Type 0 where
  pub there : offset f k ≡ begin
  pub within : begin + size f k ≤ length f
  pub layout : (eqb k layout_entry && not (eqb (size f k) layout_bytes)) ≡ false
  pub trace : (eqb k trace_entry && ltb (begin + size f k) (length f)) ≡ false

pub right : (f : List ℕ) (k begin : ℕ) → fails_from f k begin ≡ false → Right f k begin
right f k begin e =
    let a = not (eqb (offset f k) begin) in
    let b = ltb (length f) (begin + size f k) in
    let c = eqb k layout_entry && not (eqb (size f k) layout_bytes) in
    let d = eqb k trace_entry && ltb (begin + size f k) (length f) in
    let p = neither (a || b || c) d e in
    let q = neither (a || b) c p.0 in
    let s = neither a b q.0 in
    record {
      there = eqb-true (offset f k) begin (not-false (eqb (offset f k) begin) s.0);
      within = ltb-false (length f) (begin + size f k) s.1;
      layout = q.1;
      trace = p.1;
    }

-- ---- the search

-- a file under 24 bytes fails at entry 0
short : (f : List ℕ) → length f < contents_size → entry_fails f layout_entry ≡ true
unfolding entry_fails begins
short f h =
    let past = lt-ltb (length f) (contents_size + size f layout_entry) (omega (arith, h)) in
    cases (eqb (offset f layout_entry) contents_size) (λ t. simp (t, past)) (λ t. simp t)

pub first_failing_is : (f : List ℕ) → first_failing f ≡ first entries (entry_fails f)
unfolding first_failing first
first_failing_is f =
    cases (ltb (length f) contents_size) (λ t. simp (t, short f (ltb-true (length f) contents_size t))) (λ t. simp t)

-- ---- a file that passes

-- where its memory body begins
abbrev pub memory_at : ℕ
memory_at = contents_size + layout_bytes

-- where the bodies begin, and how long they are
pub record Sound (f : List ℕ) : Type 0 where
  pub most : length f ≤ largest_file
  pub memory : begins f memory_entry ≡ memory_at
  pub trace : begins f trace_entry ≡ memory_at + size f memory_entry
  pub layout : size f layout_entry ≡ layout_bytes
  pub whole : memory_at + size f memory_entry + size f trace_entry ≡ length f

pub sound : (f : List ℕ) → file_check f ≡ Ok tt → Sound f
unfolding file_check entry_fails begins
sound f e =
    let p = done_passed (ltb largest_file (length f)) _ _ e in
    let q = done_passed (ltb (first_failing f) entries) (record { reason = Contents; place = first_failing f }) (Ok tt)
    p.1 in
    let m = contents_size + size f layout_entry + size f memory_entry in
    let g : (k : ℕ) → k < entries → entry_fails f k ≡ false =
    none_found entries (entry_fails f) (ap (λ (n : ℕ). ltb n entries) (sym (first_failing_is f)) ∙ q.0) in
    let l = right f layout_entry contents_size (g layout_entry (omega arith)) in
    let t = right f trace_entry m (g trace_entry (omega arith)) in
    let z : size f layout_entry ≡ layout_bytes =
    eqb-true (size f layout_entry) layout_bytes (not-false (eqb (size f layout_entry) layout_bytes) l.layout) in
    let w = ltb-false (m + size f trace_entry) (length f) t.trace in
    record {
      most = ltb-false largest_file (length f) p.0;
      memory = omega arith;
      trace = omega arith;
      layout = z;
      whole = omega (arith, t.within);
    }

-- ---- its bodies, as the code takes them

module _ (f : List ℕ) (s : Sound f) where
  pub layout_within : memory_at ≤ length f
  layout_within = omega (arith, s.whole)

  pub layout_part : take (memory_at - contents_size) (drop contents_size f) ≡ body f layout_entry
  unfolding body begins
  layout_part = sym (ap (λ (k : ℕ). take k (drop contents_size f)) s.layout)

  -- the trace begins at n
  module _ (n : ℕ) (is : n ≡ begins f trace_entry) where
    pub memory_before : memory_at ≤ n
    memory_before = omega (arith, s.trace)

    pub trace_within : n ≤ length f
    trace_within = omega (arith, s.trace, s.whole)

    pub memory_part : take (n - memory_at) (drop memory_at f) ≡ body f memory_entry
    unfolding body
    memory_part =
        let z : n - memory_at ≡ size f memory_entry = omega (arith, s.trace) in
        ap (λ (k : ℕ). take k (drop memory_at f)) z
        ∙ ap (λ (k : ℕ). take (size f memory_entry) (drop k f)) (sym s.memory)

    pub trace_part : take (length f - n) (drop n f) ≡ body f trace_entry
    unfolding body
    trace_part =
        let z : length f - n ≡ size f trace_entry = omega (arith, s.trace, s.whole) in
        ap (λ (k : ℕ). take k (drop n f)) z ∙ ap (λ (k : ℕ). take (size f trace_entry) (drop k f)) is
