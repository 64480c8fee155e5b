-- The check that comes first in a call on a board's memory: what has passed, and what follows. Assumes nothing.
use mathlib.Core.Path.{◌≡◌, ap}
use mathlib.Core.Bool.{Bool, true, false, not}
use mathlib.Core.List.{List}
use Prim.Native.Nat.{ℕ, ◌≤◌}
use native.Mathlib.Omega.{arith}
use lib.Dec.{eqb}
use lib.ListN.{length}
use borrow.Author.Tests.{eqb-true, eq-eqb, not-false}
use Rattle.notions.specs.Choice.{pick}
use Rattle.refusal.specs.Numbers.{number}
use Rattle.refusal.specs.Answers.{Answer, and_then}
use Rattle.refusal.specs.declared.Reason.TheVariants.{MemorySize, RegionsShare}
use Rattle.refusal.specs.declared.Refusal.{Refusal}
use Rattle.refusal.proofs.Order.{done_passed, both_done, Refuses, refuses_test, refuses_then}
use Rattle.layout.specs.declared.Layout.{Layout}
use Rattle.layout.specs.Layouts.{layout_of, layout_check}
use Rattle.layout.specs.Calls.{memory_bytes, call_check}
use Rattle.layout.specs.Promises.{checked_row, Checks, Admits}
use Rattle.layout.proofs.Laws.{told_good, told_refused, layout_numbers}
use Rattle.std.specs.Prelude.{Err, Ok}

pub call_passed : (memory layout : List ℕ) (rest : Answer) → call_check memory layout rest ≡ Ok tt
    → (length memory ≡ memory_bytes) × (layout_check layout ≡ Ok tt) × (rest ≡ Ok tt)
call_passed memory layout rest e =
    let p = done_passed (not (eqb (length memory) memory_bytes)) _ _ e in
    let q = both_done (layout_check layout) rest p.1 in
    (eqb-true (length memory) memory_bytes (not-false _ p.0), q.0, q.1)

pub call_rest : (memory layout : List ℕ) (rest : Answer) → length memory ≡ memory_bytes → layout_check layout ≡ Ok tt
    → call_check memory layout rest ≡ rest
call_rest memory layout rest w e = simp (eq-eqb (length memory) memory_bytes w, e)

refused_anyway : (t : Bool) (x q : Refusal) (a rest : Answer) → pick t (Err x) (and_then a (Ok tt)) ≡ Err q
    → pick t (Err x) (and_then a rest) ≡ Err q
refused_anyway true x q a rest e = e
refused_anyway false x q (Err r) rest e = e
refused_anyway false x q (Ok u) rest e = absurd (cc)

-- what is refused before the rest is looked at
pub call_refused : (memory layout : List ℕ) (rest : Answer) (q : Refusal) → call_check memory layout (Ok tt) ≡ Err q
    → call_check memory layout rest ≡ Err q
call_refused memory layout rest q e =
    refused_anyway (not (eqb (length memory) memory_bytes)) _ q (layout_check layout) rest e

-- a call is refused with 1 to 6, or with a number of the rest
pub call_numbers : (P : ℕ → Type 0) (memory layout : List ℕ) (rest : Answer)
    → ((n : ℕ) → number MemorySize ≤ n → n ≤ number RegionsShare → P n) → Refuses P rest → Refuses P (call_check memory layout rest)
call_numbers P memory layout rest h f =
    refuses_test P (not (eqb (length memory) memory_bytes)) MemorySize 0 (and_then (layout_check layout) rest)
    (h (number MemorySize) (omega arith) (omega arith))
    (refuses_then P (layout_check layout) rest
    (λ r e. let p = layout_numbers layout r e in h (number r.reason) (omega (arith, p.0)) p.1)
    f)

-- `admit`, on plain variables
module _ (memory layout : List ℕ) (rest : Answer) (long : length memory ≡ memory_bytes) where
  pub admit_good : (l : Layout) → Checks layout (Ok l) → rest ≡ Ok tt
      → Admits memory layout rest (Ok l)
  admit_good l p e =
      let g = told_good (layout_check layout) (layout_of layout) l p.answered in
      let row = ap (λ (k : Layout). checked_row (Ok k)) g.1 in
      record { answered = simp (eq-eqb (length memory) memory_bytes long, g.0, e) row }

  pub admit_rest : (l : Layout) (r : Refusal) → Checks layout (Ok l) → rest ≡ Err r
      → Admits memory layout rest (Err r)
  admit_rest l r p e =
      let g = told_good (layout_check layout) (layout_of layout) l p.answered in
      record { answered = simp (eq-eqb (length memory) memory_bytes long, g.0, e) }

  pub admit_refused : (r : Refusal) → Checks layout (Err r) → Admits memory layout rest (Err r)
  admit_refused r p =
      let t = told_refused (layout_check layout) (layout_of layout) r p.answered in
      record { answered = simp (eq-eqb (length memory) memory_bytes long, t) }

-- what `admit` has answered
pub admitted_good : (memory layout : List ℕ) (rest : Answer) (l : Layout) → Admits memory layout rest (Ok l)
    → (call_check memory layout rest ≡ Ok tt) × (l ≡ layout_of layout)
admitted_good memory layout rest l p = told_good (call_check memory layout rest) (layout_of layout) l p.answered

pub admitted_refused : (memory layout : List ℕ) (rest : Answer) (r : Refusal)
    → Admits memory layout rest (Err r) → call_check memory layout rest ≡ Err r
admitted_refused memory layout rest r p = told_refused (call_check memory layout rest) (layout_of layout) r p.answered
