-- The functions of attestation on plain variables. Assumes nothing.
use mathlib.Core.Path.{◌≡◌, sym, subst, ◌∙◌}
use mathlib.Core.Bool.{false, ◌||◌, and-false}
use mathlib.Core.List.{List}
use Prim.Native.Nat.{ℕ, ◌+◌, ◌≤◌}
use native.Mathlib.Omega.{arith}
use borrow.Author.Tests.{le-ltb}
use lib.ListN.{length}
use lib.Seq.{sets}
use Rattle.refusal.specs.Answers.{Answer, row, done, refusal_row, after_call}
use Rattle.refusal.proofs.Settled.{row_settled}
use Rattle.refusal.specs.declared.Refusal.{Refusal}
use Rattle.sha256.proofs.Laws.{gives_bytes}
use Rattle.hmac.specs.Promises.{most, long}
use Rattle.layout.specs.declared.Layout.{Layout}
use Rattle.layout.specs.Regions.{size}
use Rattle.layout.specs.Layouts.{AR, layout_of, layout_check}
use Rattle.layout.specs.Calls.{memory_bytes}
use Rattle.layout.specs.Promises.{Admits}
use Rattle.layout.proofs.Laws.{done_good}
use Rattle.layout.proofs.Calls.{call_passed, call_rest, call_refused, admitted_good, admitted_refused}
use Rattle.routine.specs.Routine.{token, reply_to, request_check}
use Rattle.routine.specs.Promises.{RepliesTo, Authorises}
use Rattle.routine.proofs.Laws.{reply_to_is, request_passed}
use Rattle.board.specs.Memory.{bytes_at, key, counter, attested, challenge, received}
use Rattle.board.specs.Inner.{Sized}
use Rattle.board.specs.Attestation.{request_check_in, attest_check, due, accepted}
use Rattle.board.specs.Promises.{Attests}
use Rattle.std.specs.Prelude.{Err, Ok, Result}

short : (b : List ℕ) → length b ≤ most → long b ≡ false
short b h = le-ltb most (length b) h

-- what is read of the memory, and what the routine answers to it
module _ (l : Layout) (memory k t : List ℕ) (a : ℕ) (s : Sized l) (lk : length k ≡ size l.kr) (lt : length t ≡ 32)
    (ea : a ≡ l.mr.lo) (ek : k ≡ key l memory) (et : t ≡ bytes_at (a + 32) 32 memory) where
  pub requested : (c n : List ℕ) (r : Answer) → length c ≡ 32 → c ≡ bytes_at a 32 memory → n ≡ counter l memory
      → Authorises k c t n r
      → row r ≡ row (request_check_in l memory)
  requested c n r lc ec en p =
      let z = s.key in
      let h : (long k || long c) ≡ false = simp (short k (omega arith), short c (omega arith)) in
      let e : row r ≡ row (request_check k c t n) = simp (h, and-false) at p.answered in
      cc

  pub replied_to : (g : List ℕ) (d : Result (List ℕ) Refusal) → length g ≡ size l.ar → size l.ar ≤ memory_bytes
      → g ≡ attested l memory → RepliesTo k t g d
      → d ≡ Ok (reply_to (key l memory) (received l memory) (attested l memory))
  replied_to g d lg hg eg p =
      let z = s.key in
      let h : (long k || long t || long g) ≡ false =
      simp (short k (omega arith), short t (omega arith), short g (omega arith)) in
      let e : d ≡ Ok (reply_to k t g) = gives_bytes p h in
      cc

-- the stores of step 3
pub accepts : (l : Layout) (memory memory₁ memory₂ c d : List ℕ) (a b : ℕ)
    → token (key l memory) (challenge l memory) ≡ received l memory → a ≡ l.mr.lo → b ≡ l.ctr.lo
    → c ≡ bytes_at a 32 memory
    → d ≡ reply_to (key l memory) (received l memory) (attested l memory)
    → memory₁ ≡ sets memory (a + 64) d → memory₂ ≡ sets memory₁ b c → memory₂ ≡ accepted l memory
unfolding accepted due
accepts l memory memory₁ memory₂ c d a b g ea eb ec ed e₁ e₂ =
    cc (reply_to_is (key l memory) (challenge l memory) (received l memory) (attested l memory) g)

-- ---- the routine, by what steps 1 and 2 answered

module _ (l : Layout) (memory : List ℕ) where
  abbrev check : Answer
  check = request_check_in l memory

  abbrev pub Answered : List ℕ → Answer → Type 0
  Answered memory' r = (row r ≡ row check) × (memory' ≡ after_call check (accepted l memory) memory)

  pub genuine : done ≡ row check → token (key l memory) (challenge l memory) ≡ received l memory
  genuine e = (request_passed _ _ _ _ (sym (row_settled (Ok tt) check e))).1

  pub answered_done : {memory' : List ℕ} → done ≡ row check → memory' ≡ accepted l memory → Answered memory' (Ok tt)
  answered_done e m =
      let f : check ≡ Ok tt = sym (row_settled (Ok tt) check e) in
      (simp f, simp f m)

  pub answered_refused : {memory' : List ℕ} (q : Refusal) → refusal_row q ≡ row check → memory' ≡ memory
      → Answered memory' (Err q)
  answered_refused q e m =
      let f : check ≡ Err q = sym (row_settled (Err q) check e) in
      (simp f, simp f m)

-- ---- the call, by what the check that comes first answered

good_sized : (b : List ℕ) → layout_check b ≡ Ok tt → Sized (layout_of b)
unfolding layout_of
good_sized b e =
    let g = done_good b e in
    let o = g.ordered AR (omega arith) in
    record { key = g.key; mailbox = g.mailbox; counter = g.counter; region = omega arith }

module _ (memory layout : List ℕ) where
  pub admitted_sized : (l : Layout) → Admits memory layout (Ok tt) (Ok l)
      → (length memory ≡ memory_bytes) × Sized l
  admitted_sized l p =
      let g = admitted_good memory layout (Ok tt) l p in
      let q = call_passed memory layout (Ok tt) g.0 in
      (q.0, subst Sized (sym g.1) (good_sized layout q.1))

  pub attest_answered : (l : Layout) (memory' : List ℕ) (r : Answer) → Admits memory layout (Ok tt) (Ok l)
      → Answered l memory memory' r → Attests memory layout memory' r
  unfolding attest_check
  attest_answered l memory' r p d =
      let g = admitted_good memory layout (Ok tt) l p in
      let q = call_passed memory layout (Ok tt) g.0 in
      let f = rw g.1 at d in
      let c = call_rest memory layout (check (layout_of layout) memory) q.0 q.1 in
      record { answered = rw c f.0; memory_left = rw c f.1 }

  pub attest_refused : (q : Refusal) → Admits memory layout (Ok tt) (Err q)
      → Attests memory layout memory (Err q)
  unfolding attest_check
  attest_refused q p =
      let c = call_refused memory layout (check (layout_of layout) memory) q (admitted_refused memory layout (Ok tt) q p) in
      record { answered = rw c; memory_left = rw c }

pub given_reply : {d e : List ℕ} (r : Result (List ℕ) Refusal) → r ≡ Ok e → r ≡ Ok d → d ≡ e
given_reply {d} {e} r p q = let z : ◌≡◌ {A = Result (List ℕ) Refusal} (Ok d) (Ok e) = sym q ∙ p in cc
