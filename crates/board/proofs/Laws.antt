-- What attestation reads and what an accepted call leaves, for readers and for the crates above. Assumes nothing.
use mathlib.Core.Path.{◌≡◌, refl, sym, ◌∙◌}
use mathlib.Core.Logic.{inl, inr}
use mathlib.Core.Bool.{true, false}
use mathlib.Core.List.{List}
use Prim.Native.Nat.{ℕ, ◌+◌, ◌≤◌}
use native.Mathlib.Omega.{arith}
use lib.ListN.{length, get_or, length-take, length-drop}
use lib.Seq.{sets, length-sets}
use Rattle.notions.specs.Bytes.{Bytes}
use Rattle.refusal.specs.Numbers.{number}
use Rattle.refusal.proofs.Settled.{row_settled}
use Rattle.refusal.specs.declared.Refusal.{Refusal}
use Rattle.notions.proofs.Bytes.{bytes_sets}
use Rattle.notions.proofs.Tests.{neither}
use Rattle.refusal.proofs.Order.{Refuses}
use Rattle.layout.specs.declared.Region.{Region}
use Rattle.layout.specs.declared.Layout.{Layout}
use Rattle.layout.specs.Regions.{within, size}
use Rattle.layout.specs.Layouts.{layout_of, layout_check}
use Rattle.layout.specs.Calls.{memory_bytes}
use Rattle.layout.proofs.Laws.{ends_within, outside_ends}
use Rattle.layout.proofs.Calls.{call_passed, call_rest, call_numbers}
use Rattle.layout.proofs.Placed.{Placed}
use Rattle.routine.specs.Strings.{greater}
use Rattle.routine.specs.Routine.{token, reply}
use Rattle.routine.proofs.Laws.{length_reply, request_passed, request_passes, bytes_reply, request_numbers}
use Rattle.board.specs.Memory.{bytes_at, bytes_of, key, counter, attested, challenge, received, reply_at, replied}
use Rattle.board.specs.Attestation.{attest_check, Listed, due, accepted, stores_to}
use Rattle.board.specs.Promises.{Attests}
use Rattle.board.proofs.Stores.{bytes_agree, stored_there, stored_off, stored_apart, bytes_read}
use Rattle.std.specs.Prelude.{Err, Ok}

-- ---- what is read

pub length_bytes_lem : (a n : ℕ) (memory : List ℕ) → a + n ≤ length memory → length (bytes_at a n memory) ≡ n
length_bytes_lem a n memory h = simp (length-take, length-drop) (omega arith)

-- memories of one length that agree at each address of a region have the same bytes there
pub region_agrees : (r : Region) (x y : List ℕ) → length x ≡ length y
    → ((a : ℕ) → within r a ≡ true → get_or x a 0 ≡ get_or y a 0)
    → bytes_of r x ≡ bytes_of r y
region_agrees r x y e f =
    bytes_agree x y r.lo (size r) e (λ i h. f (r.lo + i) (ends_within r (r.lo + i) (omega arith) (omega arith)))

pub due_is : (l : Layout) (memory : List ℕ)
    → due l memory ≡ reply (key l memory) (challenge l memory) (attested l memory)
unfolding due
due_is l memory = refl

pub bytes_due : (l : Layout) (memory : List ℕ) → Bytes (due l memory)
unfolding due
bytes_due l memory = bytes_reply _ _ _

pub length_due : (l : Layout) (memory : List ℕ) → length (due l memory) ≡ 32
unfolding due
length_due l memory = length_reply _ _ _

module _ (l : Layout) (p : Placed l) (memory : List ℕ) (long : length memory ≡ memory_bytes) where
  pub length_key : length (key l memory) ≡ 64
  length_key =
      let s = p.key in
      length_bytes_lem l.kr.lo (size l.kr) memory (omega (arith, p.key_in)) ∙ s

  pub length_challenge : length (challenge l memory) ≡ 32
  length_challenge = length_bytes_lem l.mr.lo 32 memory (omega (arith, p.mail_in))

  pub length_attested : length (attested l memory) ≡ size l.ar
  length_attested = length_bytes_lem l.ar.lo (size l.ar) memory (omega (arith, p.region_in))

  -- ---- what an accepted call leaves

  pub length_accepted : length (accepted l memory) ≡ length memory
  unfolding accepted
  length_accepted = length-sets _ l.ctr.lo (challenge l memory) ∙ length-sets memory (reply_at l) (due l memory)

  abbrev first : List ℕ
  first = sets memory (reply_at l) (due l memory)

  pub accepted_counter : counter l (accepted l memory) ≡ challenge l memory
  unfolding accepted
  accepted_counter =
      stored_there first l.ctr.lo (size l.ctr) (challenge l memory) (length_challenge ∙ sym p.counter)
      (omega (arith, length-sets memory (reply_at l) (due l memory), p.counter, p.counter_in))

  pub accepted_reply : replied l (accepted l memory) ≡ due l memory
  unfolding accepted
  accepted_reply =
      let n = length_challenge in
      stored_apart first l.ctr.lo (challenge l memory) (reply_at l) 32
      (elim p.apart [ inl h ↦ inl (omega arith) | inr h ↦ inr (omega arith) ])
      ∙ stored_there memory (reply_at l) 32 (due l memory) (length_due l memory) (omega (arith, p.mail_in))

  pub accepted_else : (a : ℕ) → stores_to l a ≡ false → get_or (accepted l memory) a 0 ≡ get_or memory a 0
  unfolding accepted
  accepted_else a e =
      let r : Region = record { lo = reply_at l; hi = reply_at l + 31 } in
      let o = neither (within r a) (within l.ctr a) e in
      let n = length_challenge in
      let d = length_due l memory in
      let s = p.counter in
      stored_off first l.ctr.lo (challenge l memory) a
      (elim (outside_ends l.ctr a o.1) [ inl h ↦ inl (omega arith) | inr h ↦ inr (omega arith) ])
      ∙ stored_off memory (reply_at l) (due l memory) a
      (elim (outside_ends r a o.0) [ inl h ↦ inl (omega arith) | inr h ↦ inr (omega arith) ])

pub bytes_accepted : (l : Layout) (memory : List ℕ) → Bytes memory → Bytes (accepted l memory)
unfolding accepted due
bytes_accepted l memory p =
    bytes_sets _ l.ctr.lo (challenge l memory)
    (bytes_sets memory (reply_at l) (due l memory) p (bytes_reply _ _ _))
    (bytes_read memory l.mr.lo 32 p)

-- ---- which calls are accepted

-- the memory's length, the layout, and steps 1 and 2
pub record Allowed (memory layout : List ℕ) : Type 0 where
  pub long : length memory ≡ memory_bytes
  pub laid : layout_check layout ≡ Ok tt
  pub fresh : greater (challenge (layout_of layout) memory) (counter (layout_of layout) memory) ≡ true
  pub genuine : token (key (layout_of layout) memory) (challenge (layout_of layout) memory) ≡ received
      (layout_of layout) memory

pub done_allowed : (memory layout : List ℕ) → attest_check memory layout ≡ Ok tt → Allowed memory layout
unfolding attest_check
done_allowed memory layout e =
    let p = call_passed memory layout _ e in
    let q = request_passed _ _ _ _ p.2 in
    record { long = p.0; laid = p.1; fresh = q.0; genuine = q.1 }

pub allowed_done : (memory layout : List ℕ) → Allowed memory layout → attest_check memory layout ≡ Ok tt
unfolding attest_check
allowed_done memory layout a = call_rest memory layout _ a.long a.laid
    ∙ request_passes _ _ _ _ a.fresh a.genuine

-- the others are refused with 1 to 6, 10 or 11
pub attest_numbers : (memory layout : List ℕ) → Refuses Listed (attest_check memory layout)
unfolding attest_check
attest_numbers memory layout =
    call_numbers Listed memory layout _ (λ n p q. inl (p, q)) (λ r e. inr (request_numbers _ _ _ _ r e))

-- ---- a call by its answer

pub attested_done : (memory layout memory' : List ℕ) → Attests memory layout memory' (Ok tt)
    → Allowed memory layout × (memory' ≡ accepted (layout_of layout) memory)
attested_done memory layout memory' p =
    let e : attest_check memory layout ≡ Ok tt = sym (row_settled (Ok tt) (attest_check memory layout) p.answered) in
    (done_allowed memory layout e, p.memory_left ∙ simp e)

pub attested_refused : (memory layout memory' : List ℕ) (q : Refusal) → Attests memory layout memory' (Err q)
    → Listed (number q.reason) × (memory' ≡ memory)
attested_refused memory layout memory' q p =
    let e : attest_check memory layout ≡ Err q =
    sym (row_settled (Err q) (attest_check memory layout) p.answered) in
    (attest_numbers memory layout q e, p.memory_left ∙ simp e)
