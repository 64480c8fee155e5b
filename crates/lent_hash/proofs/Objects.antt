-- What a caller finds in an object that it lends. Assumes nothing.
use mathlib.Core.Path.{◌≡◌, refl, sym, ap, ◌∙◌}
use mathlib.Core.Bool.{Bool, true, false}
use mathlib.Core.List.{List, [], ◌++◌}
use Prim.Native.Nat.{ℕ, zero, suc, ◌+◌, ◌-◌, ◌%◌, ◌≤◌}
use native.Mathlib.Omega.{arith}
use lib.ListN.{length, drop, replicate, length-append}
use lib.Seq.{drop_at}
use Rattle.notions.specs.Choice.{pick}
use Rattle.refusal.specs.Answers.{Answer, row, done, refused_at, refused_if}
use Rattle.refusal.specs.declared.Reason.TheVariants.{LengthOrTotal}
use Rattle.sha256.specs.declared.Sha.{Sha}
use Rattle.sha256.specs.Promises.{limit, over}
use Rattle.sha256_block.specs.Block.{rest}
use Rattle.sha256_block.proofs.Rest.{length_rest}
use Rattle.sha256.specs.Running.{started, taken, filled}
use Rattle.sha256.proofs.Running.{length_filled, block_short, taken_within, taken_twice}
use Rattle.sha256.proofs.Laws.{started_total, taken_total, length_started, over_not, takes_in_state, hashes_running}
use Rattle.lent_hash.specs.Objects as claim
use Rattle.lent_hash.specs.Objects.{Fed, joined}
use Rattle.std.specs.Prelude.{Err, Ok}

-- ---- one call

-- which of the two the test picked is told by the answer's row
not_refused : (t : Bool) (s s' z : Sha) → row (Ok tt) ≡ refused_if t LengthOrTotal → s' ≡ pick t s z → s' ≡ z
not_refused true s s' z e h = absurd (cc)
not_refused false s s' z e h = h

is_refused : (t : Bool) (s s' z : Sha) (a : List ℕ) → a ≡ refused_if t LengthOrTotal → (a ≡ done → ⊥) → s' ≡ pick t s z
    → s' ≡ s
is_refused true s s' z a e n h = h
is_refused false s s' z a e n h = absurd (n e)

taken_tail : (s : Sha) (x : List ℕ) → length s.block ≡ 64
    → drop ((taken s x).total % 64) (taken s x).block ≡ replicate (64 - (taken s x).total % 64) 0
unfolding taken
taken_tail s x el =
    let y : List ℕ = filled s ++ x in
    let l : length (rest y) ≡ (s.total + length x) % 64 =
    omega (arith, length_rest y, length-append (filled s) x, length_filled s el) in
    ap (λ (b : List ℕ). drop ((s.total + length x) % 64) b) (block_short (rest y) (omega arith))
    ∙ drop_at (rest y) (replicate (64 - length (rest y)) 0) ((s.total + length x) % 64) l
    ∙ ap (λ (n : ℕ). replicate (64 - n) 0) l

pub tail_is_zero : claim.TailIsZero
tail_is_zero s x s' el p =
    let e : s' ≡ taken s x = not_refused (over (s.total + length x)) s s' (taken s x) p.answered p.handed in
    ap (λ (z : Sha). drop (z.total % 64) z.block) e ∙ taken_tail s x el
    ∙ ap (λ (z : Sha). replicate (64 - z.total % 64) 0) (sym e)

pub refused_is_kept : claim.RefusedIsKept
refused_is_kept s x s' r p =
    is_refused (over (s.total + length x)) s s' (taken s x) (row (Err r)) p.answered
    (λ e. absurd (cc)) p.handed

-- ---- a message in parts

-- the object before part k, and the answer
objects_of : (ℕ → List ℕ) → ℕ → Sha
objects_of parts zero = started
objects_of parts (suc k) =
    let s = objects_of parts k in
    pick (over (s.total + length (parts k))) s (taken s (parts k))

abbrev answer_of : Bool → Answer
answer_of t = pick t (refused_at LengthOrTotal 0) (Ok tt)

answer_row : (t : Bool) → row (answer_of t) ≡ refused_if t LengthOrTotal
answer_row true = refl
answer_row false = refl

pub can_be_fed : claim.CanBeFed
unfolding objects_of
can_be_fed parts n = (
  objects_of parts,
  λ k. answer_of (over ((objects_of parts k).total + length (parts k))),
  record {
    begins = refl;
    goes_on = λ k h. record
        { answered = answer_row (over ((objects_of parts k).total + length (parts k))); handed = refl };
  },
)

taken_none : taken started [] ≡ started
unfolding started
taken_none = sym (taken_within started length_started [] (replicate 64 0) (omega arith) refl)

module _ (parts : ℕ → List ℕ) where
  length_joined : (k : ℕ) → length (joined parts (suc k)) ≡ length (joined parts k) + length (parts k)
  unfolding joined
  length_joined k = length-append (joined parts k) (parts k)

  module _ (n : ℕ) (objects : ℕ → Sha) (answers : ℕ → Answer) (f : Fed parts n objects answers) where
    fed : (k : ℕ) → k ≤ n → length (joined parts k) ≤ limit → objects k ≡ taken started (joined parts k)
    unfolding joined
    fed zero l h = f.begins ∙ sym taken_none
    fed (suc k) l h =
        let j : length (joined parts (suc k)) ≡ length (joined parts k) + length (parts k) = length_joined k in
        let e : objects k ≡ taken started (joined parts k) = fed k (omega arith) (omega arith) in
        let t : (objects k).total ≡ length (joined parts k) =
        omega (arith, ap (λ (s : Sha). s.total) e, taken_total started (joined parts k), started_total) in
        takes_in_state (f.goes_on k (omega arith)) (omega arith)
        ∙ ap (λ (s : Sha). taken s (parts k)) e
        ∙ taken_twice started (joined parts k) (parts k) length_started

pub hashes_in_parts : claim.HashesInParts
hashes_in_parts parts n objects answers d e f h p q =
    let m : List ℕ = joined parts n in
    let o : over (started.total + length m) ≡ false =
    over_not (started.total + length m) (omega (arith, started_total)) in
    hashes_running {m = m} {s = started} {r = record { answer = Ok tt; state = objects n }} h refl
    (record { answered = rw o refl; handed = rw o (fed parts n objects answers f n (omega arith) h) }) p q
