-- The laws of the hash, for readers and for the crates above. Assumes nothing.
use mathlib.Core.Path.{◌≡◌, refl, ap, subst, ◌∙◌}
use mathlib.Core.Bool.{Bool, true, false}
use mathlib.Core.List.{List, ◌++◌}
use Prim.Native.Nat.{ℕ, ◌+◌, ◌^◌, ◌≤◌}
use native.Mathlib.Omega.{arith}
use borrow.Author.Tests.{le-ltb, lt-leb}
use lib.ListN.{length, length-append}
use Rattle.refusal.specs.Answers.{row, done}
use Rattle.sha256_block.specs.Constants.{H}
use Rattle.sha256_block.specs.Block.{whole, rest}
use Rattle.sha256.specs.declared.Sha.{Sha}
use Rattle.sha256.specs.declared.Taken.{Taken}
use Rattle.std.specs.Prelude.{Result, Ok}
use Rattle.refusal.specs.declared.Refusal.{Refusal}
use Rattle.sha256_digest.specs.Hash.{padding, out, sha256}
use Rattle.sha256_digest.specs.Promises.{Digests, DigestsFrom}
use Rattle.sha256_digest.proofs.Laws.{hashed}
use Rattle.sha256.specs.Running.{filled, started, taken, digest}
use Rattle.sha256.specs.Promises.{limit, over, Gives, Starts, TakesIn, Finishes, Hashes}
use Rattle.sha256.proofs.Settled.{gives_settled, takes_in_settled}
use Rattle.sha256.proofs.Running.{filled_taken, taken_twice}

-- ---- the definitions

pub started_total : started.total ≡ 0
unfolding started
started_total = refl

pub taken_total : (s : Sha) (x : List ℕ) → (taken s x).total ≡ s.total + length x
unfolding taken
taken_total s x = refl

pub length_started : length started.block ≡ 64
unfolding started
length_started = refl

words_started : (m : List ℕ) → (taken started m).words ≡ whole H m
unfolding taken started
words_started m = refl

filled_started : (m : List ℕ) → filled (taken started m) ≡ rest m
unfolding started
filled_started m = filled_taken started length_started m

-- start, take m in, finish: the standard's hash of m
pub digest_taken : (m : List ℕ) → digest (taken started m) ≡ sha256 m
unfolding digest
digest_taken m =
    let s : Sha = taken started m in
    let n : s.total ≡ length m = omega (arith, taken_total started m, started_total) in
    let e : filled s ++ padding s.total ≡ rest m ++ padding (length m) = cc (filled_started m) in
    hashed m s.words (digest s) (words_started m) (ap (λ (y : List ℕ). out (whole s.words y) 8) e)

-- ---- the promises, where nothing is refused

pub over_not : (n : ℕ) → n ≤ limit → over n ≡ false
over_not n h = le-ltb limit n h

-- what `hash` takes is far below what the standard takes
pub within_standard : (m : List ℕ) {r : List ℕ} → Digests m r → length m ≤ limit → r ≡ sha256 m
within_standard m p h = rw (lt-leb (2 ^ 61) (length m) (omega (arith, h))) at p

pub digested : (s : Sha) {r : List ℕ} → DigestsFrom s.words s.block s.total r → s.total ≤ limit → r ≡ digest s
unfolding digest
digested s p h = rw (lt-leb (2 ^ 61) s.total (omega (arith, h))) at p

pub gives_bytes : {t : Bool} {b : List ℕ} {r : Result (List ℕ) Refusal} → Gives t b r → t ≡ false → r ≡ Ok b
gives_bytes p e = rw e at p

-- bytes that were given
pub gives_ok : (t : Bool) (b : List ℕ) {o : List ℕ} → Gives t b (Ok o) → (t ≡ false) × (o ≡ b)
gives_ok true b p = absurd (cc)
gives_ok false b p = (refl, cc)

module _ {s : Sha} {x : List ℕ} {r : Taken} (p : TakesIn s x r) (h : s.total + length x ≤ limit) where
  pub takes_in_state : r.state ≡ taken s x
  takes_in_state = rw (over_not (s.total + length x) h) at p.handed

  takes_in_row : row r.answer ≡ done
  takes_in_row = rw (over_not (s.total + length x) h) at p.answered

-- taking a in and then b is taking a ++ b in
pub takes_in_twice : {s : Sha} {a b : List ℕ} {r q u : Taken} → length s.block ≡ 64
    → s.total + length (a ++ b) ≤ limit
    → TakesIn s a r → TakesIn r.state b q → TakesIn s (a ++ b) u → q ≡ u
takes_in_twice {s} {a} {b} {r} {q} {u} el h p p' z =
    let l : length (a ++ b) ≡ length a + length b = length-append a b in
    let g : TakesIn (taken s a) b q = subst (λ (t : Sha). TakesIn t b q) (takes_in_state p (omega arith)) p' in
    let n : (taken s a).total + length b ≤ limit = omega (arith, taken_total s a) in
    let o : over (s.total + length (a ++ b)) ≡ false = over_not (s.total + length (a ++ b)) h in
    takes_in_settled q u
    (record { answered = rw o (takes_in_row g n); handed = rw o (takes_in_state g n ∙ taken_twice s a b el) })
    z

-- start, take m in, finish: what `hash` answers
pub hashes_running : {m : List ℕ} {s : Sha} {r : Taken} {d e : Result (List ℕ) Refusal} → length m ≤ limit
    → Starts s → TakesIn s m r → Finishes r.state d → Hashes m e → d ≡ e
hashes_running {m} {s} {r} {d} {e} h p q f z =
    let z₀ : s.total ≡ 0 = ap (λ (t : Sha). t.total) p ∙ started_total in
    let es : r.state ≡ taken started m = takes_in_state q (omega arith) ∙ ap (λ (t : Sha). taken t m) p in
    let en : r.state.total ≡ length m = omega
    (arith, ap (λ (t : Sha). t.total) es ∙ taken_total started m, started_total) in
    let ed : digest r.state ≡ sha256 m = ap digest es ∙ digest_taken m in
    gives_settled _ _ d e (subst (λ (b : List ℕ). Gives (over (length m)) b d) ed
    (subst (λ (n : ℕ). Gives (over n) (digest r.state) d) en f)) z
