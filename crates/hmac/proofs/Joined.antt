-- The hash of a block and a message joined, by the running hash. Assumes nothing.
use mathlib.Core.Path.{◌≡◌, ap, ◌∙◌}
use mathlib.Core.List.{List, ◌++◌}
use Prim.Native.Nat.{ℕ, ◌≤◌}
use native.Mathlib.Omega.{arith}
use lib.ListN.{length}
use Rattle.sha256.specs.declared.Sha.{Sha}
use Rattle.sha256.specs.declared.Taken.{Taken}
use Rattle.refusal.specs.declared.Refusal.{Refusal}
use Rattle.std.specs.Prelude.{Result, Ok}
use Rattle.sha256_digest.specs.Hash.{sha256}
use Rattle.sha256.specs.Running.{started, taken, digest}
use Rattle.sha256.specs.Promises.{limit, Starts, TakesIn, Finishes}
use Rattle.sha256.proofs.Running.{taken_twice}
use Rattle.hmac.specs.Promises.{most}
use Rattle.sha256.proofs.Laws.{started_total, taken_total, length_started, digest_taken, over_not, gives_bytes}
use Rattle.sha256.proofs.Laws.{takes_in_state}

pub joined : (b m : List ℕ) (s : Sha) (r q : Taken) (d : Result (List ℕ) Refusal) → length b ≡ 64 → length m ≤ most
    → Starts s → TakesIn s b r → TakesIn r.state m q → Finishes q.state d → d ≡ Ok (sha256 (b ++ m))
joined b m s r q d lb lm es pr pq pd =
    let z : s.total ≡ 0 = ap (λ (t : Sha). t.total) es ∙ started_total in
    let er : r.state ≡ taken started b = takes_in_state pr (omega arith) ∙ ap (λ (t : Sha). taken t b) es in
    let tr : r.state.total ≡ 64 = omega (
      arith,
      ap (λ (t : Sha). t.total) er
          ∙ taken_total started b,
      started_total,
    ) in
    let eq : q.state ≡ taken r.state m = takes_in_state pq (omega arith) in
    let tq : q.state.total ≤ limit = omega (arith, ap (λ (t : Sha). t.total) eq ∙ taken_total r.state m) in
    gives_bytes pd (over_not q.state.total tq)
    ∙ ap Ok (ap digest (eq ∙ ap (λ (t : Sha). taken t m) er ∙ taken_twice started b m length_started)
    ∙ digest_taken (b ++ m))
