-- What a call that is not refused has told. Assumes nothing.
use mathlib.Core.Path.{◌≡◌, refl, ap, sym}
use Prim.Native.Nat.{ℕ}
use native.Mathlib.Omega.{arith}
use lib.ListN.{length}
use Rattle.refusal.specs.Answers.{Answer, told}
use Rattle.refusal.proofs.Settled.{refusal_settled}
use Rattle.refusal.specs.declared.Refusal.{Refusal}
use Rattle.rules.specs.declared.Monitor.{Monitor}
use Rattle.monitor.specs.declared.Totals.{Totals}
use Rattle.monitor.specs.Promises.{totals_values, traced_row, remembered, stepped_row}
use Rattle.monitor.proofs.Settled.{monitor_settled, traced_row_settled}
use Rattle.std.specs.Prelude.{Err, Ok}

pub traced_judged : (a : Answer) (t u : Totals) → traced_row (Ok t) ≡ told a (totals_values u) → (a ≡ Ok tt)
    × (t ≡ u)
traced_judged (Ok _) t u e = (refl, cc (traced_row_settled (Ok t) (Ok u) e))
traced_judged (Err f) t u e = absurd (cc)

pub traced_refused : (a : Answer) (q : Refusal) (u : Totals) → traced_row (Err q) ≡ told a (totals_values u)
    → a ≡ Err q
traced_refused (Ok _) q u e = absurd (let z : ◌≡◌ {A = ℕ} 2 3 = ap length e in omega arith)
traced_refused (Err f) q u e = ap Err (refusal_settled f q (sym e))

pub stepped_judged : (a : Answer) (m n : Monitor) → stepped_row (Ok m) ≡ told a (remembered n) → (a ≡ Ok tt)
    × (m ≡ n)
stepped_judged (Ok _) m n e = (refl, monitor_settled m n (cc))
stepped_judged (Err f) m n e = absurd (cc)
