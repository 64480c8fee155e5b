-- The promises settle the answer and every lent byte. Assumes nothing.
use Rattle.std.specs.Prelude.{◌≡◌, Bool, List, ℕ, Err, Ok, Result}
use Rattle.std.proofs.Common.{ap, sym, ◌∙◌}
use Rattle.refusal.proofs.Settled.{refusal_settled}
use Rattle.notions.proofs.Settled.{flag_settled}
use Rattle.layout.specs.declared.Layout.{Layout}
use Rattle.rules.specs.declared.Monitor.{Monitor}
use Rattle.monitor.specs.Promises.{remembered, traced_row, stepped_row, Traces, Steps, Runs}
use Rattle.refusal.specs.declared.Refusal.{Refusal}
use Rattle.monitor.specs.declared.Totals.{Totals}

-- ---- an answer's row settles the answer

pub traced_row_settled : (r q : Result Totals Refusal) → traced_row r ≡ traced_row q → r ≡ q
traced_row_settled (Ok t) (Ok u) e =
    let n : t.steps ≡ u.steps = cc in
    let k : t.resets ≡ u.resets = cc in
    ap (λ (x : ℕ). Ok (record { steps = x; resets = t.resets })) n
    ∙ ap (λ (x : ℕ). Ok (record { steps = u.steps; resets = x })) k
traced_row_settled (Ok t) (Err s) e = absurd (cc)
traced_row_settled (Err r) (Ok u) e = absurd (cc)
traced_row_settled (Err r) (Err s) e = ap Err (refusal_settled r s e)

pub monitor_settled : (m n : Monitor) → remembered m ≡ remembered n → m ≡ n
monitor_settled m n e =
    let h : m.held ≡ n.held = flag_settled m.held n.held (cc) in
    let k : m.lastpc ≡ n.lastpc = cc in
    ap (λ (x : Bool). record { held = x; lastpc = m.lastpc }) h
    ∙ ap (λ (x : ℕ). record { held = n.held; lastpc = x }) k

pub stepped_row_settled : (r q : Result Monitor Refusal) → stepped_row r ≡ stepped_row q → r ≡ q
stepped_row_settled (Ok m) (Ok n) e = ap Ok (monitor_settled m n (cc))
stepped_row_settled (Ok m) (Err s) e = absurd (cc)
stepped_row_settled (Err r) (Ok n) e = absurd (cc)
stepped_row_settled (Err r) (Err s) e = ap Err (refusal_settled r s e)

-- ---- two results that meet the promise for the same inputs are equal

pub traces_settled : (memory layout trace room memory₁ room₁ memory₂ room₂ : List ℕ) (r q : Result Totals Refusal)
    → Traces memory layout trace room memory₁ room₁ r → Traces memory layout trace room memory₂ room₂ q
    → (r ≡ q) × (memory₁ ≡ memory₂) × (room₁ ≡ room₂)
traces_settled memory layout trace room memory₁ room₁ memory₂ room₂ r q p p' = (
  traced_row_settled r q (p.answered ∙ sym p'.answered),
  p.memory_left ∙ sym p'.memory_left,
  p.room_left ∙ sym p'.room_left,
)

pub steps_settled : (memory layout step : List ℕ) (m : Monitor) (room memory₁ room₁ memory₂ room₂ : List ℕ)
    (r q : Result Monitor Refusal)
    → Steps memory layout step m room memory₁ room₁ r → Steps memory layout step m room memory₂ room₂ q
    → (r ≡ q) × (memory₁ ≡ memory₂) × (room₁ ≡ room₂)
steps_settled memory layout step m room memory₁ room₁ memory₂ room₂ r q p p' = (
  stepped_row_settled r q (p.answered ∙ sym p'.answered),
  p.memory_left ∙ sym p'.memory_left,
  p.room_left ∙ sym p'.room_left,
)

pub runs_settled : (l : Layout) (trace memory room memory₁ room₁ memory₂ room₂ : List ℕ) (r q : Result Totals Refusal)
    → Runs l trace memory room memory₁ room₁ r → Runs l trace memory room memory₂ room₂ q
    → (r ≡ q) × (memory₁ ≡ memory₂) × (room₁ ≡ room₂)
runs_settled l trace memory room memory₁ room₁ memory₂ room₂ r q p p' = (
  traced_row_settled r q (p.answered ∙ sym p'.answered),
  p.memory_left ∙ sym p'.memory_left,
  p.room_left ∙ sym p'.room_left,
)
