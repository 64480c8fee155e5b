-- The promises settle the answer, the place and what the reader holds. Assumes nothing.
use Rattle.std.specs.Prelude.{◌≡◌, refl, List, ℕ, Some, None, Ok, Err}
use Rattle.std.proofs.Common.{ap, sym, ◌∙◌}
use Rattle.std.specs.Borrow.{Bor}
use Rattle.refusal.proofs.Settled.{refusal_settled}
use Rattle.notions.proofs.Settled.{flag_settled}
use Rattle.steps.specs.declared.Step.{Step}
use Rattle.reader.specs.declared.Advance.{Advance}
use Rattle.reader.specs.declared.StepReader.{StepReader}
use Rattle.reader.specs.Reading.{Read, step_values, read_row}
use Rattle.reader.specs.Promises.{ReadsAt, Advances, Begins, Reads}

-- ---- a row settles what is read

step_settled : (s t : Step) → step_values s ≡ step_values t → s ≡ t
step_settled s t e =
    let pc : s.pc ≡ t.pc = cc in
    let cpuaddress : s.cpuaddress ≡ t.cpuaddress = cc in
    let dmaaddress : s.dmaaddress ≡ t.dmaaddress = cc in
    let cpureads = flag_settled s.cpureads t.cpureads (cc) in
    let cpuwrites = flag_settled s.cpuwrites t.cpuwrites (cc) in
    let interrupt = flag_settled s.interrupt t.interrupt (cc) in
    let dmaactive = flag_settled s.dmaactive t.dmaactive (cc) in
    let dmawrites = flag_settled s.dmawrites t.dmawrites (cc) in
    let cpudata : s.cpudata ≡ t.cpudata = cc in
    let dmadata : s.dmadata ≡ t.dmadata = cc in
    λ i. record {
      pc = pc i;
      cpuaddress = cpuaddress i;
      dmaaddress = dmaaddress i;
      cpureads = cpureads i;
      cpuwrites = cpuwrites i;
      interrupt = interrupt i;
      dmaactive = dmaactive i;
      dmawrites = dmawrites i;
      cpudata = cpudata i;
      dmadata = dmadata i;
    }

pub read_row_settled : (r q : Read) → read_row r ≡ read_row q → r ≡ q
read_row_settled (Ok (Some s)) (Ok (Some t)) e = ap (λ (x : Step). Ok (Some x)) (step_settled s t (cc))
read_row_settled (Ok (Some s)) (Ok None) e = absurd (cc)
read_row_settled (Ok (Some s)) (Err q) e = absurd (cc)
read_row_settled (Ok None) (Ok (Some t)) e = absurd (cc)
read_row_settled (Ok None) (Ok None) e = refl
read_row_settled (Ok None) (Err q) e = absurd (cc)
read_row_settled (Err r) (Ok (Some t)) e = absurd (cc)
read_row_settled (Err r) (Ok None) e = absurd (cc)
read_row_settled (Err r) (Err q) e = ap Err (refusal_settled r q e)

-- ---- two outcomes that meet the promise for the same inputs are equal

pub reads_at_settled : (trace : List ℕ) (place : ℕ) (r q : Read) → ReadsAt trace place r → ReadsAt trace place q → r ≡ q
reads_at_settled trace place r q p p' = read_row_settled r q (p.answered ∙ sym p'.answered)

pub advances_settled : (trace : List ℕ) (place : ℕ) (r q : Advance) → Advances trace place r → Advances trace place q
    → r ≡ q
advances_settled trace place r q p p' =
    let read = read_row_settled r.read q.read (p.answered ∙ sym p'.answered) in
    let place = p.moved ∙ sym p'.moved in
    λ i. record { read = read i; place = place i }

pub begins_settled : (trace : Bor (List ℕ)) (r q : StepReader) → Begins trace r → Begins trace q → r ≡ q
begins_settled trace r q p p' =
    let held = p.holds ∙ sym p'.holds in
    let place = p.at_first ∙ sym p'.at_first in
    λ i. record { trace = held i; place = place i }

pub reads_settled : (h h₁ h₂ : StepReader) (r q : Read) → Reads h h₁ r → Reads h h₂ q → (r ≡ q) × (h₁ ≡ h₂)
reads_settled h h₁ h₂ r q p p' =
    let a = advances_settled _ _ _ _ p.advanced p'.advanced in
    let held = p.holds ∙ sym p'.holds in
    (ap (λ (x : Advance). x.read) a, λ i. record { trace = held i; place = (a i).place })
