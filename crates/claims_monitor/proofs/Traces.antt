-- The claims about every trace hold. Assumes nothing.
use mathlib.Core.Path.{◌≡◌, refl, sym, ap, subst, ◌∙◌}
use mathlib.Core.Logic.{◌≢◌, inl, inr}
use mathlib.Core.Bool.{Bool, true, false, not, ◌&&◌, or-true, and-false, and-true}
use mathlib.Core.List.{List, ◌++◌}
use Prim.Native.Nat.{ℕ, zero, suc, ◌+◌, ◌*◌, ◌≤◌, ◌<◌}
use native.Mathlib.Nat.{add-zero, add-suc, not-suc-le-zero}
use native.Mathlib.Omega.{arith}
use lib.Dec.{eqb}
use lib.ListN.{length, get_or, set, take, drop, length-set, length-drop}
use lib.Seq.{take-append-le, drop-append-le, drop-append-add, get_or-set_same, get_or-set_other}
use borrow.Author.Tests.{eqb-true, eqb-false, eq-eqb, ne_eqb, not-true, not-false}
use Rattle.notions.specs.Choice.{pick}
use Rattle.notions.specs.First.{first}
use Rattle.refusal.specs.Answers.{Answer, told, after_call}
use Rattle.notions.proofs.Tests.{cases, clash, both}
use Rattle.layout.specs.declared.Layout.{Layout}
use Rattle.layout.specs.Layouts.{XS, MR, CTR, AR, layout_of, layout_check}
use Rattle.layout.specs.Good.{Good}
use Rattle.layout.specs.Calls.{memory_bytes, call_check}
use Rattle.layout.proofs.Laws.{elsewhere}
use Rattle.layout.proofs.Calls.{call_passed, call_rest}
use Rattle.layout.specs.Regions.{within, outside}
use Rattle.steps.specs.declared.Step.{Step}
use Rattle.rules.specs.declared.Monitor.{Monitor}
use Rattle.steps.specs.Steps.{bit, step_of}
use Rattle.rules.specs.Rules.{writable, cause}
use Rattle.monitor.specs.Decisions.{resets, next, decided_answer, decided_memory}
use Rattle.rules.proofs.Laws.{held_away, rule_6}
use Rattle.monitor.proofs.Decisions.{reset_cause, passes_cause, passes_only, inside_unheld}
use Rattle.monitor.specs.declared.Totals.{Totals}
use Rattle.effects.specs.Effects.{cpu_exposed, dma_exposed, exposing, answer, bytes, lands, stored, storing, written}
use Rattle.monitor.specs.Runs.{State, begin, turn, before, said, resetting}
use Rattle.traces.specs.Traces.{step_size, answer_size, count, step_bytes, steps}
use Rattle.monitor.specs.Runs.{totals}
use Rattle.monitor.proofs.Settled.{stepped_row_settled}
use Rattle.effects.proofs.Laws.{written_byte}
use Rattle.monitor.proofs.Laws.{length_before, answer_at_lem}
use Rattle.monitor.proofs.Checks.{traced_judged, stepped_judged}
use Rattle.traces.proofs.Checks.{Fitting, trace_passed, one_step, one_passes}
use Rattle.traces.specs.Traces.{trace_check, step_check}
use Rattle.monitor.specs.Promises.{step_call_check, remembered, stepped_row, Traces}
use Rattle.claims_monitor.specs.Traces as claim
use Rattle.claims_monitor.specs.Traces.{cr_or_kr, ctr_or_xs, remembers, cause_at, resets_at, byte_at}
use Rattle.claims_monitor.proofs.Runs.{in_parts}
use Rattle.claims_monitor.proofs.Exposed.{cpu_outside, dma_outside}
use Rattle.std.specs.Prelude.{Err, Ok, Result}
use Rattle.refusal.specs.declared.Refusal.{Refusal}

-- ---- memory

pub length_kept : claim.LengthKept
length_kept = length_before

-- what one access leaves at an address of the memory
module _ (l : Layout) (on : Bool) (a v : ℕ) (memory : List ℕ) (k : ℕ) (h : k < length memory) where
  set_here : (t : Bool) → get_or (pick t (set memory k v) memory) k 0 ≡ pick t v (get_or memory k 0)
  set_here true = get_or-set_same memory k v 0 h
  set_here false = refl

  set_elsewhere : (a ≡ k → ⊥) → (t : Bool) → get_or (pick t (set memory a v) memory) k 0 ≡ get_or memory k 0
  set_elsewhere n true = get_or-set_other memory a k v 0 (λ e. n (sym e))
  set_elsewhere n false = refl

  stored_at : get_or (stored l on a v memory) k 0
      ≡ pick (on && eqb a k && outside l.cr k && outside l.kr k) v (get_or memory k 0)
  unfolding stored
  stored_at =
      cases (eqb a k)
      (λ e. simp (eqb-true a k e, eq-eqb k k refl, and-true) (set_here (lands l on k)))
      (λ e. simp (e, and-false) (set_elsewhere (eqb-false a k e) (lands l on a)))

  length_stored : k < length (stored l on a v memory)
  unfolding stored
  length_stored = cases (lands l on a) (λ e. simp (e, length-set) h) (λ e. simp e h)

pub stored_byte : claim.StoredByte
unfolding before written storing
stored_byte l t x n a h =
    let s = t n in
    let memory = (before l t x n).memory in
    let i : a < length memory = rw (length_before l t x n) h in
    let c = stored_at l s.cpuwrites s.cpuaddress s.cpudata memory a i in
    let d =
    stored_at l (s.dmaactive && s.dmawrites) s.dmaaddress s.dmadata _ a
    (length_stored l s.cpuwrites s.cpuaddress s.cpudata memory a i) in
    cases (resets_at l t x n) (λ e. simp e) (λ e. simp e (d ∙ ap (pick (claim.dma_stores_at l s a) s.dmadata) c))

-- no store lands in CR or KR
pub barred : (l : Layout) (on : Bool) (a : ℕ) → cr_or_kr l a ≡ true → lands l on a ≡ false
barred l on a e =
    cases (within l.cr a) (λ c. simp (c, and-false))
    (λ c. let k : within l.kr a ≡ true = simp c at e in simp (k, and-false))

step_rom : (l : Layout) (m : Monitor) (s : Step) (memory : List ℕ) (a : ℕ) → cr_or_kr l a ≡ true
    → get_or (decided_memory l m s memory) a 0 ≡ get_or memory a 0
step_rom l m s memory a e =
    elim (written_byte l (cause l m s) s memory a) [
      | inl stays ↦ stays
      | inr (inl c) ↦ clash _ c.lands (barred l s.cpuwrites s.cpuaddress (rw c.address e))
      | inr (inr d) ↦ clash _ d.lands (barred l (s.dmaactive && s.dmawrites) s.dmaaddress (rw d.address e))
    ]

-- a byte that each step leaves as it is
pub stays_through : (l : Layout) (t : ℕ → Step) (x : State) (n a : ℕ)
    → ((i : ℕ) → i < n → byte_at l t x (suc i) a ≡ byte_at l t x i a) → byte_at l t x n a ≡ get_or x.memory a 0
unfolding before
stays_through l t x zero a f = refl
stays_through l t x (suc n) a f = f n (omega arith) ∙ stays_through l t x n a (λ i h. f i (omega arith))

pub rom : claim.Rom
unfolding before
rom l t x n a e = stays_through l t x n a (λ i h. step_rom l (remembers l t x i) (t i) (before l t x i).memory a e)

lands_on : (l : Layout) (on : Bool) (a : ℕ) → lands l on a ≡ true → on ≡ true
lands_on l on a e = (both on (outside l.cr a) (both (on && outside l.cr a) (outside l.kr a) e).0).0

-- a step that does not reset stores to CTR or XS neither by the DMA nor, with PC outside CR, by the CPU
module _ (l : Layout) (m : Monitor) (s : Step) (r : resets l m s ≡ false) where
  dma_apart : (s.dmaactive && s.dmawrites) ≡ true → ctr_or_xs l s.dmaaddress ≡ false
  dma_apart on =
      let a = (both s.dmaactive s.dmawrites on).0 in
      let b = (both s.dmaactive s.dmawrites on).1 in
      let c = passes_only l m s r 10 (omega arith) (within l.ctr s.dmaaddress) (λ h. simp (a, b, h, or-true)) in
      let d = passes_only l m s r 8 (omega arith) (within l.xs s.dmaaddress) (λ h. simp (a, h)) in
      simp (c, d)

  cpu_apart : s.cpuwrites ≡ true → within l.cr s.pc ≡ false → ctr_or_xs l s.cpuaddress ≡ false
  cpu_apart w o =
      let c = passes_only l m s r 10 (omega arith) (within l.ctr s.cpuaddress) (λ h. simp (o, w, h)) in
      let d = passes_only l m s r 5 (omega arith) (within l.xs s.cpuaddress) (λ h. simp (o, w, h, or-true)) in
      simp (c, d)

pub guarded : claim.Guarded
unfolding before
guarded l t x n a e =
    let m = remembers l t x n in
    let s = t n in
    elim (written_byte l (cause l m s) s (before l t x n).memory a) [
      | inl stays ↦ inl stays
      | inr (inl c) ↦
          let w = lands_on l s.cpuwrites s.cpuaddress c.lands in
          inr (record {
            passes = c.passes;
            inside =
                cases (within l.cr s.pc) (λ h. h)
                (λ h. clash (ctr_or_xs l s.cpuaddress) (rw c.address e) (cpu_apart l m s c.passes w h));
            writes = w;
            address = c.address;
            byte = c.byte;
          })
      | inr (inr d) ↦
          let on = lands_on l (s.dmaactive && s.dmawrites) s.dmaaddress d.lands in
          clash (ctr_or_xs l s.dmaaddress) (rw d.address e) (dma_apart l m s d.passes on)
    ]

pub runs_alone : claim.RunsAlone
runs_alone l t x n z r i =
    let m = remembers l t x n in
    let s = t n in
    let u = inside_unheld l m s z i r in
    record {
      unheld = u;
      inside = record {
        pc = i;
        calm = passes_only l m s r 4 (omega arith) s.interrupt (λ h. simp (u, h, i));
        idle = passes_only l m s r 9 (omega arith) s.dmaactive (λ h. simp (u, h, i));
        writes = λ w.
            not-false (writable l s.cpuaddress)
            (passes_only l m s r 6 (omega arith) (not (writable l s.cpuaddress))
            (λ h. simp u (rule_6 l s ∙ simp (i, w, h))));
      };
    }

pub guarded_alone : claim.GuardedAlone
guarded_alone l t x n a z e =
    elim (guarded l t x n a e) [
      | inl stays ↦ inl stays
      | inr c ↦ inr (c, runs_alone l t x n z c.passes c.inside)
    ]

-- with a layout that passes the check, CR does not hold 0, and AR is apart from all that the attestation code may write
module _ (layout : List ℕ) (good : Good layout) where
  pub code_off_zero : within (layout_of layout).cr 0 ≡ false
  unfolding layout_of
  code_off_zero = good.zero

  pub attested_unwritable : (a : ℕ) → within (layout_of layout).ar a ≡ true → writable (layout_of layout) a ≡ false
  unfolding layout_of
  attested_unwritable a e =
      let x = elsewhere good AR XS (omega arith) (omega arith) (λ q. omega arith) refl refl a e in
      let m = elsewhere good AR MR (omega arith) (omega arith) (λ q. omega arith) refl refl a e in
      let c = elsewhere good AR CTR (omega arith) (omega arith) (λ q. omega arith) refl refl a e in
      simp (x, m, c)

-- so a step with PC in CR leaves AR as it is
pub attested_step : (l : Layout) → within l.cr 0 ≡ false → (t : ℕ → Step) (x : State) (n a : ℕ) → writable l a ≡ false
    → within l.cr (t n).pc ≡ true → byte_at l t x (suc n) a ≡ byte_at l t x n a
unfolding before
attested_step l z t x n a o i =
    let m = remembers l t x n in
    let s = t n in
    elim (written_byte l (cause l m s) s (before l t x n).memory a) [
      | inl stays ↦ stays
      | inr (inl c) ↦
          let w = lands_on l s.cpuwrites s.cpuaddress c.lands in
          clash (writable l a) (rw (sym c.address) ((runs_alone l t x n z c.passes i).inside.writes w)) o
      | inr (inr d) ↦
          let on = lands_on l (s.dmaactive && s.dmawrites) s.dmaaddress d.lands in
          clash s.dmaactive (both s.dmaactive s.dmawrites on).0 (runs_alone l t x n z d.passes i).inside.idle
    ]

pub attested_stays : claim.AttestedStays
attested_stays layout t x n zero a good f e = rw add-zero refl
attested_stays layout t x n (suc k) a good f e =
    rw add-suc
    (attested_step (layout_of layout) (code_off_zero layout good) t x (n + k) a (attested_unwritable layout good a e)
    (f (n + k) (omega arith) (omega arith))
    ∙ attested_stays layout t x n k a good (λ i p q. f i p (omega arith)) e)

-- ---- answers

pub resets_nothing : claim.ResetsNothing
unfolding before written answer
resets_nothing l t x n e =
    record { because = reset_cause l (remembers l t x n) (t n) e; stored = simp e; handed = simp e }

bits_of : (c d : Bool) → (bit 0 (pick c 1 0 + pick d 2 0) ≡ c) × (bit 1 (pick c 1 0 + pick d 2 0) ≡ d)
bits_of true true = (refl, refl)
bits_of true false = (refl, refl)
bits_of false true = (refl, refl)
bits_of false false = (refl, refl)

bits_most : (c d : Bool) → pick c 1 0 + pick d 2 0 < 4
bits_most true true = omega arith
bits_most true false = omega arith
bits_most false true = omega arith
bits_most false false = omega arith

-- what an answer tells of the two bytes
record Exposes (l : Layout) (m : Monitor) (s : Step) (memory : List ℕ) : Type 0 where
  cpu_bit : bit 0 (decided_answer l m s memory).exposed ≡ (not (resets l m s) && cpu_exposed l s)
  dma_bit : bit 1 (decided_answer l m s memory).exposed ≡ (not (resets l m s) && dma_exposed s)
  cpu_byte : (decided_answer l m s memory).cpubyte ≡ pick (not (resets l m s) && cpu_exposed l s) (get_or memory s.cpuaddress 0) 0
  dma_byte : (decided_answer l m s memory).dmabyte ≡ pick (not (resets l m s) && dma_exposed s) (get_or memory s.dmaaddress 0) 0

exposes : (l : Layout) (m : Monitor) (s : Step) (memory : List ℕ) → Exposes l m s memory
unfolding answer exposing
exposes l m s memory =
    let b = bits_of (cpu_exposed l s) (dma_exposed s) in
    cases (resets l m s)
    (λ e. record { cpu_bit = simp e; dma_bit = simp e; cpu_byte = simp e; dma_byte = simp e })
    (λ e. record { cpu_bit = simp e b.0; dma_bit = simp e b.1; cpu_byte = simp e; dma_byte = simp e })

exposes_at : (l : Layout) (t : ℕ → Step) (x : State) (n : ℕ)
    → Exposes l (remembers l t x n) (t n) (before l t x n).memory
exposes_at l t x n = exposes l (remembers l t x n) (t n) (before l t x n).memory

-- what is handed out is told by its bit
module _ (l : Layout) (t : ℕ → Step) (x : State) (n : ℕ) where
  cpu_told : claim.CpuHands l t x n → bit 0 (said l t x n).exposed ≡ true
  cpu_told c = (exposes_at l t x n).cpu_bit ∙ simp (c.passes, c.reads, c.apart)

  dma_told : claim.DmaHands l t x n → bit 1 (said l t x n).exposed ≡ true
  dma_told d = (exposes_at l t x n).dma_bit ∙ simp (d.passes, d.active, d.reads)

  cpu_hands : bit 0 (said l t x n).exposed ≡ true → claim.CpuHands l t x n
  cpu_hands e =
      let b = both (not (resets_at l t x n)) (cpu_exposed l (t n)) (sym (exposes_at l t x n).cpu_bit ∙ e) in
      let c = both (t n).cpureads (outside l.cr (t n).pc) b.1 in
      record { passes = not-true (resets_at l t x n) b.0; reads = c.0; apart = c.1 }

  dma_hands : bit 1 (said l t x n).exposed ≡ true → claim.DmaHands l t x n
  dma_hands e =
      let b = both (not (resets_at l t x n)) (dma_exposed (t n)) (sym (exposes_at l t x n).dma_bit ∙ e) in
      let d = both (t n).dmaactive (not (t n).dmawrites) b.1 in
      record { passes = not-true (resets_at l t x n) b.0; active = d.0; reads = not-true (t n).dmawrites d.1 }

pub cpu_exposed_lem : claim.CpuExposed
cpu_exposed_lem l t x n = (cpu_hands l t x n, cpu_told l t x n)

pub dma_exposed_lem : claim.DmaExposed
dma_exposed_lem l t x n = (dma_hands l t x n, dma_told l t x n)

pub two_bits : claim.TwoBits
unfolding answer exposing
two_bits l t x n =
    cases (resets_at l t x n) (λ e. simp e (omega arith))
    (λ e. simp e (bits_most (cpu_exposed l (t n)) (dma_exposed (t n))))

pub cpu_shown_lem : claim.CpuShown
cpu_shown_lem l t x n b =
    let m = remembers l t x n in
    let s = t n in
    let c = cpu_hands l t x n b in
    let o = cpu_outside l m s (passes_cause l m s c.passes) (simp (c.reads, c.apart)) in
    let e = exposes_at l t x n in
    record { key = o.0; scratch = o.1; byte = simp (sym e.cpu_bit ∙ b) at e.cpu_byte }

pub dma_shown_lem : claim.DmaShown
dma_shown_lem l t x n b =
    let m = remembers l t x n in
    let s = t n in
    let d = dma_hands l t x n b in
    let o = dma_outside l m s (passes_cause l m s d.passes) (simp (d.active, d.reads)) in
    let e = exposes_at l t x n in
    record { key = o.0; scratch = o.1; byte = simp (sym e.dma_bit ∙ b) at e.dma_byte }

pub not_exposed : claim.NotExposed
not_exposed l t x n =
    let a = exposes_at l t x n in
    (λ e. simp (sym a.cpu_bit ∙ e) at a.cpu_byte, λ e. simp (sym a.dma_bit ∙ e) at a.dma_byte)

-- ---- hold

pub hold_next : (l : Layout) (t : ℕ → Step) (x : State) (n : ℕ) → resets_at l t x n ≡ true → (t (suc n)).pc ≢ 0
    → cause_at l t x (suc n) ≡ 15
unfolding before next
hold_next l t x n e h = held_away l (remembers l t x (suc n)) (t (suc n)) (simp (e, ne_eqb (t (suc n)).pc 0 h))

pub hold : claim.Hold
hold l t x n zero e h f = absurd (not-suc-le-zero h)
hold l t x n (suc k) e h f =
    hold_next l t x k
    (cases (eqb n k)
    (λ q. subst (λ (i : ℕ). resets_at l t x i ≡ true) (eqb-true n k q) e)
    (λ q.
    let g : n ≢ k = eqb-false n k q in
    let c = hold l t x n k e (omega arith) (λ i p r. f i p (omega arith)) in
    simp c))
    (f (suc k) h (omega arith))

pub release : claim.Release
unfolding cause first
release l t x n h p r w d = simp (h, p, r, w, d, and-false)

-- ---- a trace in parts

pub parts : claim.Parts
parts l t x n k = in_parts l t t (λ i. t (n + i)) x n k (λ i h. refl) (λ i h. refl)

pub joined_before : (b c : List ℕ) (n i : ℕ) → length b ≡ step_size * n → i < n → step_bytes (b ++ c) i ≡ step_bytes b i
joined_before b c n i e h =
    let p : step_size * i ≤ length b = omega arith in
    let q : step_size ≤ length (drop (step_size * i) b) = simp length-drop (omega arith) in
    rw (drop-append-le, take-append-le)

pub joins : claim.Joins
joins b c n e =
    record {
      first = λ i h. ap step_of (joined_before b c n i e h);
      second = λ i.
          let p : step_size * (n + i) ≡ length b + step_size * i = omega arith in
          ap step_of (rw (p, drop-append-add));
    }

pub parts_of_bytes : claim.PartsOfBytes
parts_of_bytes l b c x n k e =
    let j = joins b c n e in
    in_parts l (steps (b ++ c)) (steps b) (steps c) x n k j.first (λ i h. j.second i)

-- ---- a trace by one_step calls

-- what a call answers whose check says so, and that then remembers m
called : Answer → Monitor → Result Monitor Refusal
called (Ok _) m = Ok m
called (Err q) m = Err q

called_row : (a : Answer) (m : Monitor) → stepped_row (called a m) ≡ told a (remembered m)
unfolding called
called_row (Ok _) m = refl
called_row (Err q) m = refl

module _ (memory layout trace : List ℕ) (rooms : ℕ → List ℕ) where
  -- call i where x stands: its check, and what it decides if that refuses nothing
  abbrev checked : ℕ → State → Answer
  checked i x = step_call_check x.memory layout (step_bytes trace i) (rooms i)

  abbrev decided : ℕ → State → State
  decided i x = turn (layout_of layout) (steps (step_bytes trace i) 0) x

  -- what stands before call i
  lent : ℕ → State
  lent zero = begin memory
  lent (suc i) = record {
    monitor = (decided i (lent i)).monitor;
    memory = after_call (checked i (lent i)) (decided i (lent i)).memory (lent i).memory;
  }

  abbrev answers : ℕ → Result Monitor Refusal
  answers i = called (checked i (lent i)) (decided i (lent i)).monitor

  abbrev rooms_left : ℕ → List ℕ
  rooms_left i =
      let x = lent i in
      after_call (checked i x)
      (bytes (decided_answer (layout_of layout) x.monitor (steps (step_bytes trace i) 0) x.memory)
      ++ drop answer_size (rooms i))
      (rooms i)

  can_call : ((i : ℕ) → i < count trace → answer_size ≤ length (rooms i))
      → claim.Calls memory layout trace (λ i. (lent i).monitor) (λ i. (lent i).memory) rooms rooms_left answers
  unfolding lent
  can_call f = record {
    starts = refl;
    lends = refl;
    fits = f;
    calls = λ i h. record {
      answered = called_row (checked i (lent i)) (decided i (lent i)).monitor;
      memory_left = refl;
      room_left = refl;
    };
    hands = λ i h m e.
        let a = checked i (lent i) in
        let n = (decided i (lent i)).monitor in
        sym (stepped_judged a m n (sym (ap stepped_row e) ∙ called_row a n)).1;
  }

pub can_be_called : claim.CanBeCalled
can_be_called memory layout trace rooms f = (
  λ i. (lent memory layout trace rooms i).monitor,
  λ i. (lent memory layout trace rooms i).memory,
  rooms_left memory layout trace rooms,
  answers memory layout trace rooms,
  can_call memory layout trace rooms f,
)

module _ (memory layout trace room memory' room' : List ℕ) (total : Totals)
    (monitors : ℕ → Monitor) (memories rooms rooms' : ℕ → List ℕ) (r : ℕ → Result Monitor Refusal)
    (whole : Traces memory layout trace room memory' room' (Ok total))
    (each : claim.Calls memory layout trace monitors memories rooms rooms' r) where
  -- the run that the one call judges
  abbrev stands : ℕ → State
  stands = before (layout_of layout) (steps trace) (begin memory)

  whole_done : (call_check memory layout (trace_check trace (length room)) ≡ Ok tt)
      × (total ≡ totals (layout_of layout) trace memory)
  whole_done =
      traced_judged (call_check memory layout (trace_check trace (length room))) total
      (totals (layout_of layout) trace memory) whole.answered

  tests : (length memory ≡ memory_bytes) × (layout_check layout ≡ Ok tt) × (trace_check trace (length room) ≡ Ok tt)
  tests = call_passed memory layout (trace_check trace (length room)) whole_done.0

  fitting : Fitting trace (length room)
  fitting = trace_passed trace (length room) tests.2

  -- a call from what stands before step i
  module _ (i : ℕ) (h : i < count trace) (m : monitors i ≡ (stands i).monitor) (b : memories i ≡ (stands i).memory) where
    done : call_check (memories i) layout (step_check (step_bytes trace i) (length (rooms i))) ≡ Ok tt
    done =
        call_rest (memories i) layout _
        (ap length b ∙ length_kept (layout_of layout) (steps trace) (begin memory) i ∙ tests.0) tests.1
        ∙ (one_passes trace (length room) fitting i h (length (rooms i)) (each.fits i h))

    judged : r i ≡ Ok (stands (suc i)).monitor
    unfolding before
    judged =
        stepped_row_settled (r i) (Ok (stands (suc i)).monitor)
        ((each.calls i h).answered ∙ simp done (simp (one_step trace (length room) fitting i h, m)))

    left : memories (suc i) ≡ (stands (suc i)).memory
    unfolding before
    left = (each.calls i h).memory_left ∙ simp done (simp (one_step trace (length room) fitting i h, m, b))

    answered : take answer_size (rooms' i) ≡ bytes (said (layout_of layout) (steps trace) (begin memory) i)
    answered =
        ap (take answer_size) (each.calls i h).room_left
        ∙ simp done (simp (one_step trace (length room) fitting i h, m, b))

  -- so before each step the calls have left what stands there
  up_to : (i : ℕ) → i ≤ count trace → (monitors i ≡ (stands i).monitor) × (memories i ≡ (stands i).memory)
  unfolding before
  up_to zero h = (each.starts, each.lends)
  up_to (suc i) h =
      let p = up_to i (omega arith) in
      (each.hands i h _ (judged i h p.0 p.1), left i h p.0 p.1)

  held_count : (n : ℕ) → n ≤ count trace
      → claim.held_after monitors n ≡ resetting (layout_of layout) (steps trace) (begin memory) n
  unfolding claim.held_after resetting before next
  held_count zero h = refl
  held_count (suc n) h = simp (held_count n (omega arith), (up_to (suc n) h).0)

  leaves : claim.Leaves trace monitors memories rooms' r memory' room' total
  leaves =
      record {
        judged = λ i h.
            let p = up_to i (omega arith) in
            judged i h p.0 p.1 ∙ ap Ok (sym (up_to (suc i) h).0);
        left = (up_to (count trace) (omega arith)).1 ∙ sym (whole.memory_left ∙ simp whole_done.0);
        answered = λ i h.
            let p = up_to i (omega arith) in
            answered i h p.0 p.1
            ∙ sym (answer_at_lem (layout_of layout) (steps trace) (begin memory) (count trace) i
            (drop (answer_size * count trace) room) h)
            ∙ ap (λ (b : List ℕ). take answer_size (drop (answer_size * i) b))
            (sym (whole.room_left ∙ simp whole_done.0));
        counted = held_count (count trace) (omega arith) ∙ sym (ap (λ (z : Totals). z.resets) whole_done.1);
      }

pub by_calls : claim.ByCalls
by_calls = leaves
