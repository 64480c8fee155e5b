-- The claims about attestation as a trace hold. Assumes nothing.
use mathlib.Core.Path.{◌≡◌, refl, sym, ap, ◌∙◌}
use mathlib.Core.Logic.{◌≢◌}
use mathlib.Core.Bool.{Bool, true, false}
use mathlib.Core.List.{List, [], ◌∷◌}
use Prim.Native.Nat.{ℕ, zero, suc, ◌+◌, ◌-◌, ◌*◌, ◌/◌, ◌%◌, ◌≤◌, ◌<◌}
use native.Mathlib.Nat.{not-suc-le-zero}
use native.Mathlib.Omega.{arith}
use lib.Dec.{eqb, ltb}
use lib.ListN.{length, get_or, take, length-append}
use lib.Seq.{drop_at}
use borrow.Author.Tests.{eqb-true, eqb-false, ltb-true, ltb-false, lt-ltb, le-ltb}
use Rattle.notions.specs.Bytes.{Bytes}
use Rattle.notions.specs.Choice.{pick}
use Rattle.notions.proofs.Bytes.{bytes_cons, bytes_append}
use Rattle.notions.proofs.Tests.{cases}
use Rattle.notions.proofs.First.{found_none}
use Rattle.layout.specs.declared.Layout.{Layout}
use Rattle.layout.specs.Layouts.{layout_of}
use Rattle.layout.specs.Calls.{memory_bytes, call_check}
use Rattle.layout.proofs.Laws.{zero_outside_lem}
use Rattle.layout.proofs.Calls.{call_rest}
use Rattle.layout.proofs.Placed.{Placed}
use Rattle.steps.specs.declared.Step.{Step}
use Rattle.steps.specs.Steps.{step_of, flags, encode, Addressed}
use Rattle.rules.specs.Rules.{cause, start}
use Rattle.monitor.specs.Decisions.{next}
use Rattle.steps.proofs.Laws.{flags_most, tells_step, clean_encode}
use Rattle.monitor.specs.Runs.{State, begin, before, resetting}
use Rattle.traces.specs.Traces.{step_size, answer_size, count, step_bytes, steps}
use Rattle.traces.specs.Traces.{most_steps, unclean, trace_check}
use Rattle.monitor.specs.Promises.{Traces}
use Rattle.monitor.proofs.Settled.{traced_row_settled}
use Rattle.board.specs.Memory.{challenge}
use Rattle.board.specs.Attestation.{due}
use Rattle.board.specs.Promises.{Attests}
use Rattle.board.proofs.Stores.{bytes_read}
use Rattle.board.proofs.Laws.{bytes_due}
use Rattle.claims_monitor.specs.Traces.{remembers, cause_at, InParts}
use Rattle.claims_monitor.specs.Marked.{at}
use Rattle.claims_histories.specs.Script as claim
use Rattle.claims_histories.specs.Visit.{Free, Plays, store_byte, played}
use Rattle.claims_histories.specs.Script.{encoded, scripted, script}
use Rattle.monitor.proofs.Runs.{Alike, alike}
use Rattle.claims_attestation.proofs.Accepts.{Accepts, accepts}
use Rattle.claims_monitor.proofs.Outside.{nothing_lawful}
use Rattle.claims_monitor.proofs.Runs.{in_parts}
use Rattle.claims_monitor.proofs.Traces.{joined_before, release}
use Rattle.claims_histories.proofs.Visit.{visit_passes, leaves_freely, keeps_memory, store_small, exact_visit}
use Rattle.claims_histories.proofs.Visit.{played_plays, played_none}
use Rattle.std.specs.Prelude.{Ok, Result}
use Rattle.monitor.specs.declared.Totals.{Totals}
use Rattle.refusal.specs.declared.Refusal.{Refusal}

-- ---- a trace's bytes

pub length_encoded : (t : ℕ → Step) (n : ℕ) → length (encoded t n) ≡ step_size * n
unfolding encoded encode
length_encoded t zero = refl
length_encoded t (suc n) = omega (arith, length-append (encoded t n) (encode (t n)), length_encoded t n)

encoded_bytes : (t : ℕ → Step) (n i : ℕ) → i < n → step_bytes (encoded t n) i ≡ encode (t i)
unfolding encoded encode
encoded_bytes t zero i h = absurd (not-suc-le-zero h)
encoded_bytes t (suc n) i h =
    let b = encoded t n in
    let q = length_encoded t n in
    cases (eqb i n)
    (λ e. rw (eqb-true i n e) (ap (take step_size) (drop_at b (encode (t n)) (step_size * n) q)))
    (λ e.
    let g : i ≢ n = eqb-false i n e in
    joined_before b (encode (t n)) n i q (omega arith) ∙ encoded_bytes t n i (omega arith))

pub tells_steps : claim.TellsSteps
tells_steps t n i h k = ap step_of (encoded_bytes t n i h) ∙ tells_step (t i) k

pub encoded_fits : (t : ℕ → Step) (n room : ℕ) → n ≤ most_steps → answer_size * n ≤ room
    → trace_check (encoded t n) room ≡ Ok tt
unfolding trace_check
encoded_fits t n room h r =
    let q = length_encoded t n in
    let c : count (encoded t n) ≡ n = omega arith in
    let w : length (encoded t n) % step_size ≡ 0 = omega arith in
    let u : (i : ℕ) → i < n → unclean (encoded t n) i ≡ false =
    λ i k. simp (encoded_bytes t n i k, clean_encode (t i)) in
    simp (c, w, le-ltb most_steps n h, le-ltb room (answer_size * n) r, found_none n (unclean (encoded t n)) u)

-- ---- addresses of 16 bits

pub code_small : (b : List ℕ) → Bytes b → ((layout_of b).cr.lo < memory_bytes) × ((layout_of b).cr.hi < memory_bytes)
unfolding layout_of
code_small b h =
    let p = h 0 in
    let q = h 1 in
    let r = h 2 in
    let s = h 3 in
    (omega arith, omega arith)

small_pick : (t : Bool) (a b n : ℕ) → (t ≡ true → a < n) → (t ≡ false → b < n) → pick t a b < n
small_pick true a b n f g = f refl
small_pick false a b n f g = g refl

-- those of a visit that makes the 64 stores
pub played_addressed : (b : List ℕ) → Bytes b → Placed (layout_of b) → (memory : List ℕ) (i : ℕ) → i < 64
    → Addressed (played (layout_of b) memory i)
played_addressed b h p memory i k =
    let l = layout_of b in
    let g = store_small l p i k in
    record {
      pc =
          small_pick (eqb i 63) l.cr.hi l.cr.lo memory_bytes (λ u. (code_small b h).1) (λ u. (code_small b h).0);
      cpuaddress = g;
      dmaaddress = omega arith;
    }

-- ---- attestation as a trace

-- steps without a cause do not count as resets
pub none_reset : (l : Layout) (t : ℕ → Step) (x : State) (n : ℕ) → ((i : ℕ) → i < n → cause_at l t x i ≡ 0)
    → resetting l t x n ≡ 0
unfolding resetting
none_reset l t x zero f = refl
none_reset l t x (suc n) f = simp (f n (omega arith), none_reset l t x n (λ i h. f i (omega arith)))

-- what stands after the first step, with PC 0
abbrev pub released : List ℕ → State
released memory = record { monitor = record { held = false; lastpc = 0 }; memory = memory }

-- a trace that begins with PC 0 and accesses nothing there lets the monitor go
module _ (l : Layout) (t : ℕ → Step) (memory : List ℕ) (e : t 0 ≡ at 0) where
  pub first_passes : cause_at l t (begin memory) 0 ≡ 0
  unfolding before
  first_passes = ap (cause l start) e ∙ release l (λ i. at 0) (begin memory) 0 refl refl refl refl refl

  pub after_first : before l t (begin memory) 1 ≡ released memory
  unfolding before next
  after_first =
      let p = ap (cause l start) (sym e) ∙ first_passes in
      simp (e, keeps_memory l start (at 0) memory p refl refl) (simp p)

module _ (memory layout memory' : List ℕ) (h : Bytes layout) (a : Attests memory layout memory' (Ok tt)) where
  abbrev ly : Layout
  ly = layout_of layout

  abbrev all : ℕ → Step
  all = scripted ly memory

  abbrev rest : ℕ → Step
  rest i = all (suc i)

  call : Accepts memory layout memory'
  call = accepts memory layout memory' h a

  addressed : (i : ℕ) → Addressed (all i)
  addressed zero = record { pc = omega arith; cpuaddress = omega arith; dmaaddress = omega arith }
  addressed (suc i) =
      cases (ltb i 64)
      (λ t. simp t (played_addressed layout h call.lies memory i (ltb-true i 64 t)))
      (λ t. simp t (record { pc = omega arith; cpuaddress = omega arith; dmaaddress = omega arith }))

  free_first : Free ly (released memory)
  free_first = record { unheld = refl; outside = zero_outside_lem layout call.allowed.laid }

  rest_played : (i : ℕ) → i < 64 → rest i ≡ played ly memory i
  rest_played i k = simp (lt-ltb i 64 k)

  plays_rest : Plays ly memory rest 64
  plays_rest = played_plays memory layout memory' h a rest rest_played

  -- no step of the rest resets
  rest_passes : (i : ℕ) → i < 65 → cause_at ly rest (released memory) i ≡ 0
  rest_passes i k =
      cases (ltb i 64)
      (λ e. visit_passes ly rest (released memory) 64 free_first plays_rest.visit.begins i (ltb-true i 64 e))
      (λ e.
      let q : i ≡ 64 = omega (arith, ltb-false i 64 e) in
      rw q ((leaves_freely ly rest (released memory) 64 free_first plays_rest.visit
      (zero_outside_lem layout call.allowed.laid)
      ).1 (nothing_lawful ly (at 0) (record { reads = refl; writes = refl; idle = refl }))))

  rest_leaves : (before ly rest (released memory) 65).memory ≡ memory'
  unfolding before
  rest_leaves =
      keeps_memory ly (remembers ly rest (released memory) 64) (at 0) (before ly rest (released memory) 64).memory
      (rest_passes 64 (omega arith)) refl refl
      ∙ exact_visit layout memory' rest (released memory) 64 h free_first a plays_rest
      (played_none memory layout memory' h a rest 64 (omega arith) rest_played)

  in_two : InParts ly all all rest (begin memory) 1 65
  in_two =
      in_parts ly all all rest (begin memory) 1 65 (λ i k. refl)
      (λ i k. ap all (let q : 1 + i ≡ suc i = omega arith in q))

  all_left : (before ly all (begin memory) 66).memory ≡ memory'
  all_left =
      ap (λ (x : State). x.memory)
      (in_two.left ∙ ap (λ (x : State). before ly rest x 65) (after_first ly all memory refl))
      ∙ rest_leaves

  all_counted : resetting ly all (begin memory) 66 ≡ 0
  all_counted =
      in_two.counted
      ∙ simp (
        none_reset ly all (begin memory) 1
            (λ i k. let q : i ≡ 0 = omega arith in rw q (first_passes ly all memory refl)),
        after_first ly all memory refl,
        none_reset ly rest (released memory) 65 rest_passes,
      )

  module _ (room memory'' room' : List ℕ) (r : Result Totals Refusal)
      (c : Traces memory layout (script ly memory) room memory'' room' r) (k : 264 ≤ length room) where
    abbrev b : List ℕ
    b = script ly memory

    same : Alike ly (steps b) all (begin memory) 66
    same = alike ly (steps b) all (begin memory) 66 (λ i e. tells_steps all 66 i e (addressed i))

    counts : count b ≡ 66
    counts = omega (arith, length_encoded all 66)

    checked : call_check memory layout (trace_check b (length room)) ≡ Ok tt
    checked =
        call_rest memory layout (trace_check b (length room)) call.allowed.long call.allowed.laid
        ∙ encoded_fits all 66 (length room) (omega arith) k

    judged : r ≡ Ok (record { steps = 66; resets = 0 })
    judged =
        traced_row_settled r (Ok (record { steps = 66; resets = 0 }))
        (c.answered ∙ simp checked (simp (counts, same.counted, all_counted)))

    left : memory'' ≡ memory'
    left =
        c.memory_left
        ∙ simp checked
        (ap (λ (n : ℕ). (before ly (steps b) (begin memory) n).memory) counts
        ∙ ap (λ (x : State). x.memory) same.left
        ∙ all_left)

pub trace_attests : claim.TraceAttests
trace_attests memory layout memory' room memory'' room' r h a c k =
    (judged memory layout memory' h a room memory'' room' r c k, left memory layout memory' h a room memory'' room' r c k)

-- ---- the trace is bytes

bytes_encode : (s : Step) → s.cpudata < 256 → s.dmadata < 256 → Bytes (encode s)
unfolding encode
bytes_encode s hc hd =
    let z : List ℕ = 0 ∷ 0 ∷ 0 ∷ [] in
    let tail : List ℕ = flags s ∷ s.cpudata ∷ s.dmadata ∷ z in
    let dma : List ℕ = s.dmaaddress % 256 ∷ s.dmaaddress / 256 % 256 ∷ tail in
    let cpu : List ℕ = s.cpuaddress % 256 ∷ s.cpuaddress / 256 % 256 ∷ dma in
    halves s.pc cpu
    (halves s.cpuaddress dma
    (halves s.dmaaddress tail
    (bytes_cons (flags s) (s.cpudata ∷ s.dmadata ∷ z) (omega (arith, flags_most s))
    (bytes_cons s.cpudata (s.dmadata ∷ z) hc (bytes_cons s.dmadata z hd zeros)))))
  where
    halves : (n : ℕ) (v : List ℕ) → Bytes v → Bytes (n % 256 ∷ n / 256 % 256 ∷ v)
    halves n v k = bytes_cons (n % 256) (n / 256 % 256 ∷ v) (omega arith) (bytes_cons (n / 256 % 256) v (omega arith) k)

    zeros : Bytes (0 ∷ 0 ∷ 0 ∷ [])
    zeros =
        bytes_cons 0 (0 ∷ 0 ∷ []) (omega arith)
        (bytes_cons 0 (0 ∷ []) (omega arith) (bytes_cons 0 [] (omega arith) (λ i. omega arith)))

bytes_encoded : (t : ℕ → Step) (n : ℕ) → ((i : ℕ) → ((t i).cpudata < 256) × ((t i).dmadata < 256)) → Bytes (encoded t n)
unfolding encoded
bytes_encoded t zero f i = omega arith
bytes_encoded t (suc n) f i =
    bytes_append (encoded t n) (encode (t n)) (bytes_encoded t n f) (bytes_encode (t n) (f n).0 (f n).1) i

small_byte : (l : Layout) (memory : List ℕ) → Bytes memory → (i : ℕ) → store_byte l memory i < 256
small_byte l memory k i =
    small_pick (ltb i 32) (get_or (due l memory) i 0) (get_or (challenge l memory) (i - 32) 0) 256
    (λ t. bytes_due l memory i) (λ t. bytes_read memory l.mr.lo 32 k (i - 32))

small_data : (l : Layout) (memory : List ℕ) → Bytes memory → (i : ℕ)
    → ((scripted l memory i).cpudata < 256) × ((scripted l memory i).dmadata < 256)
small_data l memory k zero = (omega arith, omega arith)
small_data l memory k (suc i) =
    cases (ltb i 64) (λ t. simp t (small_byte l memory k i, omega arith)) (λ t. simp t (omega arith, omega arith))

pub script_bytes : claim.ScriptBytes
script_bytes memory layout memory' h k a =
    bytes_encoded (scripted (layout_of layout) memory) 66 (small_data (layout_of layout) memory k)
