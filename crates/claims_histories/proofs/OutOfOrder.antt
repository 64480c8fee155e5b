-- A visit that is cut after its reply is stored, as a trace, and the history in which a check stands in the wrong
-- order. Assumes nothing.
use mathlib.Core.Path.{◌≡◌, refl, ap, ◌∙◌}
use mathlib.Core.Logic.{inl, inr}
use mathlib.Core.Bool.{true, false, and-false}
use mathlib.Core.List.{List}
use Prim.Native.Nat.{ℕ, zero, suc, ◌+◌, ◌≤◌, ◌<◌}
use native.Mathlib.Omega.{arith}
use lib.Dec.{ltb}
use lib.ListN.{length, replicate, length-replicate}
use lib.Seq.{sets, length-sets}
use borrow.Author.Tests.{ltb-true}
use Rattle.notions.specs.Bytes.{Bytes}
use Rattle.notions.specs.Choice.{pick}
use Rattle.notions.proofs.Tests.{cases, clash, untrue}
use Rattle.layout.specs.declared.Region.{Region}
use Rattle.layout.specs.declared.Layout.{Layout}
use Rattle.layout.specs.Regions.{within, size}
use Rattle.layout.specs.Layouts.{KR, MR, CTR, AR, layout_of}
use Rattle.layout.specs.Good.{Good}
use Rattle.layout.specs.Calls.{memory_bytes}
use Rattle.layout.proofs.Laws.{good_done, zero_outside_lem, ends_within, outside_ends, elsewhere}
use Rattle.layout.proofs.Placed.{placed}
use Rattle.layout.proofs.Calls.{call_rest}
use Rattle.steps.specs.declared.Step.{Step}
use Rattle.steps.specs.Steps.{Addressed}
use Rattle.rules.specs.Rules.{cause, code_writes_in}
use Rattle.traces.specs.Traces.{count, steps, trace_check}
use Rattle.monitor.specs.Runs.{State, begin, before, resetting, memory_after, room_after}
use Rattle.monitor.specs.Promises.{Traces, trace_call_check}
use Rattle.monitor.proofs.Runs.{Alike, alike}
use Rattle.board.specs.Memory.{bytes_of, attested, reply_at}
use Rattle.board.specs.Promises.{Attests}
use Rattle.board.proofs.Stores.{stored_there, stored_off}
use Rattle.board.proofs.Laws.{region_agrees}
use Rattle.claims_monitor.specs.Marked.{interrupted}
use Rattle.claims_monitor.specs.Traces.{remembers, cause_at, resets_at}
use Rattle.claims_monitor.proofs.Runs.{in_parts}
use Rattle.claims_monitor.specs.Traces.{InParts}
use Rattle.claims_attestation.proofs.Accepts.{Accepts, accepts}
use Rattle.claims_histories.specs.History.{Keeps, CounterLeft, Happens, trace}
use Rattle.claims_histories.specs.Visit.{Free, made, Makes, played}
use Rattle.claims_histories.specs.Cut.{Uncounted}
use Rattle.claims_histories.specs.Limits.{cut_steps, cut_trace}
use Rattle.claims_histories.proofs.Visit.{visit_passes, code_ends}
use Rattle.claims_histories.proofs.Cut.{cut_resets, cut_uncounted, can_be_cut}
use Rattle.claims_histories.proofs.Script.{length_encoded, encoded_fits, code_small, tells_steps, none_reset}
use Rattle.claims_histories.proofs.Script.{released, first_passes, after_first, played_addressed}
use Rattle.std.specs.Prelude.{Ok, Result}
use Rattle.monitor.specs.declared.Totals.{Totals}
use Rattle.refusal.specs.declared.Refusal.{Refusal}

-- one more step of a run
counted_more : (l : Layout) (t : ℕ → Step) (x : State) (n : ℕ)
    → resetting l t x (suc n) ≡ resetting l t x n + pick (resets_at l t x n) 1 0
unfolding resetting
counted_more l t x n = refl

-- ---- the visit that is cut

abbrev pub cut_traced : Result Totals Refusal
cut_traced = Ok (record { steps = 34; resets = 1 })

module _ (memory layout memory' : List ℕ) (h : Bytes layout) (a : Attests memory layout memory' (Ok tt)) where
  abbrev ly : Layout
  ly = layout_of layout

  abbrev all : ℕ → Step
  all = cut_steps ly memory

  -- all but the first, from what stands after it
  abbrev rest : ℕ → Step
  rest i = all (suc i)

  call : Accepts memory layout memory'
  call = accepts memory layout memory' h a

  free : Free ly (released memory)
  free = record { unheld = refl; outside = zero_outside_lem layout call.allowed.laid }

  abbrev last : Step
  last = interrupted ly.cr.lo

  cut : Makes ly memory rest 32 × (made ly rest 32 ≡ 32) × (rest 32 ≡ last)
  cut = can_be_cut memory layout memory' 32 last h a (omega arith) (omega arith)

  inside : within ly.cr (rest 32).pc ≡ true
  inside = ap (λ (s : Step). within ly.cr s.pc) cut.2 ∙ (code_ends layout call.good).0

  by_interrupt : cause_at ly rest (released memory) 32 ≡ 4
  by_interrupt = (cut_resets ly rest (released memory) 32 free cut.0.begins (omega arith) inside).interrupt refl

  rest_leaves : Uncounted ly memory (before ly rest (released memory) 33).memory
  rest_leaves =
      cut_uncounted layout memory' rest (released memory) 32 h free a cut.0 cut.1 (simp by_interrupt)

  rest_counts : resetting ly rest (released memory) 33 ≡ 1
  rest_counts =
      counted_more ly rest (released memory) 32
      ∙ simp (
        none_reset ly rest (released memory) 32 (visit_passes ly rest (released memory) 32 free cut.0.begins),
        by_interrupt,
      )

  in_two : InParts ly all all rest (begin memory) 1 33
  in_two =
      in_parts ly all all rest (begin memory) 1 33 (λ i k. refl)
      (λ i k. let q : 1 + i ≡ suc i = omega arith in ap all q)

  first_left : before ly all (begin memory) 1 ≡ released memory
  first_left = after_first ly all memory refl

  all_left : before ly all (begin memory) 34 ≡ before ly rest (released memory) 33
  all_left = in_two.left ∙ ap (λ (x : State). before ly rest x 33) first_left

  all_counted : resetting ly all (begin memory) 34 ≡ 1
  all_counted =
      in_two.counted
      ∙ simp (
        none_reset ly all (begin memory) 1
            (λ i k. let q : i ≡ 0 = omega arith in rw q (first_passes ly all memory refl)),
        first_left,
        rest_counts,
      )

  cause_is : cause_at ly all (begin memory) 33 ≡ 4
  cause_is =
      ap (λ (x : State). cause ly x.monitor (all 33))
      (before_there ∙ ap (λ (x : State). before ly rest x 32) first_left)
      ∙ by_interrupt
    where
      before_there : before ly all (begin memory) 33 ≡ before ly rest (before ly all (begin memory) 1) 32
      before_there =
          (in_parts ly all all rest (begin memory) 1 32 (λ i k. refl)
          (λ i k. let q : 1 + i ≡ suc i = omega arith in ap all q)).left

  -- ---- as bytes

  abbrev b : List ℕ
  b = cut_trace ly memory

  addressed : (i : ℕ) → Addressed (all i)
  addressed zero = record { pc = omega arith; cpuaddress = omega arith; dmaaddress = omega arith }
  addressed (suc i) =
      cases (ltb i 32)
      (λ t.
      let k = ltb-true i 32 t in
      let e : rest i ≡ played ly memory i = simp t in
      rw e (played_addressed layout h call.lies memory i (omega arith)))
      (λ t. simp t (record { pc = (code_small layout h).0; cpuaddress = omega arith; dmaaddress = omega arith }))

  tells : (i : ℕ) → i < 34 → steps b i ≡ all i
  tells i k = tells_steps all 34 i k (addressed i)

  counted : count b ≡ 34
  counted = omega (arith, length_encoded all 34)

  same : (n : ℕ) → n ≤ 34 → Alike ly (steps b) all (begin memory) n
  same n k = alike ly (steps b) all (begin memory) n (λ i e. tells i (omega arith))

  abbrev room : List ℕ
  room = replicate 136 0

  checked : trace_call_check memory layout b room ≡ Ok tt
  checked =
      call_rest memory layout (trace_check b (length room)) call.allowed.long call.allowed.laid
      ∙ encoded_fits all 34 (length room) (omega arith) (omega (arith, length-replicate {A = ℕ} 136 0))

  traces : Traces memory layout b room (memory_after ly b memory) (room_after ly b memory room) cut_traced
  traces = record {
    answered = simp checked (simp (counted, (same 34 (omega arith)).counted, all_counted));
    memory_left = simp checked;
    room_left = simp checked;
  }

  -- none of its steps stores into CTR
  leaves_counter : (i : ℕ) → code_writes_in ly.ctr ly (all i) ≡ false
  unfolding layout_of
  leaves_counter zero = simp and-false
  leaves_counter (suc i) =
      cases (ltb i 32)
      (λ t.
      let k = ltb-true i 32 t in
      let w = ends_within ly.mr (reply_at ly + i) (omega arith) (omega (arith, call.lies.mail)) in
      let o =
      elsewhere call.good MR CTR (omega arith) (omega arith) (λ q. omega arith) refl refl (reply_at ly + i) w in
      simp (t, o, and-false))
      (λ t. simp (t, and-false))

  counter_left : CounterLeft ly b memory
  counter_left i k = simp (tells i (omega (arith, counted)), leaves_counter i, and-false)

  pub happens : Happens layout (trace b cut_traced) memory (memory_after ly b memory)
  happens = ((room, room_after ly b memory room, traces), counter_left)

  pub cut_leaves : Uncounted ly memory (memory_after ly b memory)
  cut_leaves =
      let e : memory_after ly b memory ≡ (before ly rest (released memory) 33).memory =
      ap (λ (n : ℕ). (before ly (steps b) (begin memory) n).memory) counted
      ∙ ap (λ (x : State). x.memory) ((same 34 (omega arith)).left ∙ all_left) in
      rw e rest_leaves

  pub cut_because : cause_at ly (steps b) (begin memory) 33 ≡ 4
  cut_because =
      ap (λ (x : State). cause ly x.monitor (steps b 33)) (same 33 (omega arith)).left
      ∙ ap (cause ly (remembers ly all (begin memory) 33)) (tells 33 (omega arith))
      ∙ cause_is

-- ---- AR altered

module _ (layout : List ℕ) (good : Good layout) (memory altered : List ℕ) (long : length memory ≡ memory_bytes)
    (fits : length altered ≡ size (layout_of layout).ar) where
  abbrev al : Layout
  al = layout_of layout

  abbrev pub changed : List ℕ
  changed = sets memory al.ar.lo altered

  ordered : al.ar.lo ≤ al.ar.hi
  unfolding layout_of
  ordered = good.ordered AR (omega arith)

  -- a region that shares no address with AR stays
  region_stays : (r : Region) → ((a : ℕ) → within r a ≡ true → within al.ar a ≡ false)
      → bytes_of r changed ≡ bytes_of r memory
  region_stays r f =
      region_agrees r changed memory (length-sets memory al.ar.lo altered)
      (λ a w. stored_off memory al.ar.lo altered a
      (elim (outside_ends al.ar a (f a w)) [ inl k ↦ inl k | inr k ↦ inr (omega (arith, ordered, fits)) ]))

  pub changed_keeps : ((a : ℕ) → within al.ar a ≡ true → within al.cr a ≡ false) → Keeps al memory changed
  unfolding layout_of
  changed_keeps f = record {
    long = length-sets memory al.ar.lo altered;
    code =
        region_stays al.cr
        (λ a w. untrue (within al.ar a) (λ u. clash (within al.cr a) w (f a u)));
    key =
        region_stays al.kr
        (λ a w. elsewhere good KR AR (omega arith) (omega arith) (λ q. omega arith) refl refl a w);
    counter =
        region_stays al.ctr
        (λ a w. elsewhere good CTR AR (omega arith) (omega arith) (λ q. omega arith) refl refl a w);
  }

  pub changed_region : Bytes layout → attested al changed ≡ altered
  changed_region b =
      let w = placed layout b (good_done layout good) in
      stored_there memory al.ar.lo (size al.ar) altered fits (omega (arith, w.region_in))
