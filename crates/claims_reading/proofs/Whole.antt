-- A trace read to its end: the claims of specs/Whole.antt. Assumes nothing.
use mathlib.Core.Path.{◌≡◌, refl, ap, sym, subst, ◌∙◌}
use mathlib.Core.Bool.{false}
use mathlib.Core.List.{List, ◌++◌}
use Prim.Native.Nat.{ℕ, zero, suc, ◌+◌, ◌*◌, ◌-◌, ◌≤◌, ◌<◌}
use native.Mathlib.Nat.{add-zero, add-suc}
use native.Mathlib.Numerals.{add-one}
use native.Mathlib.Omega.{arith}
use lib.Dec.{ltb}
use lib.ListN.{length, drop}
use denote.Ref.{Bor}
use borrow.Author.Tests.{ltb-true, ltb-false}
use Rattle.notions.proofs.Tests.{cases}
use Rattle.notions.proofs.First.{first_found, first_least}
use Rattle.refusal.proofs.Order.{done_passed}
use Rattle.layout.specs.Layouts.{layout_of}
use Rattle.layout.specs.Calls.{call_check}
use Rattle.layout.proofs.Calls.{call_passed}
use Rattle.steps.specs.declared.Step.{Step}
use Rattle.monitor.specs.declared.Totals.{Totals}
use Rattle.monitor.specs.Runs.{State, begin, before, answers, resetting, totals}
use Rattle.traces.specs.Traces.{answer_size, count, steps}
use Rattle.traces.specs.Traces.{misfits, unclean, first_unclean, trace_check}
use Rattle.monitor.specs.Promises.{Traces}
use Rattle.traces.proofs.Checks.{trace_passed}
use Rattle.monitor.proofs.Checks.{traced_judged}
use Rattle.monitor.proofs.Runs.{alike}
use Rattle.reader.specs.declared.StepReader.{StepReader}
use Rattle.reader.specs.Reading.{read_at, place_after}
use Rattle.reader.proofs.Settled.{read_row_settled}
use Rattle.claims_reading.specs.Whole.{Reading, HandsOut, CanBeRead, ReadsWhole, JudgesWhatIsRead, ReadsToUnclean, ReadsNothing}
use Rattle.reader.proofs.Laws.{read_nothing, read_end, read_unclean, read_step, IsStep}
use Rattle.std.specs.Prelude.{None, Ok, Option, Result, Some}
use Rattle.refusal.specs.declared.Refusal.{Refusal}

-- ---- a reader that is read over and over

module _ (trace : Bor (List ℕ)) (reader : ℕ → StepReader) (said : ℕ → Result (Option Step) Refusal) (g : Reading trace reader said) where
  -- before call k it stands at the place p
  record At (k p : ℕ) : Type 0 where
    pub holds : (reader k).trace ≡ trace
    pub place : (reader k).place ≡ p

  module _ (k p : ℕ) (a : At k p) (r : Result (Option Step) Refusal) (e : read_at trace.now p ≡ r) where
    there : read_at (reader k).trace.now (reader k).place ≡ r
    there = (λ i. read_at (a.holds i).now (a.place i)) ∙ e

    says_it : said k ≡ r
    says_it = read_row_settled (said k) _ (g.goes_on k).advanced.answered ∙ there

    onward : At (k + 1) (place_after r p)
    onward = record {
      holds = (g.goes_on k).holds ∙ a.holds;
      place = (g.goes_on k).advanced.moved ∙ (λ i. place_after (there i) (a.place i));
    }

  -- n steps stand one after another, and behind them what does not move the place
  module _ (n : ℕ) (s : ℕ → Step) (e : Result (Option Step) Refusal) (f : (k : ℕ) → k < n → read_at trace.now k ≡ Ok (Some (s k)))
      (d : read_at trace.now n ≡ e) (stays : place_after e n ≡ n) where
    within : (k : ℕ) → k ≤ n → At k k
    within zero h = record { holds = g.begins.holds; place = g.begins.at_first }
    within (suc k) h = rw add-one at (onward k k (within k (omega arith)) _ (f k (omega arith)))

    beyond : (j : ℕ) → At (n + j) n
    beyond zero = rw add-zero (within n (omega arith))
    beyond (suc j) = rw add-suc (subst (At (suc (n + j))) stays (rw add-one at (onward (n + j) n (beyond j) e d)))

    hands_out : HandsOut said n s e
    hands_out = record {
      handed = λ k h. says_it k k (within k (omega arith)) _ (f k h);
      afterwards = λ k h. says_it k n (subst (λ (i : ℕ). At i n) (omega arith) (beyond (k - n))) e d;
    }

-- ---- the claims

-- the place before call k
places : List ℕ → ℕ → ℕ
places b zero = 0
places b (suc k) = place_after (read_at b (places b k)) (places b k)

pub can_be_read : CanBeRead
unfolding places
can_be_read trace =
    let b = trace.now in (
      λ k. record { trace = trace; place = places b k },
      λ k. read_at b (places b k),
      record {
        begins = record { holds = refl; at_first = refl };
        goes_on = λ k. record { advanced = record { answered = refl; moved = rw add-one refl }; holds = refl };
      },
    )

not_misfits : (b : List ℕ) (room : ℕ) → trace_check b room ≡ Ok tt → misfits b ≡ false
unfolding trace_check
not_misfits b room e = (done_passed (misfits b) _ _ e).0

-- a trace that is judged has passed
judged : (memory layout b room memory' room' : List ℕ) (t : Totals) → Traces memory layout b room memory' room' (Ok t)
    → (call_check memory layout (trace_check b (length room)) ≡ Ok tt) × (t ≡ totals (layout_of layout) b memory)
judged memory layout b room memory' room' t p = traced_judged (call_check memory layout (trace_check b (length room))) t _ p.answered

pub reads_whole : ReadsWhole
reads_whole memory layout trace room memory' room' t p reader said g =
    let b = trace.now in
    let d = judged memory layout b room memory' room' t p in
    let c = (call_passed memory layout (trace_check b (length room)) d.0).2 in
    let m = not_misfits b (length room) c in
    subst (λ (n : ℕ). HandsOut said n (steps b) (Ok None)) (sym (ap (λ (u : Totals). u.steps) d.1))
    (hands_out trace reader said g (count b) (steps b) (Ok None)
    (λ k h. read_step b k m h ((trace_passed b (length room) c).clean k h))
    (read_end b (count b) m (omega arith)) refl)

-- two accounts of the same answers tell as many steps, and the same
module _ (said : ℕ → Result (Option Step) Refusal) where
  no_fewer : (n m : ℕ) (s u : ℕ → Step) → HandsOut said n s (Ok None) → HandsOut said m u (Ok None) → n < m → ⊥
  no_fewer n m s u a b h = subst IsStep (sym (b.handed n h) ∙ a.afterwards n (omega arith)) tt

  module _ (n m : ℕ) (s u : ℕ → Step) (a : HandsOut said n s (Ok None)) (b : HandsOut said m u (Ok None)) where
    as_many : n ≡ m
    as_many =
        cases (ltb n m) (λ e. absurd (no_fewer n m s u a b (ltb-true n m e)))
        (λ e. cases (ltb m n) (λ f. absurd (no_fewer m n u s b a (ltb-true m n f))) (λ f. omega (arith, ltb-false n m e, ltb-false m n f)))

    same_step : (k : ℕ) → k < n → s k ≡ u k
    same_step k h = let e : Ok (Some (s k)) ≡ Ok (Some (u k)) = sym (a.handed k h) ∙ b.handed k (omega (arith, as_many)) in cc

pub judges_what_is_read : JudgesWhatIsRead
judges_what_is_read memory layout trace room memory' room' t p reader said g n s a =
    let l = layout_of layout in
    let b = trace.now in
    let d = judged memory layout b room memory' room' t p in
    let w = reads_whole memory layout trace room memory' room' t p reader said g in
    let e = as_many said t.steps n (steps b) s w a in
    let c : count b ≡ n = sym (ap (λ (u : Totals). u.steps) d.1) ∙ e in
    let k = alike l (steps b) s (begin memory) n (λ i h. same_step said t.steps n (steps b) s w a i (omega (arith, e))) in (
      e,
      ap (λ (u : Totals). u.resets) d.1 ∙ ap (resetting l (steps b) (begin memory)) c ∙ k.counted,
      (simp d.0 at p.memory_left)
          ∙ ap (λ (i : ℕ). (before l (steps b) (begin memory) i).memory) c
          ∙ ap (λ (x : State). x.memory) k.left,
      (simp d.0 at p.room_left)
          ∙ ap (λ (i : ℕ). answers l (steps b) (begin memory) i ++ drop (answer_size * i) room) c
          ∙ ap (λ (o : List ℕ). o ++ drop (answer_size * n) room) k.answered,
    )

pub reads_to_unclean : ReadsToUnclean
reads_to_unclean trace reader said g m h =
    hands_out trace reader said g (first_unclean trace.now) (steps trace.now) _
    (λ k l. read_step trace.now k m (omega arith) (first_least (count trace.now) (unclean trace.now) k l))
    (read_unclean trace.now _ m h (first_found (count trace.now) (unclean trace.now) h)) refl

pub reads_nothing : ReadsNothing
reads_nothing trace reader said g m k =
    (hands_out trace reader said g 0 (steps trace.now) _ (λ j l. absurd (omega arith)) (read_nothing trace.now 0 m) refl).afterwards k (omega arith)
