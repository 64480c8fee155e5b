-- The witness for demand 3, computed. Assumes nothing.
use mathlib.Core.Path.{◌≡◌, refl, sym, ◌∙◌}
use mathlib.Core.Bool.{true, false≢true, true≢false}
use mathlib.Core.List.{List, [], ◌∷◌, ◌++◌}
use Prim.Native.Nat.{ℕ, zero, suc, ◌≤◌, ◌<◌, ◌+◌}
use native.Mathlib.Omega.{arith}
use lib.ListN.{length, get_or, take, drop, replicate, length-replicate}
use borrow.Author.Tests.{le-leb}
use Rattle.notions.specs.First.{first}
use Rattle.layout.specs.declared.Region.{Region}
use Rattle.layout.specs.Regions.{outside}
use Rattle.layout.specs.Layouts.{layout_of, layout_check}
use Rattle.layout.specs.Calls.{call_check}
use Rattle.steps.specs.Steps.{step_of}
use Rattle.rules.specs.Rules.{cause}
use Rattle.monitor.specs.Decisions.{next}
use Rattle.effects.specs.Effects.{exposing, answer, stored, storing, written}
use Rattle.monitor.specs.Runs.{begin, before, answers, resetting}
use Rattle.traces.specs.Traces.{steps}
use Rattle.traces.specs.Traces.{trace_check}
use Rattle.claims_monitor.specs.Demand3.{Agree, SameTrace}
use Rattle.claims_monitor.specs.Witness.{layout, others, board, trace, room, answered, Call, Demand3Witness}
use Rattle.std.specs.Prelude.{Ok}

length_others : length others ≡ 65433
unfolding others
length_others = length-replicate {A = ℕ} 65433 0

pub length_board : (a b key mailbox : ℕ) → length (board a b key mailbox) ≡ 65536
length_board a b key mailbox = omega (arith, length_others)

pub layout_good : layout_check layout ≡ Ok tt
unfolding layout_check first
layout_good = refl

trace_good : (byte : ℕ) → trace_check (trace byte) (length room) ≡ Ok tt
unfolding trace_check first
trace_good byte = refl

checked : (a b key byte : ℕ) → call_check (board a b key 0) layout (trace_check (trace byte) (length room)) ≡ Ok tt
checked a b key byte = simp (length_board a b key 0, layout_good, trace_good byte)

-- the run, whatever the bytes are
module _ (a b key byte : ℕ) where
  run_answers : answers (layout_of layout) (steps (trace byte)) (begin (board a b key 0)) 8 ≡ answered
  unfolding layout_of step_of first cause next exposing answer stored storing written before answers
  run_answers = refl

  run_resets : resetting (layout_of layout) (steps (trace byte)) (begin (board a b key 0)) 8 ≡ 3
  unfolding layout_of step_of first cause next before resetting
  run_resets = refl

  run_memory : (before (layout_of layout) (steps (trace byte)) (begin (board a b key 0)) 8).memory ≡ board byte b key 0x5a
  unfolding layout_of step_of first cause next stored storing written before
  run_memory = refl

  call : Call a b key byte
  call =
      let e = checked a b key byte in
      record {
        answered = simp (e, run_resets);
        memory_left = simp (e, run_memory);
        room_left = simp (e, run_answers);
      }

-- ---- the boards agree, and the traces do

-- two lists that differ in one part are the same elsewhere
apart : (p u v t : List ℕ) (k : ℕ) → length u ≡ length v → (length p ≤ k → k < length p + length u → ⊥)
    → get_or (p ++ (u ++ t)) k 0 ≡ get_or (p ++ (v ++ t)) k 0
apart [] [] [] t k e h = refl
apart [] [] (y ∷ v) t k e h = absurd (omega (arith, e))
apart [] (x ∷ u) [] t k e h = absurd (omega (arith, e))
apart [] (x ∷ u) (y ∷ v) t zero e h = absurd (h (omega arith) (omega arith))
apart [] (x ∷ u) (y ∷ v) t (suc k) e h = apart [] u v t k (omega arith) (λ i j. h (omega arith) (omega arith))
apart (z ∷ p) u v t zero e h = refl
apart (z ∷ p) u v t (suc k) e h = apart p u v t k e (λ i j. h (omega arith) (omega arith))

not_inside : (r : Region) (k : ℕ) → outside r k ≡ true → r.lo ≤ k → k ≤ r.hi → ⊥
not_inside r k h i j = false≢true (simp (le-leb r.lo k i, le-leb k r.hi j) at h)

boards_agree : (a b key a' b' key' : ℕ) → Agree (layout_of layout) (board a b key 0) (board a' b' key' 0)
unfolding layout_of
boards_agree a b key a' b' key' =
    let x = board a b key 0 in
    let y = board a' b' key 0 in
    record {
      long = length_board a b key 0 ∙ sym (length_board a' b' key' 0);
      same =
          λ k kr xs.
          apart (take 3 x) (a ∷ b ∷ []) (a' ∷ b' ∷ []) (drop 5 x) k refl
          (λ i j. not_inside (layout_of layout).xs k xs i (omega arith))
          ∙ apart (take 38 y) (replicate 64 key) (replicate 64 key') (drop 102 y) k refl
          (λ i j. not_inside (layout_of layout).kr k kr i (omega arith));
    }

traces_same : (byte byte' : ℕ) → SameTrace (layout_of layout) (trace byte) (trace byte')
unfolding layout_of step_of
traces_same byte byte' = record {
  long = refl;
  same =
      λ k h.
      apart (take 19 (trace byte)) (byte ∷ []) (byte' ∷ []) (drop 20 (trace byte)) k refl
      (λ i j. let e : k ≡ 19 = omega arith in true≢false (simp e at h));
}

pub demand_3_witness : Demand3Witness
demand_3_witness = record {
  boards = boards_agree 0xb1 0xb2 0xa1 0x1b 0x2b 0x1a;
  traces = traces_same 0xc1 0x1c;
  one = call 0xb1 0xb2 0xa1 0xc1;
  other = call 0x1b 0x2b 0x1a 0x1c;
  sent = (refl, refl);
  scratch = (refl, refl);
  keys = (refl, refl);
}
