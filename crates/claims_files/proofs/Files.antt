-- Run files, proved. Assumes nothing.
use mathlib.Core.Path.{◌≡◌, refl, ap, sym, subst, ◌∙◌}
use mathlib.Core.Logic.{◌≢◌, ◌⊎◌, inl, inr}
use mathlib.Core.Bool.{not, ◌||◌}
use mathlib.Core.List.{List}
use Prim.Native.Nat.{ℕ, ◌*◌, ◌%◌, ◌≤◌, ◌<◌}
use native.Mathlib.Omega.{arith}
use lib.Dec.{ltb, eqb}
use lib.ListN.{length, length-take, length-drop}
use borrow.Author.Tests.{ltb-true, ltb-false, eq-eqb}
use Rattle.notions.specs.Choice.{pick}
use Rattle.refusal.specs.Answers.{Answer, refused_at, and_then, told, after_call}
use Rattle.refusal.specs.Numbers.{number}
use Rattle.refusal.specs.declared.Reason.TheVariants.{MemorySize, LayoutSize, RegionReversed, RegionSize, ZeroInCode, RegionsShare}
use Rattle.refusal.specs.declared.Reason.TheVariants.{TraceSize, RoomSize, StepNotZero, Contents, Segment, FileSize}
use Rattle.refusal.specs.declared.Refusal.{Refusal}
use Rattle.notions.proofs.Tests.{cases}
use Rattle.refusal.proofs.Order.{Refuses, refuses_none, refuses_test, refuses_untested, refuses_after, refuses_then}
use Rattle.layout.specs.Regions.{within}
use Rattle.layout.specs.Layouts.{CR, region, layout_of, first_reversed, first_wrong_size, first_collision, layout_check}
use Rattle.layout.specs.Calls.{call_check, memory_bytes}
use Rattle.layout.proofs.Calls.{call_rest}
use Rattle.monitor.specs.declared.Totals.{Totals}
use Rattle.traces.specs.Traces.{step_size, answer_size, count, steps}
use Rattle.monitor.specs.Runs.{begin, said, resetting, room_after, totals}
use Rattle.traces.specs.Traces.{most_steps, first_unclean, trace_check}
use Rattle.monitor.specs.Promises.{totals_values, traced_row, Traces}
use Rattle.monitor.proofs.Settled.{traced_row_settled}
use Rattle.monitor.proofs.Checks.{traced_judged, traced_refused}
use Rattle.file_contents.specs.Contents.{layout_entry, memory_entry, trace_entry, largest_file, entries, first_failing}
use Rattle.file_contents.specs.Contents.{file_check, body}
use Rattle.file_segments.specs.Segments.{segments, first_wrong, segment_check}
use Rattle.runfile.specs.Promises.{file_layout, file_memory, file_trace, file_totals, bodies_check, judge_check}
use Rattle.file_contents.proofs.Entries.{sound, layout_part}
use Rattle.runfile.proofs.Files.{admitted}
use Rattle.file_segments.proofs.Described as D
use Rattle.report.specs.Text.{printed, judged_text}
use Rattle.report.proofs.Laws.{judged_same}
use Rattle.claims_files.proofs.Parts.{segments_end, parts, passes, cut_fails}
use Rattle.claims_files.proofs.Bytes.{changed, layout_same, trace_same, judge_check_same, memories_agree}
use Rattle.claims_files.proofs.Bytes.{same_form, same_bytes, either_file}
use Rattle.claims_files.specs.Files as claim
use Rattle.claims_files.specs.Files.{Names, SameFile, SameBytes, cut_place}
use Rattle.claims_monitor.proofs.Demand3.{demand_3_runs}
use Rattle.claims_monitor.proofs.Demand3Calls.{blank_same, count_same, demand_3_calls}
use Rattle.std.specs.Prelude.{Err, Ok, Result}

-- ---- the parts of a file

pub bodies : claim.Bodies
bodies f = (parts f, passes f)

-- ---- the described memory

-- an address that a Segment does not name is before or behind it
beside : (b : List ℕ) (k a : ℕ) → (Names b k a → ⊥) → (a < D.from b k) ⊎ (D.till b k ≤ a)
beside b k a f =
    cases (ltb a (D.from b k)) (λ e. inl (ltb-true a (D.from b k) e))
    (λ e. cases (ltb a (D.till b k))
    (λ g. absurd (f (ltb-false a (D.from b k) e, ltb-true a (D.till b k) g)))
    (λ g. inr (ltb-false a (D.till b k) g)))

pub described_so : claim.DescribedSo
described_so b e = record {
  long = D.length_described b;
  whole = segments_end b e;
  once = λ j k a h l n m. omega (arith, D.ordered b e j k h l, n.1, m.0);
  named = D.named b e;
  unnamed = λ a h f. D.unnamed b e a h (λ k l. beside b k a (f k l));
}

-- ---- a file that is judged

pub file_is_trace : claim.FileIsTrace
file_is_trace file memory room memory' room' t j =
    let d = traced_judged (judge_check file memory room) t (file_totals file) j.answered in
    let p = admitted file memory room d.0 in
    let e
    : call_check (file_memory file) (body file layout_entry) (trace_check (file_trace file) (length room)) ≡ Ok tt =
    call_rest (file_memory file) (body file layout_entry) (trace_check (file_trace file) (length room))
    (D.length_described (body file memory_entry)) p.layout ∙ p.trace in
    record {
      answered = simp (e, d.1);
      memory_left = simp e (simp d.0 at j.memory_left);
      room_left = simp e (simp d.0 at j.room_left);
    }

-- the checks look at the lent memory's length alone
same_check : (f x y room : List ℕ) → length x ≡ length y → judge_check f x room ≡ judge_check f y room
unfolding judge_check bodies_check
same_check f x y room e =
    ap
    (λ (n : ℕ). and_then (file_check f)
    (pick (not (eqb n memory_bytes)) (refused_at MemorySize 0)
    (and_then (layout_check (body f layout_entry))
    (and_then (segment_check (body f memory_entry)) (trace_check (body f trace_entry) (length room))))))
    e

pub memory_unseen : claim.MemoryUnseen
memory_unseen file x y room x' room₁ y' room₂ r q e j k =
    let c = same_check file x y room e in
    let values = totals_values (file_totals file) in
    let filled = room_after (file_layout file) (file_trace file) (file_memory file) room in (
      traced_row_settled r q (j.answered ∙ ap (λ (a : Answer). told a values) c ∙ sym k.answered),
      j.room_left ∙ ap (λ (a : Answer). after_call a filled room) c ∙ sym k.room_left,
      λ t f.
          let row = subst (λ (o : Result Totals Refusal). traced_row o ≡ told (judge_check file x room) values) f j.answered in
          let d = traced_judged (judge_check file x room) t (file_totals file) row in
          (simp d.0 at j.memory_left) ∙ sym (simp (sym c ∙ d.0) at k.memory_left),
    )

-- ---- two files that hold the same but for key and scratch

judged_totals : (t u : Totals) → ◌≡◌ {A = (Result Totals Refusal)} (Ok t) (Ok u) → t ≡ u
judged_totals t u e = cc

pub demand_3_files : claim.Demand3Files
demand_3_files f g x y room x' y' room₁ room₂ t u s j k =
    let p = file_is_trace f x room x' room₁ t j in
    let q =
    subst (λ (b : List ℕ). Traces (file_memory g) b (file_trace g) room y' room₂ (Ok u)) (sym s.layouts)
    (file_is_trace g y room y' room₂ u k) in
    let d =
    demand_3_calls (body f layout_entry) (file_trace f) (file_trace g) room (file_memory f) (file_memory g) x' y' room₁ room₂
    (Ok t) (Ok u) s.memories s.traces p q in
    record { told = judged_totals t u d.told; rooms = d.rooms; memories = d.memories }

-- the text of a file that is judged
abbrev text_of : List ℕ → List ℕ
text_of f = judged_text (said (file_layout f) (steps (file_trace f)) (begin (file_memory f))) (file_totals f)

text_same : (f g : List ℕ) → SameFile f g → text_of f ≡ text_of g
text_same f g s =
    let l = file_layout f in
    let h = file_trace f in
    let c = file_trace g in
    let w = begin (file_memory f) in
    let z = begin (file_memory g) in
    let u =
    demand_3_runs l (steps h) (steps c) (file_memory f) (file_memory g) (count h) s.memories
    (λ k i. blank_same l h c s.traces k) in
    let e : file_totals f ≡ totals l c (file_memory g) =
    ap (λ (n : ℕ). record { steps = count h; resets = n }) u.counted
    ∙ ap (λ (n : ℕ). record { steps = n; resets = resetting l (steps c) z n }) (count_same l h c s.traces) in
    let shows : List ℕ → List ℕ =
    λ bytes. judged_text (said (layout_of bytes) (steps c) z) (totals (layout_of bytes) c (file_memory g)) in
    judged_same (said l (steps h) w) (said l (steps c) z) (file_totals f) u.each
    ∙ ap (judged_text (said l (steps c) z)) e
    ∙ ap shows s.layouts

pub prints_the_same : claim.PrintsTheSame
prints_the_same f g x y room s a b = simp (a, b) (text_same f g s)

-- ---- two files with the same bytes but for key and scratch

same_file : (f g : List ℕ) → SameBytes f g → segment_check (body f memory_entry) ≡ Ok tt → SameFile f g
same_file f g s e = record { layouts = layout_same f g s; memories = memories_agree f g s e; traces = trace_same f g s }

module _ (f g x y room : List ℕ) (s : SameBytes f g) (e : length x ≡ length y) where
  holds_the_same : judge_check f x room ≡ Ok tt → SameFile f g
  holds_the_same d = same_file f g s (admitted f x room d).segments

  not_one_alone : (v : Refusal) → judge_check f x room ≡ Ok tt → judge_check g y room ≡ Err v → ⊥
  not_one_alone v d h = refuses_none (λ n. ⊥) v (sym d ∙ judge_check_same f g s x y room e ∙ h)

pub demand_3_bytes : claim.Demand3Bytes
demand_3_bytes f g x y room x' y' room₁ room₂ (Ok t) (Ok u) s e j k =
    let d = traced_judged (judge_check f x room) t (file_totals f) j.answered in
    let c = demand_3_files f g x y room x' y' room₁ room₂ t u (holds_the_same f g x y room s e d.0) j k in
    (ap Ok c.told, c.rooms, λ v h. c.memories)
demand_3_bytes f g x y room x' y' room₁ room₂ (Ok t) (Err w) s e j k =
    let d = traced_judged (judge_check f x room) t (file_totals f) j.answered in
    let i = traced_refused (judge_check g y room) w (file_totals g) k.answered in
    absurd (not_one_alone f g x y room s e w d.0 i)
demand_3_bytes f g x y room x' y' room₁ room₂ (Err v) (Ok u) s e j k =
    let h = traced_refused (judge_check f x room) v (file_totals f) j.answered in
    let d = traced_judged (judge_check g y room) u (file_totals g) k.answered in
    absurd (not_one_alone g f y x room (either_file f g s) (sym e) v d.0 h)
demand_3_bytes f g x y room x' y' room₁ room₂ (Err v) (Err w) s e j k =
    let h = traced_refused (judge_check f x room) v (file_totals f) j.answered in
    let i = traced_refused (judge_check g y room) w (file_totals g) k.answered in
    let z : ◌≡◌ {A = Answer} (Err v) (Err w) = sym h ∙ judge_check_same f g s x y room e ∙ i in (
      ap Err (cc),
      (simp h at j.room_left) ∙ sym (simp i at k.room_left),
      λ t d. absurd (let a : ◌≡◌ {A = ℕ} 0 1 = cc in omega arith),
    )

text_after : (a b : Answer) (v w : List ℕ) → a ≡ b → (a ≡ Ok tt → v ≡ w) → printed a v ≡ printed b w
text_after (Ok _) b v w e f = simp (sym e) (f refl)
text_after (Err r) b v w e f = simp (sym e)

pub prints_alike : claim.PrintsAlike
prints_alike f g x y room s e =
    text_after (judge_check f x room) (judge_check g y room) (text_of f) (text_of g) (judge_check_same f g s x y room e)
    (λ d. text_same f g (holds_the_same f g x y room s e d))

-- ---- which files these are

pub hidden_is_free : claim.HiddenIsFree
hidden_is_free = changed

pub same_bytes_exact : claim.SameBytesExact
same_bytes_exact f g c e = (λ s. (same_form f g s, same_file f g s e), λ s. same_bytes f g c e s.0 s.1)

pub either_file_tells : claim.EitherFileTells
either_file_tells = either_file

-- ---- one that is refused

pub cut_short : claim.CutShort
unfolding judge_check
cut_short f memory room memory' room' n r e h j =
    traced_row_settled r (Err (record { reason = Contents; place = cut_place f n }))
    (j.answered ∙ simp (cut_fails f n e h))

not_2 : ℕ → Type 0
not_2 n = n ≢ number LayoutSize

-- a layout of 24 bytes
layout_not_2 : (b : List ℕ) → length b ≡ 24 → Refuses not_2 (layout_check b)
unfolding layout_check not_2
layout_not_2 b e =
    refuses_untested not_2 (not (eqb (length b) 24)) LayoutSize 0 _ (simp (eq-eqb (length b) 24 e))
    (refuses_test not_2 (ltb (first_reversed b) 6) RegionReversed (first_reversed b) _ (λ z. omega arith)
    (refuses_test not_2 (ltb (first_wrong_size b) 6) RegionSize (first_wrong_size b) _ (λ z. omega arith)
    (refuses_test not_2 (within (region b CR) 0) ZeroInCode 0 _ (λ z. omega arith)
    (refuses_test not_2 (ltb (first_collision b) 36) RegionsShare 0 (Ok tt) (λ z. omega arith) (refuses_none not_2)))))

file_not_2 : (f : List ℕ) → Refuses not_2 (file_check f)
unfolding file_check not_2
file_not_2 f =
    refuses_test not_2 (ltb largest_file (length f)) FileSize 0 _ (λ z. omega arith)
    (refuses_test not_2 (ltb (first_failing f) entries) Contents (first_failing f) (Ok tt) (λ z. omega arith)
    (refuses_none not_2))

segments_not_2 : (b : List ℕ) → Refuses not_2 (segment_check b)
unfolding segment_check not_2
segments_not_2 b =
    refuses_test not_2 (ltb (first_wrong b) (segments b)) Segment (first_wrong b) (Ok tt) (λ z. omega arith)
    (refuses_none not_2)

trace_not_2 : (b : List ℕ) (room : ℕ) → Refuses not_2 (trace_check b room)
unfolding trace_check not_2
trace_not_2 b room =
    refuses_test not_2 (not (eqb (length b % step_size) 0) || ltb most_steps (count b)) TraceSize 0 _ (λ z. omega arith)
    (refuses_test not_2 (ltb room (answer_size * count b)) RoomSize 0 _ (λ z. omega arith)
    (refuses_test not_2 (ltb (first_unclean b) (count b)) StepNotZero (first_unclean b) (Ok tt) (λ z. omega arith)
    (refuses_none not_2)))

length_layout : (f : List ℕ) → file_check f ≡ Ok tt → length (body f layout_entry) ≡ 24
length_layout f e =
    let s = sound f e in
    ap length (sym (layout_part f s)) ∙ simp (length-take, length-drop) (omega (arith, s.whole))

judge_not_2 : (f memory room : List ℕ) → Refuses not_2 (judge_check f memory room)
unfolding judge_check bodies_check not_2
judge_not_2 f memory room =
    refuses_after not_2 (file_check f) _ (file_not_2 f) (λ e.
    refuses_test not_2 (not (eqb (length memory) memory_bytes)) MemorySize 0 _ (λ z. omega arith)
    (refuses_then not_2 (layout_check (body f layout_entry)) _ (layout_not_2 (body f layout_entry) (length_layout f e))
    (refuses_then not_2 (segment_check (body f memory_entry)) _ (segments_not_2 (body f memory_entry))
    (trace_not_2 (body f trace_entry) (length room)))))

pub never_layout_size : claim.NeverLayoutSize
unfolding not_2
never_layout_size file memory room memory' room' r j =
    judge_not_2 file memory room r (traced_refused (judge_check file memory room) r (file_totals file) j.answered)
