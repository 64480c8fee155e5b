-- Every public call answers as the rules page's table says: the claims of demand 1. Assumes nothing.
use mathlib.Core.Path.{◌≡◌, refl, ap, sym, ◌∙◌}
use mathlib.Core.Logic.{◌≢◌, ◌⊎◌, ◌↔◌}
use mathlib.Core.Bool.{Bool, true, false, not, ◌&&◌, ◌||◌}
use mathlib.Core.List.{List, [], ◌∷◌, ◌++◌}
use Prim.Native.Nat.{ℕ, suc, ◌+◌, ◌*◌, ◌/◌, ◌%◌, ◌≤◌, ◌<◌}
use native.Mathlib.Omega.{arith}
use lib.Dec.{leb, ltb, eqb}
use lib.ListN.{length, get_or}
use borrow.Author.Tests.{not-true, not-false}
use Rattle.notions.specs.Choice.{pick}
use Rattle.notions.specs.First.{first}
use Rattle.refusal.proofs.Settled.{row_settled}
use Rattle.refusal.specs.Answers as A
use Rattle.refusal.specs.Answers.{Answer, refused_if, refused_at, told}
use Rattle.refusal.specs.declared.Reason.TheVariants.{MemorySize, LayoutSize, RegionReversed, RegionSize, ZeroInCode}
use Rattle.refusal.specs.declared.Reason.TheVariants.{RegionsShare, TraceSize, RoomSize, StepNotZero}
use Rattle.refusal.specs.declared.Reason.TheVariants.{ChallengeNotGreater, TokenDiffers, LengthOrTotal}
use Rattle.refusal.specs.declared.Reason.TheVariants.{Contents, Segment, FileSize}
use Rattle.refusal.specs.declared.Refusal.{Refusal}
use Rattle.notions.proofs.Tests.{clash}
use Rattle.layout.specs.declared.Region.{Region}
use Rattle.layout.specs.Regions.{within, reversed, size, shares}
use Rattle.layout.specs.Layouts.{CR, KR, MR, CTR, AR, region, layout_of, wrong_size, collide, first_collision, layout_check}
use Rattle.layout.specs.Promises as layouts
use Rattle.layout.proofs.Settled as settled
use Rattle.layout.specs.Calls.{call_check}
use Rattle.layout.proofs.Laws.{within_ends, ends_within, shares_exactly}
use Rattle.steps.specs.declared.Step.{Step}
use Rattle.monitor.specs.Decisions.{next}
use Rattle.monitor.proofs.Settled.{traced_row_settled, stepped_row_settled}
use Rattle.traces.specs.Traces.{count, steps}
use Rattle.monitor.specs.Runs.{totals}
use Rattle.traces.specs.Traces.{misfits, unclean, trace_check, step_check}
use Rattle.monitor.specs.Promises.{totals_values, traced_row, remembered, stepped_row}
use Rattle.traces.proofs.Laws.{step_byte}
use Rattle.reader.specs.Reading as reads
use Rattle.reader.specs.Reading.{read_at, place_after, step_values, read_row}
use Rattle.reader.proofs.Settled.{read_row_settled}
use Rattle.hmac.specs.Hmac.{hmac}
use Rattle.routine.specs.Strings.{same, greater}
use Rattle.routine.specs.Routine.{token, reply, request_check}
use Rattle.routine.proofs.Order.{same_equal, equal_same}
use Rattle.board.specs.Memory.{key, counter, challenge, received}
use Rattle.board.specs.Attestation.{request_check_in, attest_check}
use Rattle.station.specs.Promises as station
use Rattle.station.proofs.Settled.{verdict_row_settled}
use Rattle.file_contents.specs.Contents as contents
use Rattle.file_contents.specs.Contents.{layout_entry, memory_entry, trace_entry, offset, begins, entry_fails, first_failing, file_check, body}
use Rattle.file_segments.specs.Segments.{start_at, size_at, place, reached, segments, segment_fails, first_wrong, segment_check}
use Rattle.runfile.specs.Promises.{bodies_check, judge_check, file_totals}
use Rattle.conditions.specs.Conditions.{Condition, plain, first_of, RefusedAs, Answers}
use Rattle.sha256.specs.Promises.{Gives}
use Rattle.conditions.proofs.Tells.{Tells, tells_lt, tells_ge, tells_le, tells_eq, tells_ne, tells_not}
use Rattle.conditions.proofs.Tells.{tells_or, tells_and, tells_lacks, tells_as, tells_flat, tells_some}
use Rattle.conditions.proofs.Follows.{Once, once_none, once_placed, once_first}
use Rattle.conditions.proofs.Follows.{Follows, follows_none, follows_placed, follows_plain, follows_first, follows_then}
use Rattle.conditions.proofs.Answers.{Rows, answers_checked, answers_told, lent_kept}
use Rattle.claims_refusals.specs.Demand1 as claim
use Rattle.claims_refusals.specs.Demand1.{In, HasBytes, SharedAddress, WrongSize, NotZero, EntryFails}
use Rattle.claims_refusals.specs.Demand1.{SegmentFails, segment_condition}
use Rattle.claims_refusals.specs.Demand1.{memory_length, layout_conditions, trace_conditions, step_conditions}
use Rattle.claims_refusals.specs.Demand1.{reader_conditions, request_conditions, length_conditions}
use Rattle.claims_refusals.specs.Demand1.{attest_call, file_call}
use Rattle.std.specs.Prelude.{Err, None, Ok, Option, Result, Some}
use Rattle.layout.specs.declared.Layout.{Layout}
use Rattle.rules.specs.declared.Monitor.{Monitor}
use Rattle.monitor.specs.declared.Totals.{Totals}

-- ---- 2 to 6: the layout

-- a size is told without a difference
tells_sized : (r : Region) (n : ℕ) → 1 ≤ n → Tells (not (eqb (size r) n)) (HasBytes r n → ⊥)
tells_sized r n h = tells_not (tells_as (λ e. omega arith) (λ e. omega arith) (tells_eq (size r) n))

tells_small : (r : Region) (n : ℕ) → 1 ≤ n → Tells (ltb (size r) n) (r.hi + 1 < r.lo + n)
tells_small r n h = tells_as (λ e. omega arith) (λ e. omega arith) (tells_lt (size r) n)

tells_wrong : (b : List ℕ) (k : ℕ) → Tells (wrong_size k (region b k)) (WrongSize b k)
tells_wrong b k =
    let r = region b k in
    tells_flat (tells_or
    (tells_or
    (tells_and (tells_eq k KR) (tells_sized r 64 (omega arith)))
    (tells_and (tells_eq k MR) (tells_small r 96 (omega arith))))
    (tells_and (tells_eq k CTR) (tells_sized r 32 (omega arith))))

tells_in : (r : Region) (a : ℕ) → Tells (within r a) (In a r)
tells_in r a = tells_and (tells_le r.lo a) (tells_le a r.hi)

tells_shares : (a b : Region) → reversed a ≡ false → reversed b ≡ false → Tells (shares a b) ((k : ℕ) × In k a × In k b)
tells_shares a b u v =
    let s = shares_exactly a b u v in
    record {
      yes = λ e. let x = s.0 e in (x.0, within_ends a x.0 x.1, within_ends b x.0 x.2);
      no =
          λ e x. clash (shares a b)
          (s.1 (x.0, ends_within a x.0 x.1.0 x.1.1, ends_within b x.0 x.2.0 x.2.1)) e;
    }

-- two regions share an address and may not
abbrev Shared : List ℕ → ℕ → ℕ → Type 0
Shared b i j = (i < j) × (((i ≡ CR) × (j ≡ AR) → ⊥) × ((k : ℕ) × In k (region b i) × In k (region b j)))

-- which the test finds where no region is reversed
module _ (b : List ℕ) (forward : (k : ℕ) → k < 6 → reversed (region b k) ≡ false) where
  tells_collide : (i j : ℕ) → i < 6 → j < 6 → Tells (ltb i j && collide b i j) (Shared b i j)
  tells_collide i j g h =
      tells_and (tells_lt i j)
      (tells_and (tells_not (tells_and (tells_eq i CR) (tells_eq j AR)))
      (tells_shares (region b i) (region b j) (forward i g) (forward j h)))

  tells_shared : Tells (ltb (first_collision b) 36) (SharedAddress b)
  tells_shared =
      tells_some 36 (λ n. ltb (n / 6) (n % 6) && collide b (n / 6) (n % 6))
      (λ n h e.
      let x = (tells_collide (n / 6) (n % 6) (omega arith) (omega arith)).yes e in
      record {
        one = n / 6;
        other = n % 6;
        address = x.1.1.0;
        ordered = x.0;
        listed = omega arith;
        forbidden = x.1.0;
        in_one = x.1.1.1;
        in_other = x.1.1.2;
      })
      (λ f s.
      let i : ℕ = s.one in
      let j : ℕ = s.other in
      let l : i < j = s.ordered in
      let h : j < 6 = s.listed in
      let en : (6 * i + j) / 6 ≡ i = omega arith in
      let em : (6 * i + j) % 6 ≡ j = omega arith in
      let c : (ltb i j && collide b i j) ≡ false = simp (en, em) at (f (6 * i + j) (omega arith)) in
      (tells_collide i j (omega arith) h).no c (l, (s.forbidden, (s.address, s.in_one, s.in_other))))

follows_layout : (b : List ℕ) → Follows (layout_conditions b) (layout_check b)
unfolding layout_check
follows_layout b =
    follows_plain LayoutSize (tells_ne (length b) 24) (λ d.
    follows_first RegionReversed 6 (λ k. reversed (region b k)) (λ k. tells_lt (region b k).hi (region b k).lo) (λ forward.
    follows_first RegionSize 6 (λ k. wrong_size k (region b k)) (tells_wrong b) (λ e.
    follows_plain ZeroInCode (tells_in (region b CR) 0) (λ f.
    follows_plain RegionsShare (tells_shared b forward) (λ g. follows_none)))))

once_layout : (b : List ℕ) (ds : List Condition) → Once ds → Once (layout_conditions b ++ ds)
once_layout b ds o = once_placed (once_first (once_first (once_placed (once_placed o))))

-- ---- 7 to 9: a trace, or one step

tells_set : (x y z w : ℕ)
    → Tells (not (ltb x 32 && eqb y 0 && eqb z 0 && eqb w 0)) ((32 ≤ x) ⊎ (y ≢ 0) ⊎ (z ≢ 0) ⊎ (w ≢ 0))
tells_set x y z w =
    tells_flat (tells_flat
    (tells_lacks (ltb x 32 && eqb y 0 && eqb z 0) (eqb w 0)
    (tells_lacks (ltb x 32 && eqb y 0) (eqb z 0)
    (tells_lacks (ltb x 32) (eqb y 0) (tells_ge x 32) (tells_ne y 0))
    (tells_ne z 0))
    (tells_ne w 0)))

tells_not_zero : (b : List ℕ) (k : ℕ) → Tells (unclean b k) (NotZero b k)
tells_not_zero b k =
    rw (
      step_byte b k 6 (omega arith),
      step_byte b k 9 (omega arith),
      step_byte b k 10 (omega arith),
      step_byte b k 11 (omega arith),
    ) (tells_set (get_or b (12 * k + 6) 0) (get_or b (12 * k + 9) 0) (get_or b (12 * k + 10) 0) (get_or b (12 * k + 11) 0))

tells_length : (b : List ℕ) → Tells (misfits b) ((length b % 12 ≢ 0) ⊎ (4096 < count b))
tells_length b = tells_or (tells_ne (length b % 12) 0) (tells_lt 4096 (count b))

follows_trace : (b room : List ℕ) → Follows (trace_conditions b room) (trace_check b (length room))
unfolding trace_check
follows_trace b room =
    follows_plain TraceSize (tells_length b) (λ d.
    follows_plain RoomSize (tells_lt (length room) (4 * count b)) (λ e.
    follows_first StepNotZero (count b) (unclean b) (tells_not_zero b) (λ f. follows_none)))

once_trace : (b room : List ℕ) → Once (trace_conditions b room)
once_trace b room = once_placed (once_placed (once_first once_none))

follows_step : (b room : List ℕ) → Follows (step_conditions b room) (step_check b (length room))
unfolding step_check
follows_step b room =
    follows_plain TraceSize (tells_ne (length b) 12) (λ d.
    follows_plain RoomSize (tells_lt (length room) 4) (λ e.
    follows_plain StepNotZero (tells_not_zero b 0) (λ f. follows_none)))

-- ---- 7 and 9: a reader at a place

-- what it refuses, and what it tells if it does not: a step, or nothing at the end
abbrev read_check : List ℕ → ℕ → Answer
read_check b p =
    pick (misfits b) (refused_at TraceSize 0)
    (pick (not (leb (count b) p) && unclean b p) (refused_at StepNotZero p) (Ok tt))

abbrev read_values : List ℕ → ℕ → List ℕ
read_values b p = pick (leb (count b) p) [] (step_values (steps b p))

read_picked : (m e u : Bool) (p : ℕ) (s : Step)
    → read_row (pick m (reads.refused_read TraceSize 0)
    (pick e (Ok None) (pick u (reads.refused_read StepNotZero p) (Ok (Some s)))))
    ≡ told (pick m (refused_at TraceSize 0) (pick (not e && u) (refused_at StepNotZero p) (Ok tt)))
    (pick e [] (step_values s))
read_picked true e u p s = refl
read_picked false true u p s = refl
read_picked false false true p s = refl
read_picked false false false p s = refl

read_told : (b : List ℕ) (p : ℕ) → read_row (read_at b p) ≡ told (read_check b p) (read_values b p)
unfolding read_at
read_told b p = read_picked (misfits b) (leb (count b) p) (unclean b p) p (steps b p)

not_one : (e : Bool) (s : Step) → length (pick e [] (step_values s)) ≢ 1
not_one true s = λ h. omega arith
not_one false s = λ h. omega arith

follows_reader : (b : List ℕ) (p : ℕ) → Follows (reader_conditions b p) (read_check b p)
follows_reader b p =
    follows_plain TraceSize (tells_length b) (λ d.
    follows_placed StepNotZero p
    (tells_and (tells_as (λ h. omega arith) (λ h. omega arith) (tells_not (tells_le (count b) p))) (tells_not_zero b p))
    (λ e. follows_none))

-- a refusal leaves the place
refused_place : (r : Result (Option Step) Refusal) (a : Answer) (q : Refusal) (v : List ℕ) (p : ℕ) → read_row r ≡ told a v → a ≡ Err q
    → place_after r p ≡ p
refused_place (Ok (Some s)) a q v p e f =
    absurd (let z : ◌≡◌ {A = ℕ} 11 2 = ap length (e ∙ ap (λ (x : Answer). told x v) f) in omega arith)
refused_place (Ok None) a q v p e f = refl
refused_place (Err r) a q v p e f = refl

-- ---- 10 and 11: a request

tells_false : (t : Bool) → Tells (not t) (t ≡ false)
tells_false t = record { yes = not-true t; no = λ e f. clash t (not-false t e) f }

tells_differ : (a b : List ℕ) → Tells (not (same a b)) (b ≢ a)
tells_differ a b =
    tells_not (record { yes = λ e. sym (same_equal a b e); no = λ e f. clash (same a b) (equal_same a b (sym f)) e })

follows_request : (memory layout : List ℕ)
    → Follows (request_conditions memory layout) (request_check_in (layout_of layout) memory)
unfolding request_check token
follows_request memory layout =
    let l = layout_of layout in
    follows_plain ChallengeNotGreater (tells_false (greater (challenge l memory) (counter l memory))) (λ d.
    follows_plain TokenDiffers (tells_differ (hmac (key l memory) (challenge l memory)) (received l memory)) (λ e. follows_none))

-- ---- 1, and the order of a call

follows_call : (memory layout : List ℕ) (ds : List Condition) (rest : Answer) → Follows ds rest
    → Follows (memory_length memory ∷ layout_conditions layout ++ ds) (call_check memory layout rest)
follows_call memory layout ds rest f =
    follows_plain MemorySize (tells_ne (length memory) 65536) (λ d. follows_then (follows_layout layout) f)

once_call : (memory layout : List ℕ) (ds : List Condition) → Once ds
    → Once (memory_length memory ∷ layout_conditions layout ++ ds)
once_call memory layout ds o = once_placed (once_layout layout ds o)

follows_attest : (memory layout : List ℕ) → Follows (attest_call memory layout) (attest_check memory layout)
unfolding attest_check
follows_attest memory layout = follows_call memory layout _ _ (follows_request memory layout)

-- ---- 15 and 13: a run file's contents

tells_entry : (f : List ℕ) (k : ℕ) → Tells (ltb (length f) 24 || entry_fails f k) (EntryFails f k)
unfolding entry_fails
tells_entry f k =
    let begin = begins f k in
    tells_or (tells_lt (length f) 24)
    (tells_flat (tells_flat
    (tells_or
    (tells_or
    (tells_or (tells_ne (offset f k) begin) (tells_lt (length f) (begin + contents.size f k)))
    (tells_and (tells_eq k layout_entry) (tells_ne (contents.size f k) 24)))
    (tells_and (tells_eq k trace_entry) (tells_lt (begin + contents.size f k) (length f))))))

-- a file too short for its contents fails at each entry, so first at entry 0
first_any : (n : ℕ) (u : Bool) (t : ℕ → Bool) → pick u 0 (first (suc n) t) ≡ first (suc n) (λ k. u || t k)
unfolding first
first_any n true t = refl
first_any n false t = refl

follows_file : (f : List ℕ)
    → Follows (plain 15 (49152 < length f) ∷ first_of 13 3 (EntryFails f) ∷ []) (file_check f)
unfolding file_check first_failing
follows_file f =
    follows_plain FileSize (tells_lt 49152 (length f)) (λ d.
    rw (first_any 2 (ltb (length f) 24) (entry_fails f))
    (follows_first Contents 3 (λ k. ltb (length f) 24 || entry_fails f k) (tells_entry f) (λ e. follows_none)))

-- ---- 14: the segments of a memory

tells_segment : (b : List ℕ) (k : ℕ) → Tells (segment_fails b k) (SegmentFails b k)
unfolding segment_fails
tells_segment b k =
    let p = place b k in
    tells_flat (tells_flat (tells_flat
    (tells_or
    (tells_or
    (tells_or
    (tells_or (tells_lt (length b) (p + 4)) (tells_eq (size_at b p) 0))
    (tells_lt (length b) (p + 4 + size_at b p)))
    (tells_lt (start_at b p) (reached b k)))
    (tells_lt 65536 (start_at b p + size_at b p)))))

follows_segments : (b : List ℕ) → Follows (segment_condition b ∷ []) (segment_check b)
unfolding segment_check first_wrong
follows_segments b = follows_first Segment (segments b) (segment_fails b) (tells_segment b) (λ e. follows_none)

follows_judge : (file memory room : List ℕ) → Follows (file_call file memory room) (judge_check file memory room)
unfolding judge_check bodies_check
follows_judge file memory room =
    follows_then (follows_file file)
    (follows_call memory (body file layout_entry) _ _
    (follows_then (follows_segments (body file memory_entry)) (follows_trace (body file trace_entry) room)))

-- ---- 12: lengths

follows_length : {t : Bool} {P : Type 0} → Tells t P → Follows (length_conditions P) (pick t (refused_at LengthOrTotal 0) (Ok tt))
follows_length h = follows_plain LengthOrTotal h (λ e. follows_none)

-- the same as rows
told_length : (t : Bool) → refused_if t LengthOrTotal ≡ told (pick t (refused_at LengthOrTotal 0) (Ok tt)) []
told_length true = refl
told_length false = refl

refused_by : (t : Bool) (q : Refusal) → pick t (refused_at LengthOrTotal 0) (Ok tt) ≡ Err q → t ≡ true
refused_by true q e = refl
refused_by false q e = absurd (cc)

-- ---- answers by their rows

told_nothing : (a : Answer) → A.row a ≡ told a []
told_nothing (Ok _) = refl
told_nothing (Err q) = refl

checked_rows : Rows Layout layouts.checked_row
checked_rows = record { refuses = λ q. refl; settled = settled.checked_row_settled }

traced_rows : Rows Totals traced_row
traced_rows = record { refuses = λ q. refl; settled = traced_row_settled }

stepped_rows : Rows Monitor stepped_row
stepped_rows = record { refuses = λ q. refl; settled = stepped_row_settled }

verdict_rows : Rows Bool station.verdict_row
verdict_rows = record { refuses = λ q. refl; settled = verdict_row_settled }

read_rows : Rows (Option Step) read_row
read_rows = record { refuses = λ q. refl; settled = read_row_settled }

call_rows : Rows Unit A.row
call_rows = record { refuses = λ q. refl; settled = row_settled }

-- ---- the claims

pub layout_answers : claim.LayoutAnswers
layout_answers layout r p =
    answers_told Unit (layouts.layout_values (layout_of layout)) r checked_rows (once_layout layout [] once_none)
    (follows_layout layout)
    (λ e. omega arith) p.answered (λ q e. tt)

pub trace_answers : claim.TraceAnswers
trace_answers memory layout trace room memory' room' r p =
    answers_told _ (totals_values (totals (layout_of layout) trace memory)) r traced_rows
    (once_call memory layout _ (once_trace trace room))
    (follows_call memory layout _ _ (follows_trace trace room))
    (λ e. omega arith) p.answered
    (λ q e. (p.memory_left ∙ lent_kept _ memory e, p.room_left ∙ lent_kept _ room e))

pub step_answers : claim.StepAnswers
step_answers memory layout step m room memory' room' r p =
    answers_told _ (remembered (next (layout_of layout) m (steps step 0))) r stepped_rows
    (once_call memory layout _ (once_placed (once_placed (once_placed once_none))))
    (follows_call memory layout _ _ (follows_step step room))
    (λ e. omega arith) p.answered
    (λ q e. (p.memory_left ∙ lent_kept _ memory e, p.room_left ∙ lent_kept _ room e))

pub attest_answers : claim.AttestAnswers
attest_answers memory layout memory' r p =
    answers_told _ [] r call_rows (once_call memory layout _ (once_placed (once_placed once_none)))
    (follows_attest memory layout)
    (λ e. omega arith) (p.answered ∙ told_nothing (attest_check memory layout))
    (λ q e. cc (p.memory_left ∙ lent_kept _ memory e))

pub judge_answers : claim.JudgeAnswers
judge_answers file memory room memory' room' r p =
    answers_told _ (totals_values (file_totals file)) r traced_rows
    (once_placed (once_first (once_call memory (body file layout_entry) _ (once_first (once_trace (body file trace_entry) room)))))
    (follows_judge file memory room)
    (λ e. omega arith) p.answered
    (λ q e. (p.memory_left ∙ lent_kept _ memory e, p.room_left ∙ lent_kept _ room e))

one_of_two : (t : Bool) → length (pick {A = List ℕ} t (1 ∷ 0 ∷ []) (0 ∷ 1 ∷ [])) ≢ 1
one_of_two true e = omega arith
one_of_two false e = omega arith

pub check_answers : claim.CheckAnswers
check_answers k c given region r p =
    answers_told Unit _ r verdict_rows (once_placed once_none)
    (follows_length
    (tells_flat (tells_flat (tells_flat
    (tells_or
    (tells_or
    (tells_or (tells_or (tells_ne (length k) 64) (tells_ne (length c) 32)) (tells_ne (length given) 32))
    (tells_eq (length region) 0))
    (tells_lt 65536 (length region)))))))
    (one_of_two (same given (reply k c region))) p.answered (λ q e. tt)

-- those whose answer tells nothing besides
answers_by_length : {t : Bool} {P : Type 0} (r : Answer) (Kept : Type 0) → Tells t P → A.row r ≡ refused_if t LengthOrTotal
    → (t ≡ true → Kept)
    → Answers (length_conditions P) (RefusedAs r) Kept
answers_by_length {t} r Kept h e kept =
    answers_told Kept [] r call_rows (once_placed once_none) (follows_length h) (λ d. omega arith) (e ∙ told_length t)
    (λ q d. kept (refused_by t q d))

-- those that give 32 bytes refuse where their check does
given_refuses : (t : Bool) (b : List ℕ) (r : Result (List ℕ) Refusal) → Gives t b r → (q : Refusal)
    → (r ≡ Err q) ↔ (pick t (refused_at LengthOrTotal 0) (Ok tt) ≡ Err q)
given_refuses true b r p q = (λ e. let z = sym p ∙ e in cc, λ e. p ∙ (let z = e in cc))
given_refuses false b r p q = (λ e. absurd (let z = sym p ∙ e in cc), λ e. absurd (cc))

answers_given : {t : Bool} {P : Type 0} (b : List ℕ) (r : Result (List ℕ) Refusal) → Tells t P → Gives t b r
    → Answers (length_conditions P) (RefusedAs r) Unit
answers_given {t} b r h g =
    answers_checked _ Unit (once_placed once_none) (follows_length h)
    (λ n p d. (d.0, (given_refuses t b r g d.0).0 d.1, d.2, d.3))
    (λ n p d. (d.0, (given_refuses t b r g d.0).1 d.1, d.2, d.3))
    (λ n p d. tt)

pub token_answers : claim.TokenAnswers
token_answers k c r p = answers_given _ r (tells_or (tells_ne (length k) 64) (tells_ne (length c) 32)) p

pub hash_answers : claim.HashAnswers
hash_answers m r p = answers_given _ r (tells_lt 131072 (length m)) p

pub take_in_answers : claim.TakeInAnswers
take_in_answers s x r p =
    answers_by_length r.answer _ (tells_lt 131072 (s.total + length x)) p.answered
    (λ e. let k : r.state ≡ s = p.handed ∙ simp e in cc)

pub finish_answers : claim.FinishAnswers
finish_answers s r p = answers_given _ r (tells_lt 131072 s.total) p

pub mac_answers : claim.MacAnswers
mac_answers k m r p = answers_given _ r (tells_or (tells_lt 65536 (length k)) (tells_lt 65536 (length m))) p

pub lent_take_in_answers : claim.LentTakeInAnswers
lent_take_in_answers s x s' r p = take_in_answers s x (record { answer = r; state = s' }) p

pub lent_finish_answers : claim.LentFinishAnswers
lent_finish_answers s r p = finish_answers s r p

pub reader_answers : claim.ReaderAnswers
reader_answers h h' r p =
    let b : List ℕ = h.trace.now in
    let k : ℕ = h.place in
    let told_so : read_row r ≡ told (read_check b k) (read_values b k) = p.advanced.answered ∙ read_told b k in
    answers_told _ (read_values b k) r read_rows (once_placed (once_placed once_none)) (follows_reader b k)
    (not_one (leb (count b) k) (steps b k)) told_so
    (λ q e.
    let place : h'.place ≡ k =
    p.advanced.moved ∙ refused_place (read_at b k) (read_check b k) q (read_values b k) k (read_told b k) e in
    λ i. record { trace = p.holds i; place = place i })
