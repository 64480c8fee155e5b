-- The claims about the counter's history hold. Assumes nothing.
use mathlib.Core.Path.{◌≡◌, refl, sym, ap, subst, ◌∙◌}
use mathlib.Core.Logic.{◌≢◌, ◌⊎◌, inl, inr}
use mathlib.Core.Bool.{true, false, or-true}
use mathlib.Core.List.{List}
use Prim.Native.Nat.{ℕ, zero, suc, ◌≤◌, ◌<◌}
use native.Mathlib.Omega.{arith}
use lib.Dec.{eqb, ltb}
use lib.ListN.{length, get_or}
use borrow.Author.Tests.{eqb-true, eqb-false, ltb-true, ltb-false}
use Rattle.notions.specs.Bytes.{Bytes}
use Rattle.refusal.specs.Answers.{Answer, refused_at, after_call}
use Rattle.refusal.specs.declared.Reason.TheVariants.{ChallengeNotGreater}
use Rattle.notions.proofs.Tests.{cases, clash, untrue}
use Rattle.layout.specs.declared.Layout.{Layout}
use Rattle.layout.specs.Regions.{within, size}
use Rattle.layout.specs.Layouts.{layout_of}
use Rattle.layout.specs.Calls.{memory_bytes, call_check}
use Rattle.layout.specs.Good.{Good}
use Rattle.layout.proofs.Laws.{good_done}
use Rattle.layout.proofs.Placed.{placed}
use Rattle.steps.specs.declared.Step.{Step}
use Rattle.monitor.specs.Decisions.{decided_memory}
use Rattle.monitor.specs.Runs.{State, begin, before, memory_after}
use Rattle.traces.specs.Traces.{count, steps}
use Rattle.traces.specs.Traces.{trace_check, step_check}
use Rattle.routine.specs.Strings.{greater}
use Rattle.routine.specs.Routine.{token}
use Rattle.routine.proofs.Laws.{reply_is}
use Rattle.routine.proofs.Order.{greater_irreflexive, greater_trans, not_greater, weight_greater}
use Rattle.board.specs.Memory.{key, counter, attested, challenge, replied}
use Rattle.board.specs.Attestation.{due, accepted}
use Rattle.board.specs.Promises.{Attests}
use Rattle.board.proofs.Stores.{bytes_read}
use Rattle.board.proofs.Laws.{length_bytes_lem, region_agrees, length_challenge, due_is, attested_refused}
use Rattle.station.specs.Promises.{ChecksReply}
use Rattle.station.proofs.Settled.{checks_reply_settled}
use Rattle.claims_monitor.specs.Traces.{remembers, byte_at}
use Rattle.claims_attestation.specs.Demand2.{Agrees, posted}
use Rattle.claims_histories.specs.History as claim
use Rattle.claims_histories.specs.History.{Event, attest, trace, change, Keeps, stores_counter, Happens, History}
use Rattle.claims_histories.specs.History.{Accepted, counter_at, CheckedReply, Tells}
use Rattle.conditions.proofs.Answers.{lent_either}
use Rattle.claims_attestation.proofs.Accepts.{accepts, accepted_key, accepted_else}
use Rattle.claims_attestation.proofs.Demand2.{old_refused, agrees, agrees_as}
use Rattle.claims_attestation.proofs.Posted.{request_long, request_is, request_code, request_key, request_counter}
use Rattle.claims_attestation.proofs.Posted.{request_attested, request_else, request_done}
use Rattle.claims_monitor.proofs.Traces.{length_kept, stays_through, rom, guarded}
use Rattle.std.specs.Prelude.{Bool, Err, Ok, Result}
use Rattle.refusal.specs.declared.Refusal.{Refusal}

-- ---- a trace

-- a byte of CTR stays at a step at which the attestation code does not store there
counter_stays : (l : Layout) (t : ℕ → Step) (x : State) (n a : ℕ) → within l.ctr a ≡ true
    → stores_counter l (remembers l t x n) (t n) ≡ false → byte_at l t x (suc n) a ≡ byte_at l t x n a
counter_stays l t x n a w e =
    elim (guarded l t x n a (simp w)) [
      | inl stays ↦ stays
      | inr c ↦
          clash (stores_counter l (remembers l t x n) (t n)) (simp (c.passes, c.inside, c.writes, c.address, w)) e
    ]

-- a run in which the attestation code leaves CTR alone keeps CR, KR and CTR
run_keeps : (l : Layout) (t : ℕ → Step) (x : State) (n : ℕ)
    → ((i : ℕ) → i < n → stores_counter l (remembers l t x i) (t i) ≡ false)
    → Keeps l x.memory (before l t x n).memory
run_keeps l t x n f =
    let y = (before l t x n).memory in
    let e = length_kept l t x n in
    record {
      long = e;
      code = region_agrees l.cr y x.memory e (λ a w. rom l t x n a (simp w));
      key = region_agrees l.kr y x.memory e (λ a w. rom l t x n a (simp (w, or-true)));
      counter =
          region_agrees l.ctr y x.memory e
          (λ a w. stays_through l t x n a (λ i h. counter_stays l t x i a w (f i h)));
    }

-- a call that keeps them where it is not refused keeps them
lent_keeps : (l : Layout) (a : Answer) (x y z : List ℕ) → z ≡ after_call a y x → Keeps l x y → Keeps l x z
lent_keeps l a x y z e k =
    subst (Keeps l x) (sym e)
    (lent_either (λ f. Keeps l x (f y x)) a k (record { long = refl; code = refl; key = refl; counter = refl }))

pub trace_keeps : claim.TraceKeeps
trace_keeps memory layout b room memory' room' r t f =
    let l = layout_of layout in
    lent_keeps l (call_check memory layout (trace_check b (length room))) memory (memory_after l b memory) memory'
    t.memory_left
    (run_keeps l (steps b) (begin memory) (count b) f)

pub step_keeps : claim.StepKeeps
unfolding before
step_keeps memory layout step m room memory' room' r p e =
    let l = layout_of layout in
    let s = steps step 0 in
    lent_keeps l (call_check memory layout (step_check step (length room))) memory (decided_memory l m s memory) memory'
    p.memory_left
    (run_keeps l (λ i. s) (record { monitor = m; memory = memory }) 1 (λ i h. let z : i ≡ 0 = omega arith in rw z e))

-- ---- one event

-- an accepted call: its challenge is greater than the counter, and the counter afterwards
record Raises (l : Layout) (x y : List ℕ) : Type 0 where
  fresh : greater (challenge l x) (counter l x) ≡ true
  counted : counter l y ≡ challenge l x
  long : length (challenge l x) ≡ 32

raises : (layout x y : List ℕ) → Bytes layout → Attests x layout y (Ok tt) → Raises (layout_of layout) x y
raises layout x y h p =
    let c = accepts x layout y h p in
    record {
      fresh = c.allowed.fresh;
      counted = c.served.counted;
      long = length_challenge (layout_of layout) c.lies x c.allowed.long;
    }

-- b is a or greater
abbrev Rises : List ℕ → List ℕ → Type 0
Rises a b = (b ≡ a) ⊎ (greater b a ≡ true)

rises_on : (a b c : List ℕ) → Rises a b → Rises b c → Rises a c
rises_on a b c p q =
    elim p [
      | inl e ↦ subst (λ (s : List ℕ). Rises s c) e q
      | inr g ↦ elim q [ inl e ↦ inr (rw e g) | inr f ↦ inr (greater_trans c b a f g) ]
    ]

event_rises : (layout : List ℕ) → Bytes layout → (e : Event) (x y : List ℕ) → Happens layout e x y
    → Rises (counter (layout_of layout) x) (counter (layout_of layout) y)
event_rises layout h (attest (Ok _)) x y p =
    let a = raises layout x y h p in
    inr (rw a.counted a.fresh)
event_rises layout h (attest (Err r)) x y p =
    inl (ap (λ (m : List ℕ). counter (layout_of layout) m) (attested_refused x layout y r p).1)
event_rises layout h (trace b r) x y p =
    inl (trace_keeps x layout b p.0.0 y p.0.1 r p.0.2 p.1).counter
event_rises layout h change x y p = inl p.counter

-- ---- over every history

pub counter_rises : claim.CounterRises
counter_rises h i zero p q =
    let e : 0 ≡ i = omega arith in
    inl (ap (counter_at h) e)
counter_rises h i (suc j) p q =
    cases (eqb i (suc j)) (λ t. inl (ap (counter_at h) (sym (eqb-true i (suc j) t))))
    (λ t.
    let o : i ≢ suc j = eqb-false i (suc j) t in
    rises_on (counter_at h i) (counter_at h j) (counter_at h (suc j)) (counter_rises h i j (omega arith) (omega arith))
    (event_rises h.layout h.in_bytes (h.events j) (h.memories j) (h.memories (suc j)) (h.happens j q)))

-- what is greater than a string is greater than all that it has risen from
greater_rises : (a b c : List ℕ) → Rises a b → greater c b ≡ true → greater c a ≡ true
greater_rises a b c p g = elim p [ inl e ↦ rw (← e) g | inr f ↦ greater_trans c b a g f ]

pub old_stays_old : claim.OldStaysOld
old_stays_old h i j p q c e =
    untrue (greater c (counter_at h j))
    (λ g. clash (greater c (counter_at h i))
    (greater_rises (counter_at h i) (counter_at h j) c (counter_rises h i j p q) g) e)

accepted_attests : (h : History) (i : ℕ) (c : List ℕ) → Accepted h i c
    → Attests (h.memories i) h.layout (h.memories (suc i)) (Ok tt)
accepted_attests h i c a =
    subst (λ (e : Event). Happens h.layout e (h.memories i) (h.memories (suc i))) a.event
    (h.happens i a.happened)

accepted_raises : (h : History) (i : ℕ) (c : List ℕ) → Accepted h i c
    → Raises (layout_of h.layout) (h.memories i) (h.memories (suc i))
accepted_raises h i c a =
    raises h.layout (h.memories i) (h.memories (suc i)) h.in_bytes (accepted_attests h i c a)

pub increase : claim.Increase
increase h i j c d a b t =
    let p = accepted_raises h i c a in
    let q = accepted_raises h j d b in
    let n = b.happened in
    rw (a.request, b.request, ← p.counted)
    (greater_rises (counter_at h (suc i)) (counter_at h j) (challenge (layout_of h.layout) (h.memories j))
    (counter_rises h (suc i) j t (omega arith)) q.fresh)

pub numbers_increase : claim.NumbersIncrease
numbers_increase h i j c d u v a b t =
    let p = accepted_raises h i c a in
    let q = accepted_raises h j d b in
    let at = (layout_of h.layout).mr.lo in
    weight_greater d c (ap length b.request ∙ q.long ∙ sym (ap length a.request ∙ p.long))
    (rw b.request (bytes_read (h.memories j) at 32 v))
    (rw a.request (bytes_read (h.memories i) at 32 u))
    (increase h i j c d a b t)

earlier_or_later : {P : Type 0} (i j : ℕ) → (i < j → P) → (j < i → P) → (i ≡ j → P) → P
earlier_or_later i j f g h =
    cases (ltb i j) (λ t. f (ltb-true i j t))
    (λ t. cases (ltb j i) (λ o. g (ltb-true j i o)) (λ o. h (between (ltb-false j i o) (ltb-false i j t))))
  where
    between : i ≤ j → j ≤ i → i ≡ j
    between p q = omega arith

-- a challenge that is greater than itself
never : {P : Type 0} (c : List ℕ) → greater c c ≡ true → P
never c g = clash (greater c c) g (greater_irreflexive c)

pub never_twice : claim.NeverTwice
never_twice h i j c a b =
    earlier_or_later i j (λ t. never c (increase h i j c c a b t)) (λ t. never c (increase h j i c c b a t)) (λ e. e)

pub later_is_larger : claim.LaterIsLarger
later_is_larger h i j c d a b = (
  increase h i j c d a b,
  λ g. earlier_or_later i j
      (λ t. t)
      (λ t. never d (greater_trans d c d g (increase h j i d c b a t)))
      (λ e.
      let f : d ≡ c =
      b.request ∙ ap (λ (m : ℕ). challenge (layout_of h.layout) (h.memories m)) (sym e) ∙ sym a.request in
      never c (rw f at g)),
)

-- ---- refused as old

-- the memory keeps its length at every event
event_long : (layout : List ℕ) → Bytes layout → (e : Event) (x y : List ℕ) → Happens layout e x y → length y ≡ length x
event_long layout h (attest (Ok _)) x y p = (accepts x layout y h p).served.long
event_long layout h (attest (Err r)) x y p = ap length (attested_refused x layout y r p).1
event_long layout h (trace b r) x y p = (trace_keeps x layout b p.0.0 y p.0.1 r p.0.2 p.1).long
event_long layout h change x y p = p.long

-- what every event keeps is before event j as it was before event i
kept_since : {A : Type 0} (h : History) (f : List ℕ → A)
    → ((e : Event) (x y : List ℕ) → Happens h.layout e x y → f y ≡ f x)
    → (i j : ℕ) → i ≤ j → j ≤ h.n → f (h.memories j) ≡ f (h.memories i)
kept_since h f each i zero p q =
    let e : 0 ≡ i = omega arith in
    ap (λ (k : ℕ). f (h.memories k)) e
kept_since h f each i (suc j) p q =
    cases (eqb i (suc j)) (λ t. ap (λ (k : ℕ). f (h.memories k)) (sym (eqb-true i (suc j) t)))
    (λ t.
    let o : i ≢ suc j = eqb-false i (suc j) t in
    each (h.events j) (h.memories j) (h.memories (suc j)) (h.happens j q)
    ∙ kept_since h f each i j (omega arith) (omega arith))

-- the call at event j, whose memory has as many bytes as one before, and whose layout passes
old_at : (h : History) (i j : ℕ) → i ≤ j → j < h.n → length (h.memories i) ≡ memory_bytes → Good h.layout
    → (r : Answer) → h.events j ≡ attest r
    → greater (challenge (layout_of h.layout) (h.memories j)) (counter_at h j) ≡ false
    → r ≡ refused_at ChallengeNotGreater 0
old_at h i j p q long good r e g =
    (old_refused (h.memories j) h.layout (h.memories (suc j)) r
    (subst (λ (k : Event). Happens h.layout k (h.memories j) (h.memories (suc j))) e (h.happens j q))).1
    (kept_since h length (event_long h.layout h.in_bytes) i j p (omega arith) ∙ long, good, g)

pub recovery : claim.Recovery
recovery h i c a j p q r e g =
    let t = accepts (h.memories i) h.layout (h.memories (suc i)) h.in_bytes (accepted_attests h i c a) in
    let u = accepted_raises h i c a in
    old_at h i j (omega arith) q t.allowed.long t.good r e
    (old_stays_old h (suc i) j p (omega arith) (challenge (layout_of h.layout) (h.memories j))
    (rw (u.counted, ← a.request) g))

-- where c is not greater than n, neither is a string at or below c
at_or_below : (a c n : List ℕ) → length c ≡ length n → greater c n ≡ false → greater a c ≡ false → greater a n ≡ false
at_or_below a c n e old g =
    untrue (greater a n)
    (λ f. clash (greater a c)
    (elim (not_greater c n e old) [ inl u ↦ greater_trans a n c f u | inr u ↦ ap (greater a) u ∙ f ]) g)

pub refused_for_ever : claim.RefusedForEver
refused_for_ever h i p e j q n r f g =
    let l = layout_of h.layout in
    let x = h.memories i in
    let o =
    (old_refused x h.layout (h.memories (suc i)) _
    (subst (λ (k : Event). Happens h.layout k x (h.memories (suc i))) e (h.happens i p))).0 refl in
    let w = placed h.layout h.in_bytes (good_done h.layout o.1) in
    let lc = length_challenge l w x o.0 in
    let ln =
    length_bytes_lem l.ctr.lo (size l.ctr) x (omega (arith, o.0, w.counter, w.counter_in)) ∙ w.counter in
    old_at h i j q n o.0 o.1 r f
    (old_stays_old h i j q (omega arith) (challenge l (h.memories j))
    (at_or_below (challenge l (h.memories j)) (challenge l x) (counter l x) (lc ∙ sym ln) o.2 g))

-- ---- what the station learns

-- an accepted call stores nothing into KR
event_key : (layout : List ℕ) → Bytes layout → (e : Event) (x y : List ℕ) → Happens layout e x y
    → key (layout_of layout) y ≡ key (layout_of layout) x
event_key layout h (attest (Ok _)) x y p = accepted_key x layout y h p
event_key layout h (attest (Err r)) x y p =
    ap (λ (m : List ℕ). key (layout_of layout) m) (attested_refused x layout y r p).1
event_key layout h (trace b r) x y p = (trace_keeps x layout b p.0.0 y p.0.1 r p.0.2 p.1).key
event_key layout h change x y p = p.key

pub key_stays : claim.KeyStays
key_stays h i p =
    kept_since h (key (layout_of h.layout)) (event_key h.layout h.in_bytes) 0 i (omega arith) p

-- what the station says to the reply of one accepted request
tells : (h : History) (i : ℕ) (c expected : List ℕ) (v : Result Bool Refusal) → CheckedReply h i c expected v
    → Tells h i c expected v
tells h i c expected v k =
    let a = k.accepted in
    let n = a.happened in
    let x = h.memories i in
    let y = h.memories (suc i) in
    let g = agrees x h.layout y h.in_bytes (accepted_attests h i c a) in
    let o = (agrees_as (key_stays h i (omega arith)) (sym a.request) refl g).other expected k.some k.most in (
      λ e. o.0 (subst (ChecksReply _ _ _ _) e k.said),
      λ e. checks_reply_settled _ _ _ _ v (Ok true) k.said (o.1 e),
    )

pub last_tells : claim.LastTells
last_tells h i j c d x y v w p q g =
    ((later_is_larger h i j c d p.accepted q.accepted).1 g, tells h j d y w q)

-- ---- a history with two requests

-- a request for c in the mailbox, a change that keeps CR, KR and CTR: it is accepted
pub record Exchange (layout memory c : List ℕ) : Type 0 where
  pub request : List ℕ
  pub after : List ℕ
  pub keeps : Keeps (layout_of layout) memory request
  pub region : attested (layout_of layout) request ≡ attested (layout_of layout) memory
  pub asks : c ≡ challenge (layout_of layout) request
  pub serves : Attests request layout after (Ok tt)
  pub counted : counter (layout_of layout) after ≡ c
  pub long : length after ≡ memory_bytes
  pub replies : replied (layout_of layout) after ≡ due (layout_of layout) request
  -- the station agrees, on AR as it was before the request came
  pub told :
      (let l = layout_of layout in
      Agrees (key l memory) c (attested l memory) (replied l after))
  -- a byte outside MR and CTR stays
  pub else : (a : ℕ) → within (layout_of layout).mr a ≡ false → within (layout_of layout).ctr a ≡ false
      → get_or after a 0 ≡ get_or memory a 0

pub exchange : (layout : List ℕ) → Bytes layout → Good layout → (memory c : List ℕ) → length memory ≡ memory_bytes
    → length c ≡ 32
    → greater c (counter (layout_of layout) memory) ≡ true → Exchange layout memory c
exchange layout b good memory c long lc fresh =
    let l = layout_of layout in
    let t = token (key l memory) c in
    let m = posted l c t memory in
    let keeps : Keeps l memory m =
    record {
      long = request_long layout b good memory c t long lc refl;
      code = request_code layout b good memory c t long lc refl;
      key = request_key layout b good memory c t long lc refl;
      counter = request_counter layout b good memory c t long lc refl;
    } in
    let is = request_is layout b good memory c t long lc refl in
    let region = request_attested layout b good memory c t long lc refl in
    let done = request_done layout b good memory c t long lc refl fresh in
    let serves : Attests m layout (accepted l m) (Ok tt) = record { answered = simp done; memory_left = simp done } in
    let s = (accepts m layout (accepted l m) b serves).served in
    record {
      request = m;
      after = accepted l m;
      keeps = keeps;
      region = region;
      asks = sym is;
      serves = serves;
      counted = s.counted ∙ is;
      long = s.long ∙ keeps.long ∙ long;
      replies = s.reply ∙ sym (due_is l m ∙ reply_is _ _ _);
      told =
          agrees_as keeps.key is region
          (agrees m layout (accepted l m) b serves);
      else = λ a u v.
          accepted_else m layout (accepted l m) b serves a u v
          ∙ request_else layout b good memory c t long lc refl a u;
    }

pub both_served : claim.BothServed
both_served memory layout c d b long good lc ld fresh rises =
    let p = exchange layout b good memory c long lc fresh in
    let q = exchange layout b good p.after d p.long ld (rw p.counted rises) in
    let m : ℕ → List ℕ = memories memory p.request p.after q.request q.after in (
      record {
        layout = layout;
        in_bytes = b;
        n = 4;
        events = events;
        memories = m;
        happens = λ i h. four m i h p.keeps p.serves q.keeps q.serves;
      },
      refl,
      refl,
      record { happened = omega arith; event = refl; request = p.asks },
      record { happened = omega arith; event = refl; request = q.asks },
    )
  where
    events : ℕ → Event
    events zero = change
    events (suc zero) = attest (Ok tt)
    events (suc (suc zero)) = change
    events (suc (suc (suc i))) = attest (Ok tt)

    memories : List ℕ → List ℕ → List ℕ → List ℕ → List ℕ → ℕ → List ℕ
    memories a b c d e zero = a
    memories a b c d e (suc zero) = b
    memories a b c d e (suc (suc zero)) = c
    memories a b c d e (suc (suc (suc zero))) = d
    memories a b c d e (suc (suc (suc (suc i)))) = e

    four : (m : ℕ → List ℕ) (i : ℕ) → i < 4 → Happens layout change (m 0) (m 1)
        → Happens layout (attest (Ok tt)) (m 1) (m 2)
        → Happens layout change (m 2) (m 3) → Happens layout (attest (Ok tt)) (m 3) (m 4)
        → Happens layout (events i) (m i) (m (suc i))
    four m zero h p q r s = p
    four m (suc zero) h p q r s = q
    four m (suc (suc zero)) h p q r s = r
    four m (suc (suc (suc zero))) h p q r s = s
    four m (suc (suc (suc (suc i)))) h p q r s = absurd (omega arith)
