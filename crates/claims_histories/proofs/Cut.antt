-- The claims about visits that are cut hold. Assumes nothing.
use mathlib.Core.Path.{◌≡◌, refl, sym, ap, subst, ◌∙◌}
use mathlib.Core.Logic.{◌⊎◌, inl, inr}
use mathlib.Core.Bool.{true, false, ◌||◌, and-false, false≢true}
use mathlib.Core.List.{List, [], ◌∷◌, ◌++◌, append_assoc}
use Prim.Native.Nat.{ℕ, zero, suc, ◌+◌, ◌-◌, ◌≤◌, ◌<◌}
use native.Mathlib.Nat.{not-suc-le-zero}
use native.Mathlib.Omega.{arith}
use lib.Dec.{eqb, ltb}
use lib.ListN.{length, get_or, take, drop, length-take, length-drop}
use lib.Seq.{sets, length-sets, length-take-le, sets-eq, take-add, take-append-add, drop_at, drop-drop}
use borrow.Author.Tests.{eqb-true, ltb-true, ltb-false, lt-ltb, le-ltb}
use Rattle.notions.specs.Bytes.{Bytes}
use Rattle.notions.proofs.Tests.{cases, neither}
use Rattle.layout.specs.declared.Region.{Region}
use Rattle.layout.specs.declared.Layout.{Layout}
use Rattle.layout.specs.Regions.{within, size}
use Rattle.layout.specs.Layouts.{KR, XS, MR, AR, layout_of}
use Rattle.layout.specs.Calls.{memory_bytes}
use Rattle.layout.specs.Good.{Good}
use Rattle.layout.proofs.Laws.{ends_within, outside_ends, elsewhere}
use Rattle.layout.proofs.Placed.{Placed}
use Rattle.steps.specs.declared.Step.{Step}
use Rattle.rules.specs.declared.Monitor.{Monitor}
use Rattle.rules.specs.Rules.{writable, rule6, broken, numbered, cause}
use Rattle.rules.proofs.Laws.{rule_6, cause_lowest}
use Rattle.monitor.specs.Decisions.{resets}
use Rattle.monitor.specs.Runs.{before}
use Rattle.monitor.proofs.Decisions.{breaks_resets}
use Rattle.routine.specs.Strings.{greater}
use Rattle.board.specs.Memory.{bytes_at, bytes_of, counter, challenge, reply_at, replied}
use Rattle.board.specs.Attestation.{due}
use Rattle.board.specs.Promises.{Attests}
use Rattle.board.proofs.Stores.{bytes_agree, stored_there, stored_off, stored_apart}
use Rattle.board.proofs.Laws.{region_agrees, length_due, length_challenge, accepted_reply}
use Rattle.claims_monitor.specs.Outside.{kr_or_xs}
use Rattle.claims_monitor.specs.Traces.{remembers}
use Rattle.claims_monitor.proofs.Traces.{resets_nothing}
use Rattle.claims_attestation.proofs.Accepts.{Accepts, accepts}
use Rattle.claims_attestation.proofs.Demand2.{frame}
use Rattle.claims_histories.specs.Visit.{cut_after, SameOutside, played}
use Rattle.claims_histories.specs.Cut as claim
use Rattle.claims_histories.specs.Cut.{Uncounted, played_to}
use Rattle.claims_histories.proofs.Visit.{visit_passes, unheld_after, last_after, after_reply, all_replied}
use Rattle.claims_histories.proofs.Visit.{reply_stored, counter_stored, off_scratch, cut_visit, played_makes}
use Rattle.claims_histories.proofs.Visit.{played_made}
use Rattle.std.specs.Prelude.{Ok}

-- ---- answered and not counted

-- no address of the region is in the other
abbrev Off : Region → Region → Type 0
Off r q = (a : ℕ) → within r a ≡ true → within q a ≡ false

module _ (b : List ℕ) (g : Good b) where
  abbrev at : Layout
  at = layout_of b

  mail_off : Off at.mr at.xs
  mail_off a e = off_scratch b g a (inl e)

  counter_off : Off at.ctr at.xs
  counter_off a e = off_scratch b g a (inr e)

  key_off : Off at.kr at.xs
  unfolding layout_of
  key_off = elsewhere g KR XS (omega arith) (omega arith) (λ q. omega arith) refl refl

  region_off : Off at.ar at.xs × Off at.ar at.mr
  unfolding layout_of
  region_off = (
    elsewhere g AR XS (omega arith) (omega arith) (λ q. omega arith) refl refl,
    elsewhere g AR MR (omega arith) (omega arith) (λ q. omega arith) refl refl,
  )

-- the reply stored
replied_only : (l : Layout) → Placed l → Off l.ar l.mr → (memory : List ℕ) → length memory ≡ memory_bytes
    → Uncounted l memory (after_reply l memory)
replied_only l p off memory long =
    let d = due l memory in
    let n = length_due l memory in
    let c = p.counter in
    let k = p.key in
    record {
      request = record {
        long = length-sets memory (reply_at l) d;
        key = stored_apart memory (reply_at l) d l.kr.lo (size l.kr)
            (elim p.key_apart [ inl h ↦ inr (omega arith) | inr h ↦ inl (omega arith) ]);
        mail = stored_apart memory (reply_at l) d l.mr.lo 64 (inl (omega arith));
        counter = stored_apart memory (reply_at l) d l.ctr.lo (size l.ctr)
            (elim p.apart [ inl h ↦ inr (omega arith) | inr h ↦ inl (omega arith) ]);
        attested = region_agrees l.ar (after_reply l memory) memory (length-sets memory (reply_at l) d)
            (λ a w. stored_off memory (reply_at l) d a
            (elim (outside_ends l.mr a (off a w))
            [ inl h ↦ inl (omega arith) | inr h ↦ inr (omega (arith, p.mail)) ]));
      };
      reply = stored_there memory (reply_at l) 32 d n (omega (arith, p.mail_in));
    }

pub answered_uncounted : claim.AnsweredUncounted
answered_uncounted memory layout memory' h a =
    let l = layout_of layout in
    let w = accepts memory layout memory' h a in
    subst (Uncounted l memory) (sym (all_replied l memory))
    (replied_only l w.lies (region_off layout w.good).1 memory w.allowed.long)

-- so it is with every memory that is the same outside XS
module _ (layout : List ℕ) (g : Good layout) (y z : List ℕ) (s : SameOutside (layout_of layout) y z) where
  abbrev ly : Layout
  ly = layout_of layout

  same_at : (r : Region) → Off r ly.xs → (a : ℕ) → within r a ≡ true → get_or y a 0 ≡ get_or z a 0
  same_at r off a w = s.same a (simp (off a w))

  same_region : (r : Region) → Off r ly.xs → bytes_of r y ≡ bytes_of r z
  same_region r off = region_agrees r y z s.long (same_at r off)

  same_mail : Placed ly → (b n : ℕ) → b + n ≤ 96 → bytes_at (ly.mr.lo + b) n y ≡ bytes_at (ly.mr.lo + b) n z
  same_mail p b n k =
      bytes_agree y z (ly.mr.lo + b) n s.long
      (λ i e. same_at ly.mr (mail_off layout g) (ly.mr.lo + b + i)
      (ends_within ly.mr (ly.mr.lo + b + i) (omega arith) (omega (arith, p.mail))))

  carried : Placed ly → (memory : List ℕ) → Uncounted ly memory z → Uncounted ly memory y
  carried p memory u =
      let q : ly.mr.lo + 0 ≡ ly.mr.lo = omega arith in
      let r = u.request in
      record {
        request = record {
          long = s.long ∙ r.long;
          key = same_region ly.kr (key_off layout g) ∙ r.key;
          mail = (rw q at (same_mail p 0 64 (omega arith))) ∙ r.mail;
          counter = same_region ly.ctr (counter_off layout g) ∙ r.counter;
          attested = same_region ly.ar (region_off layout g).0 ∙ r.attested;
        };
        reply = same_mail p 64 32 (omega arith) ∙ u.reply;
      }

pub visit_uncounted : claim.VisitUncounted
visit_uncounted layout memory' t x n i h free a makes k e =
    let l = layout_of layout in
    let w = accepts x.memory layout memory' h a in
    let s = rw e at (cut_visit layout memory' t x n i h free a makes k) in
    carried layout w.good (before l t x i).memory (cut_after l x.memory 32) s w.lies x.memory
    (answered_uncounted x.memory layout memory' h a)

-- by `frame`: the two calls get the same answer, and store the same bytes
pub answered_again : claim.AnsweredAgain
answered_again memory layout memory' y y' r h a u b =
    let l = layout_of layout in
    let f = frame layout y memory y' memory' r (Ok tt) h u.request b a in
    let d = f.0 in
    let v = accepts y layout y' h (subst (Attests y layout y') d b) in
    let w = accepts memory layout memory' h a in (
      d,
      bytes_agree y' memory' (reply_at l) 32 (v.served.long ∙ u.request.long ∙ sym w.served.long)
          (λ i k.
          let s : Region = record { lo = reply_at l; hi = reply_at l + 31 } in
          let e = ends_within s (reply_at l + i) (omega arith) (omega arith) in
          f.1 d (reply_at l + i) (simp e))
          ∙ ap (replied l) w.left
          ∙ accepted_reply l w.lies memory w.allowed.long,
    )

-- ---- cut anywhere

-- the first bytes of a greater string over those of another
torn : (c n : List ℕ) (j : ℕ) → greater c n ≡ true
    → (take j c ++ drop j n ≡ n) ⊎ (greater (take j c ++ drop j n) n ≡ true)
unfolding greater
torn c n zero g = inl refl
torn [] n (suc j) g = absurd (false≢true g)
torn (x ∷ c) [] (suc j) g = inr refl
torn (x ∷ c) (y ∷ n) (suc j) g =
    cases (eqb x y)
    (λ e.
    elim (torn c n j (simp e at g)) [
      | inl h ↦ inl (let q = eqb-true x y e in cc)
      | inr h ↦ inr (simp (e, h))
    ])
    (λ e. inr (simp e (simp e at g)))

-- what is read where fewer bytes were stored
stored_over : (l : List ℕ) (a m : ℕ) (v : List ℕ) → a + (length v + m) ≤ length l
    → bytes_at a (length v + m) (sets l a v) ≡ v ++ drop (length v) (bytes_at a (length v + m) l)
stored_over l a m v h =
    let r : List ℕ = drop (a + length v) l in
    let n = length v in
    let f : take (n + m) (drop a l) ≡ take n (drop a l) ++ take m (drop n (drop a l)) = take-add n m (drop a l) in
    let s : length (take n (drop a l)) ≡ n = simp (length-take, length-drop) (omega arith) in
    ap (bytes_at a (n + m)) (sets-eq v l a (omega arith) ∙ append_assoc (take a l) v r)
    ∙ ap (take (n + m)) (drop_at (take a l) (v ++ r) a (simp length-take (omega arith)))
    ∙ take-append-add v r m
    ∙ ap (λ (t : List ℕ). v ++ t)
    (sym (ap (drop n) f ∙ drop_at (take n (drop a l)) (take m (drop n (drop a l))) n s
    ∙ ap (take m) (drop-drop n a l)))

module _ (memory layout memory' : List ℕ) (h : Bytes layout) (a : Attests memory layout memory' (Ok tt)) where
  abbrev lc : Layout
  lc = layout_of layout

  call : Accepts memory layout memory'
  call = accepts memory layout memory' h a

  -- the memory with the reply
  abbrev after : List ℕ
  after = after_reply lc memory

  replied_so : Uncounted lc memory after
  replied_so = replied_only lc call.lies (region_off layout call.good).1 memory call.allowed.long

  length_is : length (challenge lc memory) ≡ 32
  length_is = length_challenge lc call.lies memory call.allowed.long

  -- up to the reply's last byte
  counter_waits : (k : ℕ) → k ≤ 32 → counter lc (cut_after lc memory k) ≡ counter lc memory
  counter_waits k q =
      let s = call.lies.counter in
      let n : length (take k (due lc memory)) ≤ 32 = simp length-take (omega (arith, length_due lc memory)) in
      ap (counter lc) (reply_stored lc memory k q)
      ∙ stored_apart memory (reply_at lc) (take k (due lc memory)) lc.ctr.lo (size lc.ctr)
      (elim call.lies.apart [ inl u ↦ inr (omega arith) | inr u ↦ inl (omega arith) ])

  -- and from there
  counter_torn : (j : ℕ) → j ≤ 32
      → counter lc (cut_after lc memory (32 + j)) ≡ take j (challenge lc memory) ++ drop j (counter lc memory)
  counter_torn j q =
      let v = take j (challenge lc memory) in
      let n : length v ≡ j = length-take-le j (challenge lc memory) (omega (arith, length_is)) in
      let s : size lc.ctr ≡ length v + (32 - j) = call.lies.counter ∙ omega (arith, n) in
      ap (counter lc) (counter_stored lc memory length_is j q)
      ∙ ap (λ (m : ℕ). bytes_at lc.ctr.lo m (sets after lc.ctr.lo v)) s
      ∙ stored_over after lc.ctr.lo (32 - j) v
      (omega (arith, n, replied_so.request.long, call.allowed.long, call.lies.counter_in))
      ∙ ap (λ (m : ℕ). v ++ drop m (bytes_at lc.ctr.lo (length v + (32 - j)) after)) n
      ∙ ap (λ (m : ℕ). v ++ drop j (bytes_at lc.ctr.lo m after)) (sym s)
      ∙ ap (λ (b : List ℕ). v ++ drop j b) replied_so.request.counter

pub cut_rises : claim.CutRises
cut_rises memory layout memory' k h a q =
    let l = layout_of layout in
    cases (ltb 32 k)
    (λ t.
    let u = ltb-true 32 k t in
    let e : k ≡ 32 + (k - 32) = omega arith in
    rw (e, counter_torn memory layout memory' h a (k - 32) (omega arith))
    (torn (challenge l memory) (counter l memory) (k - 32) (accepts memory layout memory' h a).allowed.fresh))
    (λ t. inl (counter_waits memory layout memory' h a k (ltb-false 32 k t)))

pub cut_replied : claim.CutReplied
cut_replied memory layout memory' k h a p q =
    let l = layout_of layout in
    let w = accepts memory layout memory' h a in
    let e : k ≡ 32 + (k - 32) = omega arith in
    let v = take (k - 32) (challenge l memory) in
    let n : length v ≤ 32 = simp length-take (omega arith) in
    ap (λ (m : ℕ). replied l (cut_after l memory m)) e
    ∙ ap (replied l) (counter_stored l memory (length_is memory layout memory' h a) (k - 32) (omega arith))
    ∙ stored_apart (after_reply l memory) l.ctr.lo v (reply_at l) 32
    (elim w.lies.apart [ inl u ↦ inl (omega arith) | inr u ↦ inr (omega arith) ])
    ∙ (replied_so memory layout memory' h a).reply

-- ---- what cuts a visit

-- behind a step of a visit the monitor is not held, and the last PC was in CR
module _ (l : Layout) (m : Monitor) (s : Step) (free : m.held ≡ false) (last : within l.cr m.lastpc ≡ true)
    (inside : within l.cr s.pc ≡ true) where
  cuts : (s.interrupt || s.dmaactive) ≡ true → resets l m s ≡ true
  cuts e =
      cases s.interrupt
      (λ i. breaks_resets l m s 4 (omega arith) (simp (free, i, inside)))
      (λ i.
      let d : s.dmaactive ≡ true = simp i at e in
      breaks_resets l m s 9 (omega arith) (simp (free, d, inside)))

  none_lower : (j : ℕ) → j < 4 → numbered (broken l m s) j ≡ false
  none_lower zero h = refl
  none_lower (suc zero) h = simp inside
  none_lower (suc (suc zero)) h = simp (inside, and-false)
  none_lower (suc (suc (suc zero))) h = simp (last, and-false)
  none_lower (suc (suc (suc (suc j)))) h = absurd (omega (arith, h))

  by_interrupt : s.interrupt ≡ true → cause l m s ≡ 4
  by_interrupt i = cause_lowest l m s 4 (simp free) (omega arith) (simp (free, i, inside)) none_lower

  module _ (calm : s.interrupt ≡ false) (active : s.dmaactive ≡ true) (off : kr_or_xs l s.dmaaddress ≡ false)
      (lawful : s.cpuwrites ≡ true → writable l s.cpuaddress ≡ true) where
    six : rule6 l s ≡ false
    six =
        rule_6 l s
        ∙ cases s.cpuwrites (λ w. simp (w, lawful w, and-false)) (λ w. simp (w, and-false))

    none_below_9 : (j : ℕ) → j < 9 → numbered (broken l m s) j ≡ false
    none_below_9 zero h = none_lower 0 (omega arith)
    none_below_9 (suc zero) h = none_lower 1 (omega arith)
    none_below_9 (suc (suc zero)) h = none_lower 2 (omega arith)
    none_below_9 (suc (suc (suc zero))) h = none_lower 3 (omega arith)
    none_below_9 (suc (suc (suc (suc zero)))) h = simp (calm, and-false)
    none_below_9 (suc (suc (suc (suc (suc zero))))) h = simp inside
    none_below_9 (suc (suc (suc (suc (suc (suc zero)))))) h = simp (six, and-false)
    none_below_9 (suc (suc (suc (suc (suc (suc (suc zero))))))) h =
        simp ((neither (within l.kr s.dmaaddress) (within l.xs s.dmaaddress) off).0, and-false)
    none_below_9 (suc (suc (suc (suc (suc (suc (suc (suc zero)))))))) h =
        simp ((neither (within l.kr s.dmaaddress) (within l.xs s.dmaaddress) off).1, and-false)
    none_below_9 (suc (suc (suc (suc (suc (suc (suc (suc (suc j))))))))) h = absurd (omega (arith, h))

    by_dma : cause l m s ≡ 9
    by_dma = cause_lowest l m s 9 (simp free) (omega arith) (simp (free, active, inside)) none_below_9

pub cut_resets : claim.CutResets
cut_resets l t x zero free v k i = absurd (not-suc-le-zero k)
cut_resets l t x (suc n) free v k i =
    let p = visit_passes l t x (suc n) free v n (omega arith) in
    let m = remembers l t x (suc n) in
    let u = unheld_after l t x n p in
    let w : within l.cr m.lastpc ≡ true =
    ap (within l.cr) (last_after l t x n p) ∙ (v.each n (omega arith)).pc in
    record {
      resets = cuts l m (t (suc n)) u w i;
      interrupt = by_interrupt l m (t (suc n)) u w i;
      dma = by_dma l m (t (suc n)) u w i;
    }

pub cut_uncounted : claim.CutUncounted
cut_uncounted layout memory' t x n h free a makes e r =
    rw (resets_nothing (layout_of layout) t x n r).stored
    (visit_uncounted layout memory' t x n n h free a makes (omega arith) e)

pub can_be_cut : claim.CanBeCut
can_be_cut memory layout memory' k s h a some most =
    let l = layout_of layout in
    let t = played_to l memory k s in
    let f : (i : ℕ) → i < k → t i ≡ played l memory i = λ i e. simp (lt-ltb i k e) in (
      played_makes memory layout memory' h a t k most f some,
      played_made memory layout memory' h a t k most f k (omega arith),
      simp (le-ltb k k (omega arith)),
    )
