-- The claims about visits to the attestation code hold. Assumes nothing.
use mathlib.Core.Path.{◌≡◌, refl, sym, ap, subst, ◌∙◌}
use mathlib.Core.Logic.{◌≢◌, ◌⊎◌, inl, inr}
use mathlib.Core.Bool.{Bool, true, false, not, ◌&&◌, ◌||◌, or-true}
use mathlib.Core.List.{List}
use Prim.Native.Nat.{ℕ, zero, suc, ◌+◌, ◌-◌, ◌≤◌, ◌<◌}
use native.Mathlib.Nat.{not-suc-le-zero}
use native.Mathlib.Omega.{arith}
use lib.Dec.{eqb, ltb}
use lib.ListN.{length, get_or, take, set, length-set}
use lib.Seq.{sets, take_all, get_or-set_same, get_or-set_other}
use borrow.Author.Tests.{eqb-true, eqb-false, eq-eqb, ne_eqb, ltb-true, ltb-false, lt-ltb, le-ltb}
use Rattle.notions.specs.Bytes.{Bytes}
use Rattle.notions.proofs.Tests.{cases, clash, neither, both}
use Rattle.layout.specs.declared.Layout.{Layout}
use Rattle.layout.specs.Regions.{within, outside}
use Rattle.layout.specs.Layouts.{CR, KR, XS, MR, CTR, region, layout_of}
use Rattle.layout.specs.Calls.{memory_bytes}
use Rattle.layout.specs.Good.{Good}
use Rattle.layout.proofs.Laws.{ends_within, elsewhere}
use Rattle.layout.proofs.Placed.{Placed}
use Rattle.steps.specs.declared.Step.{Step}
use Rattle.rules.specs.declared.Monitor.{Monitor}
use Rattle.rules.specs.Rules.{cpu_writes_in, writable, rule15, cause}
use Rattle.monitor.specs.Decisions.{next, decided_memory}
use Rattle.rules.proofs.None.{visit_lowest}
use Rattle.effects.specs.Effects.{stored, storing, written}
use Rattle.effects.proofs.Laws.{written_byte}
use Rattle.monitor.specs.Runs.{State, before}
use Rattle.monitor.proofs.Laws.{length_before}
use Rattle.board.specs.Memory.{challenge, reply_at}
use Rattle.board.specs.Attestation.{due, accepted}
use Rattle.board.specs.Promises.{Attests}
use Rattle.board.proofs.Stores.{sets_more}
use Rattle.board.proofs.Laws.{length_due, length_challenge}
use Rattle.claims_monitor.proofs.Outside as monitor
use Rattle.claims_monitor.specs.Traces.{cr_or_kr, Inside, remembers, cause_at}
use Rattle.claims_histories.specs.Visit as claim
use Rattle.claims_histories.specs.Visit.{VisitBegins, Free, store_at, store_byte, cut_after, stores_out, made}
use Rattle.claims_histories.specs.Visit.{StoresNext, Makes, SameOutside, Plays, writing, played, inserted}
use Rattle.claims_attestation.proofs.Accepts.{Accepts, accepts}
use Rattle.std.specs.Prelude.{Ok}

-- ---- steps that pass

module _ (l : Layout) (m : Monitor) (s : Step) (free : m.held ≡ false) where
  -- a step inside, from CR or at CR's lowest address
  inside_passes : Inside l s → (within l.cr m.lastpc ≡ false → s.pc ≡ l.cr.lo) → cause l m s ≡ 0
  unfolding cause
  inside_passes i f =
      let came : (within l.cr m.lastpc || eqb s.pc l.cr.lo) ≡ true =
      cases (within l.cr m.lastpc) (λ e. simp e) (λ e. simp (e, eq-eqb s.pc l.cr.lo (f e))) in
      let lawful : (not s.cpuwrites || writable l s.cpuaddress) ≡ true =
      cases s.cpuwrites (λ e. simp (e, i.writes e)) (λ e. simp e) in
      let away : rule15 m s ≡ false = simp free in
      simp (away, visit_lowest l m s (simp (i.pc, came, i.calm, i.idle, lawful)))

-- ---- a visit

-- after a step that passes, the monitor is not held and remembers its PC
module _ (l : Layout) (t : ℕ → Step) (x : State) (i : ℕ) (e : cause_at l t x i ≡ 0) where
  pub unheld_after : (remembers l t x (suc i)).held ≡ false
  unfolding before next
  unheld_after = simp e

  pub last_after : (remembers l t x (suc i)).lastpc ≡ (t i).pc
  unfolding before next
  last_after = refl

pub visit_passes : claim.VisitPasses
unfolding before
visit_passes l t x n f v zero h = inside_passes l x.monitor (t 0) f.unheld (v.each 0 h) (λ e. v.enters)
visit_passes l t x n f v (suc i) h =
    let e = visit_passes l t x n f v i (omega arith) in
    inside_passes l (remembers l t x (suc i)) (t (suc i)) (unheld_after l t x i e) (v.each (suc i) h)
    (λ o. clash (within l.cr (t i).pc) (v.each i (omega arith)).pc
    (ap (within l.cr) (sym (last_after l t x i e)) ∙ o))

pub leaves_freely : claim.LeavesFreely
leaves_freely l t x zero f v o = absurd (not-suc-le-zero v.some)
leaves_freely l t x (suc n) f v o =
    let e = visit_passes l t x (suc n) f v.begins n (omega arith) in
    let q : n ≡ suc n - 1 = omega arith in
    let m = remembers l t x (suc n) in
    let h : eqb m.lastpc l.cr.hi ≡ true =
    eq-eqb m.lastpc l.cr.hi (last_after l t x n e ∙ ap (λ (k : ℕ). (t k).pc) q ∙ v.ends) in
    monitor.outside l m (t (suc n)) (record { unheld = unheld_after l t x n e; last = simp (h, or-true) }) (simp o)

-- ---- attestation as a visit

-- a step that passes and writes outside CR and KR, the DMA idle, stores the CPU's byte
step_stores : (l : Layout) (m : Monitor) (s : Step) (memory : List ℕ) → cause l m s ≡ 0 → s.dmaactive ≡ false
    → s.cpuwrites ≡ true
    → cr_or_kr l s.cpuaddress ≡ false → decided_memory l m s memory ≡ set memory s.cpuaddress s.cpudata
unfolding written storing stored
step_stores l m s memory e d w o =
    let p = neither (within l.cr s.cpuaddress) (within l.kr s.cpuaddress) o in
    simp (e, d, w, p.0, p.1)

-- one that writes nothing stores nothing
pub keeps_memory : (l : Layout) (m : Monitor) (s : Step) (memory : List ℕ) → cause l m s ≡ 0 → s.dmaactive ≡ false
    → s.cpuwrites ≡ false
    → decided_memory l m s memory ≡ memory
unfolding written storing stored
keeps_memory l m s memory e d w = simp (e, d, w)

-- an address of MR or CTR
abbrev mr_or_ctr : Layout → ℕ → Type 0
mr_or_ctr l a = (within l.mr a ≡ true) ⊎ (within l.ctr a ≡ true)

off_rom : (b : List ℕ) → Good b → (a : ℕ) → mr_or_ctr (layout_of b) a → cr_or_kr (layout_of b) a ≡ false
unfolding layout_of
off_rom b g a (inl e) =
    let c : within (region b CR) a ≡ false =
    elsewhere g MR CR (omega arith) (omega arith) (λ q. omega arith) refl refl a e in
    let k : within (region b KR) a ≡ false =
    elsewhere g MR KR (omega arith) (omega arith) (λ q. omega arith) refl refl a e in
    simp (c, k)
off_rom b g a (inr e) =
    let c : within (region b CR) a ≡ false =
    elsewhere g CTR CR (omega arith) (omega arith) (λ q. omega arith) refl refl a e in
    let k : within (region b KR) a ≡ false =
    elsewhere g CTR KR (omega arith) (omega arith) (λ q. omega arith) refl refl a e in
    simp (c, k)

pub off_scratch : (b : List ℕ) → Good b → (a : ℕ) → mr_or_ctr (layout_of b) a → within (layout_of b).xs a ≡ false
unfolding layout_of
off_scratch b g a (inl e) = elsewhere g MR XS (omega arith) (omega arith) (λ q. omega arith) refl refl a e
off_scratch b g a (inr e) = elsewhere g CTR XS (omega arith) (omega arith) (λ q. omega arith) refl refl a e

store_in : (l : Layout) → Placed l → (i : ℕ) → i < 64 → mr_or_ctr l (store_at l i)
store_in l p i h =
    cases (ltb i 32)
    (λ e.
    let q = ltb-true i 32 e in
    inl (simp e (ends_within l.mr (reply_at l + i) (omega arith) (omega (arith, p.mail)))))
    (λ e.
    let q = ltb-false i 32 e in
    inr (simp e (ends_within l.ctr (l.ctr.lo + (i - 32)) (omega arith) (omega (arith, p.counter)))))

pub store_small : (l : Layout) → Placed l → (i : ℕ) → i < 64 → store_at l i < memory_bytes
store_small l p i h =
    cases (ltb i 32)
    (λ e. let q = ltb-true i 32 e in simp e (omega (arith, p.mail_in)))
    (λ e. let q = ltb-false i 32 e in simp e (omega (arith, p.counter_in)))

-- ---- the stores one after another

module _ (l : Layout) (memory : List ℕ) where
  cut_none : cut_after l memory 0 ≡ memory
  unfolding cut_after
  cut_none = refl

  cut_more : (k : ℕ) → cut_after l memory (suc k) ≡ set (cut_after l memory k) (store_at l k) (store_byte l memory k)
  unfolding cut_after
  cut_more k = refl

  pub reply_stored : (i : ℕ) → i ≤ 32 → cut_after l memory i ≡ sets memory (reply_at l) (take i (due l memory))
  reply_stored zero k = cut_none
  reply_stored (suc i) k =
      cut_more i
      ∙ simp (reply_stored i (omega arith), lt-ltb i 32 k)
      (sym (sets_more memory (reply_at l) (due l memory) i (omega (arith, length_due l memory))))

  abbrev pub after_reply : List ℕ
  after_reply = sets memory (reply_at l) (due l memory)

  pub all_replied : cut_after l memory 32 ≡ after_reply
  all_replied =
      reply_stored 32 (omega arith)
      ∙ ap (sets memory (reply_at l)) (take_all 32 (due l memory) (omega (arith, length_due l memory)))

  module _ (c : length (challenge l memory) ≡ 32) where
    pub counter_stored : (j : ℕ) → j ≤ 32
        → cut_after l memory (32 + j) ≡ sets after_reply l.ctr.lo (take j (challenge l memory))
    counter_stored zero k = all_replied
    counter_stored (suc j) k =
        let q : 32 + suc j ≡ suc (32 + j) = omega arith in
        let d : 32 + j - 32 ≡ j = omega arith in
        rw q (cut_more (32 + j)
        ∙ simp (counter_stored j (omega arith), le-ltb (32 + j) 32 (omega arith), d)
        (sym (sets_more after_reply l.ctr.lo (challenge l memory) j (omega arith))))

    all_stored : cut_after l memory 64 ≡ accepted l memory
    unfolding accepted
    all_stored =
        counter_stored 32 (omega arith)
        ∙ ap (sets after_reply l.ctr.lo) (take_all 32 (challenge l memory) (omega arith))

pub all_stores : claim.AllStores
all_stores memory layout memory' h a =
    let w = accepts memory layout memory' h a in
    all_stored (layout_of layout) memory (length_challenge (layout_of layout) w.lies memory w.allowed.long)
    ∙ sym w.left

-- ---- how many are made

module _ (l : Layout) (t : ℕ → Step) where
  pub made_none : made l t 0 ≡ 0
  unfolding made
  made_none = refl

  pub made_more : (n : ℕ) → stores_out l (t n) ≡ true → made l t (suc n) ≡ suc (made l t n)
  unfolding made
  made_more n e = simp e (omega arith)

  pub made_same : (n : ℕ) → stores_out l (t n) ≡ false → made l t (suc n) ≡ made l t n
  unfolding made
  made_same n e = simp e (omega arith)

  -- where each of the first n is a store outside XS
  pub made_each : (n : ℕ) → ((i : ℕ) → i < n → stores_out l (t i) ≡ true) → made l t n ≡ n
  made_each zero f = made_none
  made_each (suc n) f = made_more n (f n (omega arith)) ∙ ap suc (made_each n (λ i k. f i (omega arith)))

-- ---- the memory on the way

-- a step that stores nothing outside XS, the DMA idle, leaves every byte there
step_aside : (l : Layout) (m : Monitor) (s : Step) (memory : List ℕ) (a : ℕ) → s.dmaactive ≡ false
    → stores_out l s ≡ false → outside l.xs a ≡ true → get_or (decided_memory l m s memory) a 0 ≡ get_or memory a 0
step_aside l m s memory a d o e =
    elim (written_byte l (cause l m s) s memory a) [
      | inl stays ↦ stays
      | inr (inl c) ↦
          let w = (both s.cpuwrites _ (both (s.cpuwrites && outside l.cr s.cpuaddress) _ c.lands).0).0 in
          clash (stores_out l s) (simp (w, c.address, e)) o
      | inr (inr c) ↦
          let on = s.dmaactive && s.dmawrites in
          let w = (both on _ (both (on && outside l.cr s.dmaaddress) _ c.lands).0).0 in
          clash s.dmaactive (both s.dmaactive s.dmawrites w).0 d
    ]

-- the same byte put at the same place of two such memories
set_same : (l : Layout) (x y : List ℕ) → SameOutside l x y → (a v : ℕ) → a < length x
    → SameOutside l (set x a v) (set y a v)
set_same l x y g a v h = record {
  long = simp length-set g.long;
  same = λ k o.
      cases (eqb k a)
      (λ e.
      let q = eqb-true k a e in
      let n = g.long in
      rw q (get_or-set_same x a v 0 h ∙ sym (get_or-set_same y a v 0 (omega arith))))
      (λ e.
      let q = eqb-false k a e in
      get_or-set_other x a k v 0 q ∙ g.same k o ∙ sym (get_or-set_other y a k v 0 q));
}

writes_nothing : (w p : Bool) → (w && not p) ≡ false → (w && p) ≡ false → w ≡ false
writes_nothing false p e f = refl
writes_nothing true true e f = f
writes_nothing true false e f = e

module _ (layout memory' : List ℕ) (t : ℕ → Step) (x : State) (n : ℕ) (h : Bytes layout)
    (free : Free (layout_of layout) x) (a : Attests x.memory layout memory' (Ok tt))
    (makes : Makes (layout_of layout) x.memory t n) where
  abbrev l : Layout
  l = layout_of layout

  abbrev memory : List ℕ
  memory = x.memory

  call : Accepts memory layout memory'
  call = accepts memory layout memory' h a

  -- a store outside XS is made
  stores_next : (i : ℕ) → i < n → stores_out l (t i) ≡ true
      → (before l t x (suc i)).memory
      ≡ set (before l t x i).memory (store_at l (made l t i)) (store_byte l memory (made l t i))
  unfolding before
  stores_next i k o =
      let q = makes.next i k o in
      let at = store_at l (made l t i) in
      step_stores l (remembers l t x i) (t i) (before l t x i).memory
      (visit_passes l t x n free makes.begins i k) (makes.begins.each i k).idle
      (both (t i).cpuwrites (outside l.xs (t i).cpuaddress) o).0
      (ap (cr_or_kr l) q.address ∙ off_rom layout call.good at (store_in l call.lies (made l t i) q.more))
      ∙ ap (λ (b : ℕ). set (before l t x i).memory b (t i).cpudata) q.address
      ∙ ap (set (before l t x i).memory at) q.byte

  starts : (before l t x 0).memory ≡ cut_after l memory (made l t 0)
  unfolding before
  starts = sym (ap (cut_after l memory) (made_none l t) ∙ cut_none l memory)

  aside : (i : ℕ) → i < n → stores_out l (t i) ≡ false → (b : ℕ) → outside l.xs b ≡ true
      → get_or (before l t x (suc i)).memory b 0 ≡ get_or (before l t x i).memory b 0
  unfolding before
  aside i k o b e =
      step_aside l (remembers l t x i) (t i) (before l t x i).memory b (makes.begins.each i k).idle o e

  so_far : (i : ℕ) → i ≤ n → SameOutside l (before l t x i).memory (cut_after l memory (made l t i))
  so_far zero k = rw starts (record { long = refl; same = λ b e. refl })
  so_far (suc i) k =
      let g = so_far i (omega arith) in
      let z = length_before l t x i in
      cases (stores_out l (t i))
      (λ o.
      let small = store_small l call.lies (made l t i) (makes.next i k o).more in
      rw (stores_next i k o, made_more l t i o, cut_more l memory (made l t i))
      (set_same l _ _ g (store_at l (made l t i)) (store_byte l memory (made l t i))
      (omega (arith, call.allowed.long))))
      (λ o. rw (made_same l t i o) (record {
        long = length_before l t x (suc i) ∙ sym z ∙ g.long;
        same = λ b e. aside i k o b e ∙ g.same b e;
      }))

  module _ (none : (i : ℕ) → i < n → cpu_writes_in l.xs (t i) ≡ false) where
    nothing : (i : ℕ) → i < n → stores_out l (t i) ≡ false → (before l t x (suc i)).memory ≡ (before l t x i).memory
    unfolding before
    nothing i k o =
        keeps_memory l (remembers l t x i) (t i) (before l t x i).memory
        (visit_passes l t x n free makes.begins i k) (makes.begins.each i k).idle
        (writes_nothing (t i).cpuwrites (within l.xs (t i).cpuaddress) o (none i k))

    exactly : (i : ℕ) → i ≤ n → (before l t x i).memory ≡ cut_after l memory (made l t i)
    exactly zero k = starts
    exactly (suc i) k =
        let g = exactly i (omega arith) in
        cases (stores_out l (t i))
        (λ o. rw (stores_next i k o, made_more l t i o, cut_more l memory (made l t i), g) refl)
        (λ o. rw (nothing i k o, made_same l t i o) g)

pub cut_visit : claim.CutVisit
cut_visit layout memory' t x n i h free a makes k = so_far layout memory' t x n h free a makes i k

pub visit_attests : claim.VisitAttests
visit_attests layout memory' t x n h free a plays =
    let l = layout_of layout in
    let e : cut_after l x.memory (made l t n) ≡ memory' =
    ap (cut_after l x.memory) plays.all ∙ all_stores x.memory layout memory' h a in
    rw e at (so_far layout memory' t x n h free a plays.makes n (omega arith))

pub exact_visit : claim.ExactVisit
exact_visit layout memory' t x n h free a plays none =
    exactly layout memory' t x n h free a plays.makes none n (omega arith)
    ∙ ap (cut_after (layout_of layout) x.memory) plays.all
    ∙ all_stores x.memory layout memory' h a

-- ---- there is such a visit

module _ (b : List ℕ) (g : Good b) where
  pub code_ends : (within (layout_of b).cr (layout_of b).cr.lo ≡ true)
      × (within (layout_of b).cr (layout_of b).cr.hi ≡ true)
  unfolding layout_of
  code_ends =
      let o = g.ordered CR (omega arith) in
      let r = region b CR in
      (ends_within r r.lo (omega arith) o, ends_within r r.hi o (omega arith))

-- rule 6 allows a write there
allows : (l : Layout) (a : ℕ) → mr_or_ctr l a → writable l a ≡ true
allows l a (inl e) = simp (e, or-true)
allows l a (inr e) = simp (e, or-true)

-- m steps that are those of `played`
module _ (memory layout memory' : List ℕ) (h : Bytes layout) (a : Attests memory layout memory' (Ok tt)) (t : ℕ → Step)
    (m : ℕ) (most : m ≤ 64) (f : (i : ℕ) → i < m → t i ≡ played (layout_of layout) memory i) where
  abbrev ly : Layout
  ly = layout_of layout

  accepting : Accepts memory layout memory'
  accepting = accepts memory layout memory' h a

  place : (i : ℕ) → i < m → mr_or_ctr ly (store_at ly i)
  place i k = store_in ly accepting.lies i (omega arith)

  -- they store outside XS and not into it
  played_out : (i : ℕ) → i < m → (stores_out ly (t i) ≡ true) × (cpu_writes_in ly.xs (t i) ≡ false)
  played_out i k =
      let o = off_scratch layout accepting.good (store_at ly i) (place i k) in
      (rw (f i k) (simp o), rw (f i k) (simp o))

  pub played_made : (n : ℕ) → n ≤ m → made ly t n ≡ n
  played_made n e = made_each ly t n (λ i k. (played_out i (omega arith)).0)

  pub played_none : (i : ℕ) → i < m → cpu_writes_in ly.xs (t i) ≡ false
  played_none i k = (played_out i k).1

  played_inside : (i : ℕ) → i < m → Inside ly (t i)
  played_inside i k =
      let c = code_ends layout accepting.good in
      rw (f i k) (record {
        pc = cases (eqb i 63) (λ e. simp e c.1) (λ e. simp e c.0);
        calm = refl;
        idle = refl;
        writes = λ e. allows ly (store_at ly i) (place i k);
      })

  pub played_makes : 0 < m → Makes ly memory t m
  played_makes some = record {
    begins = record { enters = ap (λ (s : Step). s.pc) (f 0 some); each = played_inside };
    next = λ i k o.
        let q = played_made i (omega arith) in
        record {
          more = omega arith;
          address = ap (λ (s : Step). s.cpuaddress) (f i k) ∙ ap (store_at ly) (sym q);
          byte = ap (λ (s : Step). s.cpudata) (f i k) ∙ ap (store_byte ly memory) (sym q);
        };
  }

pub played_plays : (memory layout memory' : List ℕ) → Bytes layout → Attests memory layout memory' (Ok tt) → (t : ℕ → Step)
    → ((i : ℕ) → i < 64 → t i ≡ played (layout_of layout) memory i) → Plays (layout_of layout) memory t 64
played_plays memory layout memory' h a t f =
    let makes = played_makes memory layout memory' h a t 64 (omega arith) f (omega arith) in
    record {
      visit = record {
        some = omega arith;
        begins = makes.begins;
        ends = ap (λ (s : Step). s.pc) (f 63 (omega arith));
      };
      makes = makes;
      all = played_made memory layout memory' h a t 64 (omega arith) f 64 (omega arith);
    }

pub can_be_played : claim.CanBePlayed
can_be_played memory layout memory' h a =
    played_plays memory layout memory' h a (played (layout_of layout) memory) (λ i k. refl)

-- ---- a step put between

module _ (t : ℕ → Step) (k : ℕ) (s : Step) where
  abbrev with : ℕ → Step
  with = inserted t k s

  with_before : (i : ℕ) → i < k → with i ≡ t i
  with_before i h = simp (lt-ltb i k h)

  with_there : with k ≡ s
  with_there = simp (le-ltb k k (omega arith), eq-eqb k k refl)

  with_behind : (i : ℕ) → k ≤ i → with (suc i) ≡ t i
  with_behind i h =
      let q : suc i ≢ k = λ e. omega arith in
      let d : suc i - 1 ≡ i = omega arith in
      simp (le-ltb (suc i) k (omega arith), ne_eqb (suc i) k q, d)

-- i is before k, at k, or behind it
place_of : (k i : ℕ) → (i < k) ⊎ (i ≡ k) ⊎ ((j : ℕ) × (i ≡ suc j) × (k ≤ j))
place_of k i =
    cases (ltb i k) (λ e. inl (ltb-true i k e))
    (λ e.
    let h = ltb-false i k e in
    cases (eqb i k) (λ u. inr (inl (eqb-true i k u)))
    (λ u. let c = eqb-false i k u in inr (inr (i - 1, omega arith, omega arith))))

-- a step that stores what the next of another trace does
next_so : (l : Layout) (memory : List ℕ) (t u : ℕ → Step) (i j : ℕ) → u i ≡ t j → made l u i ≡ made l t j
    → StoresNext l memory t j → StoresNext l memory u i
next_so l memory t u i j e f q = record {
  more = subst (λ (n : ℕ). n < 64) (sym f) q.more;
  address = ap (λ (s : Step). s.cpuaddress) e ∙ q.address ∙ ap (store_at l) (sym f);
  byte = ap (λ (s : Step). s.cpudata) e ∙ q.byte ∙ ap (store_byte l memory) (sym f);
}

module _ (l : Layout) (memory : List ℕ) (t : ℕ → Step) (n k : ℕ) (s : Step) (plays : Plays l memory t n) (some : 0 < k)
    (h : k < n) (inside : Inside l s) (none : stores_out l s ≡ false) where
  abbrev u : ℕ → Step
  u = inserted t k s

  out_so : (i j : ℕ) → u i ≡ t j → stores_out l (u i) ≡ stores_out l (t j)
  out_so i j e = ap (stores_out l) e

  -- as many are made
  made_so : (i j : ℕ) → u i ≡ t j → made l u i ≡ made l t j → made l u (suc i) ≡ made l t (suc j)
  unfolding made
  made_so i j e f = simp (out_so i j e, f)

  made_before : (i : ℕ) → i ≤ k → made l u i ≡ made l t i
  made_before zero e = made_none l u ∙ sym (made_none l t)
  made_before (suc i) e = made_so i i (with_before t k s i e) (made_before i (omega arith))

  made_behind : (d : ℕ) → made l u (suc (k + d)) ≡ made l t (k + d)
  made_behind zero =
      let q : k + 0 ≡ k = omega arith in
      rw q (made_same l u k (ap (stores_out l) (with_there t k s) ∙ none) ∙ made_before k (omega arith))
  made_behind (suc d) =
      let q : k + suc d ≡ suc (k + d) = omega arith in
      rw q (made_so (suc (k + d)) (k + d) (with_behind t k s (k + d) (omega arith)) (made_behind d))

  made_later : (i : ℕ) → k ≤ i → made l u (suc i) ≡ made l t i
  made_later i e =
      let q : i ≡ k + (i - k) = omega arith in
      rw q (made_behind (i - k))

  begun : VisitBegins l u (suc n)
  begun = record {
    enters = ap (λ (r : Step). r.pc) (with_before t k s 0 some) ∙ plays.visit.begins.enters;
    each = λ i e.
        elim (place_of k i) [
          | inl q ↦ subst (Inside l) (sym (with_before t k s i q)) (plays.visit.begins.each i (omega arith))
          | inr (inl q) ↦ subst (λ (j : ℕ). Inside l (u j)) (sym q) (subst (Inside l) (sym (with_there t k s)) inside)
          | inr (inr (j, q, g)) ↦
              subst (λ (m : ℕ). Inside l (u m)) (sym q)
              (subst (Inside l) (sym (with_behind t k s j g)) (plays.visit.begins.each j (omega arith)))
        ];
  }

  follows : (i : ℕ) → i < suc n → stores_out l (u i) ≡ true → StoresNext l memory u i
  follows i e o =
      elim (place_of k i) [
        | inl q ↦
            let w = with_before t k s i q in
            next_so l memory t u i i w (made_before i (omega arith))
            (plays.makes.next i (omega arith) (sym (out_so i i w) ∙ o))
        | inr (inl q) ↦ clash (stores_out l (u i)) o (ap (λ (j : ℕ). stores_out l (u j)) q
            ∙ ap (stores_out l) (with_there t k s) ∙ none)
        | inr (inr (j, q, g)) ↦
            let w = ap u q ∙ with_behind t k s j g in
            next_so l memory t u i j w (ap (made l u) q ∙ made_later j g)
            (plays.makes.next j (omega arith) (sym (out_so i j w) ∙ o))
      ]

  paused : Plays l memory u (suc n)
  paused =
      let q : suc n - 1 ≡ suc (n - 1) = omega arith in
      record {
        visit = record {
          some = omega arith;
          begins = begun;
          ends = ap (λ (i : ℕ). (u i).pc) q ∙ ap (λ (r : Step). r.pc) (with_behind t k s (n - 1) (omega arith))
              ∙ plays.visit.ends;
        };
        makes = record { begins = begun; next = follows };
        all = made_later n (omega arith) ∙ plays.all;
      }

pub may_pause : claim.MayPause
may_pause = paused

-- ---- the attestation code's stores into CTR

pub code_may_store : claim.CodeMayStore
unfolding before
code_may_store layout x a v g free c h =
    let l = layout_of layout in
    let s = writing l.cr.lo a v in
    let i : Inside l s =
    record {
      pc = (code_ends layout g).0;
      calm = refl;
      idle = refl;
      writes = λ e. allows l a (inr c);
    } in
    let e = inside_passes l x.monitor s free.unheld i (λ o. refl) in (
      e,
      ap (λ (m : List ℕ). get_or m a 0)
          (step_stores l x.monitor s x.memory e refl refl (off_rom layout g a (inr c)))
          ∙ get_or-set_same x.memory a v 0 h,
    )
