-- The claims about what the counter's history rests on hold. Assumes nothing.
use mathlib.Core.Path.{◌≡◌, refl, sym, ap, subst, ◌∙◌}
use mathlib.Core.Bool.{Bool, true, false, ◌&&◌}
use mathlib.Core.List.{List, [], ◌∷◌}
use Prim.Native.Nat.{ℕ, zero, suc, ◌+◌, ◌<◌}
use native.Mathlib.Omega.{arith}
use lib.Dec.{ltb}
use lib.ListN.{length}
use borrow.Author.Tests.{ltb-true}
use Rattle.notions.specs.Bytes.{Bytes}
use Rattle.notions.specs.First.{first}
use Rattle.notions.proofs.Bytes.{bytes_cons}
use Rattle.notions.proofs.Tests.{untrue, both}
use Rattle.refusal.proofs.Settled.{row_settled}
use Rattle.layout.specs.declared.Region.{Region}
use Rattle.layout.specs.Regions.{within, size}
use Rattle.layout.specs.Layouts.{MR, CTR, layout_of, layout_check}
use Rattle.layout.specs.Good.{Good}
use Rattle.layout.specs.Calls.{memory_bytes}
use Rattle.layout.proofs.Laws.{done_good, good_done, within_ends, elsewhere}
use Rattle.traces.specs.Traces.{steps}
use Rattle.monitor.specs.Runs.{begin, memory_after}
use Rattle.routine.specs.Strings.{greater}
use Rattle.routine.proofs.Order.{greater_trans}
use Rattle.board.specs.Memory.{bytes_at, bytes_of, key, counter, attested, challenge, received, replied}
use Rattle.board.specs.Attestation.{attest_check, accepted}
use Rattle.board.proofs.Laws.{allowed_done, attested_done, region_agrees}
use Rattle.claims_monitor.specs.Marked.{page_bytes}
use Rattle.claims_monitor.specs.Traces.{cause_at}
use Rattle.claims_monitor.proofs.Marked.{page_layout}
use Rattle.claims_attestation.proofs.Accepts.{accepts, accepted_key, accepted_challenge, accepted_received}
use Rattle.claims_attestation.specs.Demand2.{Request, Agrees}
use Rattle.claims_attestation.proofs.Demand2.{accepts_exactly, agrees_as}
use Rattle.claims_histories.specs.Limits as claim
use Rattle.claims_histories.specs.Limits.{moved_bytes, cut_trace, OutOfOrder}
use Rattle.claims_histories.specs.History.{Event, attest, trace, change, Keeps, Happens}
use Rattle.claims_histories.proofs.History.{Exchange, exchange, trace_keeps}
use Rattle.claims_histories.proofs.OutOfOrder.{cut_traced, happens, cut_leaves, cut_because}
use Rattle.claims_histories.proofs.OutOfOrder.{changed, changed_keeps, changed_region}
use Rattle.std.specs.Prelude.{Ok}

-- ---- the counter is kept

pub fallen_back : claim.FallenBack
fallen_back layout x x' y y' r p q long ek ec et fresh =
    let a = (attested_done x layout x' p).0 in
    row_settled r (attest_check y layout) q.answered
    ∙ allowed_done y layout (record { long = long ∙ a.long; laid = a.laid; fresh = fresh; genuine = cc a.genuine })

-- ---- the layout stays

-- an address of CTR is not in MR
mail_apart : (b : List ℕ) → Good b → (a : ℕ) → within (layout_of b).ctr a ≡ true → within (layout_of b).mr a ≡ false
unfolding layout_of
mail_apart b g a w = elsewhere g CTR MR (omega arith) (omega arith) (λ q. omega arith) refl refl a w

pub counter_moved : claim.CounterMoved
counter_moved layout moved memory c b good good_moved v long lc fresh fresh_moved =
    let l = layout_of layout in
    let m = layout_of moved in
    let e = exchange layout b good memory c long lc fresh in
    let x = e.request in
    let y = e.after in
    let p = e.serves in
    let a = accepts x layout y b p in
    let ctr : counter m y ≡ counter m memory =
    region_agrees m.ctr y memory (e.long ∙ sym long)
    (λ k w. e.else k
    (ap (λ (r : Region). within r k) (sym v.mail) ∙ mail_apart moved good_moved k w) (v.apart k w)) in
    let same : challenge m y ≡ challenge l x =
    ap (λ (r : Region). bytes_at r.lo 32 y) v.mail ∙ accepted_challenge x layout y b p in
    let asks : challenge m y ≡ c = same ∙ sym e.asks in
    let came : received m y ≡ received l x =
    ap (λ (r : Region). bytes_at (r.lo + 32) 32 y) v.mail ∙ accepted_received x layout y b p in
    let k : key m y ≡ key l x = ap (λ (r : Region). bytes_of r y) v.key ∙ accepted_key x layout y b p in
    let done : attest_check y moved ≡ Ok tt =
    allowed_done y moved (record {
      long = e.long;
      laid = good_done moved good_moved;
      fresh = rw (asks, ctr) fresh_moved;
      genuine = rw (same, came, k) a.allowed.genuine;
    }) in
    record {
      request = x;
      once = y;
      twice = accepted m y;
      posts = e.keeps;
      asks = sym e.asks;
      first = p;
      asks_again = asks;
      second = record { answered = simp done; memory_left = simp done };
    }

pub page_moved : claim.PageMoved
unfolding first layout_of layout_check
page_moved =
    record {
      passes = refl;
      moved =
          record {
            key = refl;
            mail = refl;
            apart = λ a w.
                let q = within_ends (record { lo = 0x0900; hi = 0x091F }) a w in
                untrue (within (record { lo = 0x0300; hi = 0x031F }) a)
                (λ u.
                let p = within_ends (record { lo = 0x0300; hi = 0x031F }) a u in
                omega (arith, q.0, p.1));
          };
    }

-- bytes, told by a test
small : List ℕ → Bool
small [] = true
small (x ∷ b) = ltb x 256 && small b

small_bytes : (b : List ℕ) → small b ≡ true → Bytes b
unfolding small
small_bytes [] e = λ i. omega arith
small_bytes (x ∷ b) e =
    let p = both (ltb x 256) (small b) e in
    bytes_cons x b (ltb-true x 256 p.0) (small_bytes b p.1)

page_bytes_lem : Bytes page_bytes
unfolding small
page_bytes_lem = small_bytes page_bytes refl

pub page_twice : claim.PageTwice
page_twice memory c long lc fresh fresh_moved =
    counter_moved page_bytes moved_bytes memory c page_bytes_lem (done_good page_bytes page_layout.passes)
    (done_good moved_bytes page_moved.passes) page_moved.moved long lc fresh fresh_moved

-- ---- a visit runs to its end

-- a request for c in the mailbox, and the visit that is cut
record Cut (layout memory c : List ℕ) : Type 0 where
  request : List ℕ
  after : List ℕ
  posts : Keeps (layout_of layout) memory request
  asks : challenge (layout_of layout) request ≡ c
  genuine : Request (layout_of layout) request
  judged : Happens layout (trace (cut_trace (layout_of layout) request) cut_traced) request after
  because :
      (let b = cut_trace (layout_of layout) request in
      cause_at (layout_of layout) (steps b) (begin request) 33 ≡ 4)
  keeps : Keeps (layout_of layout) request after
  answered :
      (let l = layout_of layout in
      Agrees (key l memory) c (attested l memory) (replied l after))

cut_visit : (layout memory c : List ℕ) → Bytes layout → Exchange layout memory c → Cut layout memory c
cut_visit layout memory c b p =
    let l = layout_of layout in
    let x = p.request in
    let t = cut_trace l x in
    let h = happens x layout p.after b p.serves in
    record {
      request = x;
      after = memory_after l t x;
      posts = p.keeps;
      asks = sym p.asks;
      genuine = ((accepts_exactly x layout p.after (Ok tt) p.serves).0 refl).2;
      judged = h;
      because = cut_because x layout p.after b p.serves;
      keeps = trace_keeps x layout t h.0.0 (memory_after l t x) h.0.1 cut_traced h.0.2 h.1;
      answered =
          subst (Agrees (key l memory) c (attested l memory))
          (p.replies ∙ sym (cut_leaves x layout p.after b p.serves).reply) p.told;
    }

-- and AR altered behind it
record Altered (layout memory altered : List ℕ) : Type 0 where
  after : List ℕ
  keeps : Keeps (layout_of layout) memory after
  region : attested (layout_of layout) after ≡ altered

alter : (layout memory altered : List ℕ) → Bytes layout → Good layout
    → ((a : ℕ) → within (layout_of layout).ar a ≡ true → within (layout_of layout).cr a ≡ false)
    → length memory ≡ memory_bytes → length altered ≡ size (layout_of layout).ar → Altered layout memory altered
alter layout memory altered b good apart long fits = record {
  after = changed layout good memory altered long fits;
  keeps = changed_keeps layout good memory altered long fits apart;
  region = changed_region layout good memory altered long fits b;
}

-- the history of these and of a request that is then served
in_a_row : (layout memory c d altered : List ℕ) → Bytes layout → (p : Cut layout memory c)
    → (a : Altered layout p.after altered) → Exchange layout a.after d → greater c d ≡ true
    → OutOfOrder layout memory c d altered
in_a_row layout memory c d altered b p a q larger =
    let l = layout_of layout in
    let t = cut_trace l p.request in
    let m = memories memory p.request p.after a.after q.request q.after in
    record {
      history =
          record {
            layout = layout;
            in_bytes = b;
            n = 5;
            events = events t;
            memories = m;
            happens = λ i e. five t m i e p.posts p.judged a.keeps q.keeps q.serves;
          };
      laid = refl;
      from = refl;
      asks = p.asks;
      request = p.genuine;
      cut = refl;
      because = p.because;
      answered = p.answered;
      uncounted = p.keeps.counter ∙ p.posts.counter;
      region = q.region ∙ a.region;
      accepted = record { happened = omega arith; event = refl; request = q.asks };
      larger = larger;
      told = agrees_as (a.keeps.key ∙ p.keeps.key ∙ p.posts.key) refl a.region q.told;
    }
  where
    events : List ℕ → ℕ → Event
    events b zero = change
    events b (suc zero) = trace b cut_traced
    events b (suc (suc zero)) = change
    events b (suc (suc (suc zero))) = change
    events b (suc (suc (suc (suc i)))) = attest (Ok tt)

    memories : List ℕ → List ℕ → List ℕ → List ℕ → List ℕ → List ℕ → ℕ → List ℕ
    memories a b c d e f zero = a
    memories a b c d e f (suc zero) = b
    memories a b c d e f (suc (suc zero)) = c
    memories a b c d e f (suc (suc (suc zero))) = d
    memories a b c d e f (suc (suc (suc (suc zero)))) = e
    memories a b c d e f (suc (suc (suc (suc (suc i))))) = f

    five : (b : List ℕ) (m : ℕ → List ℕ) (i : ℕ) → i < 5 → Happens layout change (m 0) (m 1)
        → Happens layout (events b 1) (m 1) (m 2)
        → Happens layout change (m 2) (m 3) → Happens layout change (m 3) (m 4)
        → Happens layout (attest (Ok tt)) (m 4) (m 5)
        → Happens layout (events b i) (m i) (m (suc i))
    five b m zero h p q r s t = p
    five b m (suc zero) h p q r s t = q
    five b m (suc (suc zero)) h p q r s t = r
    five b m (suc (suc (suc zero))) h p q r s t = s
    five b m (suc (suc (suc (suc zero)))) h p q r s t = t
    five b m (suc (suc (suc (suc (suc i))))) h p q r s t = absurd (omega arith)

pub checked_out_of_order : claim.CheckedOutOfOrder
checked_out_of_order layout memory c d altered b good apart long lc ld la fresh larger =
    let l = layout_of layout in
    let p =
    cut_visit layout memory c b
    (exchange layout b good memory c long lc (greater_trans c d (counter l memory) larger fresh)) in
    let n : length p.after ≡ memory_bytes = p.keeps.long ∙ p.posts.long ∙ long in
    let a = alter layout p.after altered b good apart n la in
    let e : counter l a.after ≡ counter l memory = a.keeps.counter ∙ p.keeps.counter ∙ p.posts.counter in
    in_a_row layout memory c d altered b p a
    (exchange layout b good a.after d (a.keeps.long ∙ n) ld (ap (greater d) e ∙ fresh)) larger
