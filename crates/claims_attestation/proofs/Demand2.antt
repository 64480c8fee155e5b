-- The routine on the board, the station, and both together: the claims of demand 2. Assumes nothing.
use mathlib.Core.Path.{◌≡◌, refl, sym, ap, subst, ◌∙◌}
use mathlib.Core.Logic.{◌≢◌}
use mathlib.Core.Bool.{true, false}
use mathlib.Core.List.{List}
use Prim.Native.Nat.{ℕ, ◌+◌, ◌≤◌, ◌<◌}
use native.Mathlib.Nat.{add-zero}
use native.Mathlib.Omega.{arith}
use lib.ListN.{length, get_or}
use Rattle.notions.specs.Bytes.{Bytes}
use Rattle.refusal.specs.Numbers.{number}
use Rattle.refusal.specs.declared.Reason.{Reason}
use Rattle.refusal.specs.Answers.{Answer, row, refused_at}
use Rattle.refusal.specs.declared.Reason.TheVariants.{RegionsShare, ChallengeNotGreater, TokenDiffers}
use Rattle.refusal.proofs.Settled.{row_settled}
use Rattle.refusal.proofs.Order.{refuses_none}
use Rattle.notions.proofs.Tests.{cases, clash, untrue}
use Rattle.layout.specs.declared.Region.{Region}
use Rattle.layout.specs.declared.Layout.{Layout}
use Rattle.layout.specs.Regions.{within, size}
use Rattle.layout.specs.Layouts.{layout_of}
use Rattle.layout.specs.Good.{Good}
use Rattle.layout.specs.Calls.{memory_bytes, call_check}
use Rattle.layout.proofs.Laws.{done_good, good_done, within_ends}
use Rattle.layout.proofs.Calls.{call_passed, call_rest, call_refused, call_numbers}
use Rattle.layout.proofs.Placed.{placed}
use Rattle.sha256.proofs.Laws.{gives_bytes}
use Rattle.routine.specs.Strings.{greater, same}
use Rattle.routine.specs.Routine.{token, reply, request_check}
use Rattle.routine.proofs.Order.{equal_same, same_equal}
use Rattle.routine.proofs.Laws.{token_is, reply_is, length_reply, request_passes, request_old, request_forged}
use Rattle.board.specs.Memory.{bytes_at, key, counter, attested, challenge, received, reply_at, replied}
use Rattle.board.specs.Attestation.{request_check_in, attest_check, accepted, stores_to}
use Rattle.board.specs.Promises.{Attests}
use Rattle.board.proofs.Stores.{read_same, read_inside}
use Rattle.board.proofs.Laws as board
use Rattle.board.proofs.Laws.{done_allowed, allowed_done, attested_refused}
use Rattle.station.specs.Lengths.{Lengths}
use Rattle.station.specs.Promises.{check_unfit, ChecksReply}
use Rattle.station.proofs.Laws.{token_fits, lengths_fit, fit_lengths, said_yes, says_yes, said_no, says_no}
use Rattle.station.proofs.Laws.{said_refused, says_refused}
use Rattle.claims_attestation.specs.Demand2 as claim
use Rattle.claims_attestation.specs.Demand2.{SameRequest, Agrees, posted}
use Rattle.conditions.proofs.Answers.{lent_either}
use Rattle.claims_attestation.proofs.Accepts.{Accepts, accepts}
use Rattle.claims_attestation.proofs.Posted.{request_is, request_key, request_attested, request_done}
use Rattle.std.specs.Prelude.{Err, Ok}

-- ---- the routine, on the board

pub accepts_exactly : claim.AcceptsExactly
accepts_exactly memory layout memory' r p =
    let e = row_settled r (attest_check memory layout) p.answered in (
      λ d.
          let a = done_allowed memory layout (sym e ∙ d) in
          (a.long, done_good layout a.laid, record { fresh = a.fresh; genuine = sym a.genuine ∙ token_is _ _ }),
      λ g.
          e ∙ allowed_done memory layout (record {
            long = g.0;
            laid = good_done layout g.1;
            fresh = g.2.fresh;
            genuine = token_is _ _ ∙ sym g.2.genuine;
          }),
    )

pub answers_so : claim.AnswersSo
answers_so memory layout memory' b p = (accepts memory layout memory' b p).served

pub refuses_so : claim.RefusesSo
refuses_so = attested_refused

one_number : (n m : Reason) → refused_at n 0 ≡ refused_at m 0 → number n ≡ number m
one_number n m e = ap (λ (a : Answer). get_or (row a) 0 0) e

-- refused with 10, the challenge is not greater than the counter; with 11, it is and the token is another
old_request : (k challenge received counter : List ℕ)
    → request_check k challenge received counter ≡ refused_at ChallengeNotGreater 0
    → greater challenge counter ≡ false
old_request k c t n e =
    untrue (greater c n)
    (λ g. cases (same (token k c) t)
    (λ h. let z : ◌≡◌ {A = ℕ} 0 1 = cc (e, request_passes k c t n g (same_equal (token k c) t h)) in omega arith)
    (λ h.
    let z =
    one_number ChallengeNotGreater TokenDiffers
    (sym e ∙ request_forged k c t n g (λ q. clash (same (token k c) t) (equal_same (token k c) t q) h)) in
    omega arith))

forged_request : (k challenge received counter : List ℕ)
    → request_check k challenge received counter ≡ refused_at TokenDiffers 0
    → (greater challenge counter ≡ true) × (token k challenge ≢ received)
forged_request k c t n e =
    let g : greater c n ≡ true =
    cases (greater c n) (λ g. g)
    (λ g.
    let z = one_number TokenDiffers ChallengeNotGreater (sym e ∙ request_old k c t n g) in
    absurd (omega arith)) in
    (g, λ q. let z : ◌≡◌ {A = ℕ} 0 1 = cc (e, request_passes k c t n g q) in omega arith)

-- by steps 1 and 2
request_refused : (memory layout memory' : List ℕ) (r q : Answer) → Attests memory layout memory' r
    → length memory ≡ memory_bytes → Good layout
    → request_check_in (layout_of layout) memory ≡ q → r ≡ q
unfolding attest_check
request_refused memory layout memory' r q p long good e =
    row_settled r (attest_check memory layout) p.answered ∙ call_rest memory layout _ long (good_done layout good) ∙ e

-- a call that is refused with a number over 6 is refused by steps 1 and 2
refused_request : (memory layout memory' : List ℕ) (r : Answer) (n : Reason) → Attests memory layout memory' r
    → number RegionsShare < number n → r ≡ refused_at n 0
    → (length memory ≡ memory_bytes) × Good layout × (request_check_in (layout_of layout) memory ≡ refused_at n 0)
unfolding attest_check
refused_request memory layout memory' r n p h e =
    let rest = request_check_in (layout_of layout) memory in
    by_first (call_check memory layout (Ok tt)) refl
    (sym (row_settled r (attest_check memory layout) p.answered) ∙ e)
  where
    by_first : (a : Answer) → call_check memory layout (Ok tt) ≡ a
        → call_check memory layout (request_check_in (layout_of layout) memory) ≡ refused_at n 0
        → (length memory ≡ memory_bytes) × Good layout × (request_check_in (layout_of layout) memory ≡ refused_at n 0)
    by_first (Ok _) c d =
        let q = call_passed memory layout (Ok tt) c in
        (q.0, done_good layout q.1, sym (call_rest memory layout _ q.0 q.1) ∙ d)
    by_first (Err q) c d =
        let z : number n ≡ number q.reason = cc (call_refused memory layout (request_check_in (layout_of layout) memory) q c) in
        let m = call_numbers (λ k. k ≤ number RegionsShare) memory layout (Ok tt) (λ k u v. v)
        (refuses_none (λ k. k ≤ number RegionsShare)) q c in
        absurd (omega arith)

pub old_refused : claim.OldRefused
old_refused memory layout memory' r p = (
  λ e.
      let q = refused_request memory layout memory' r ChallengeNotGreater p (omega arith) e in
      (q.0, q.1, old_request _ _ _ _ q.2),
  λ q. request_refused memory layout memory' r _ p q.0 q.1 (request_old _ _ _ _ q.2),
)

pub forged_refused : claim.ForgedRefused
forged_refused memory layout memory' r p = (
  λ e.
      let q = refused_request memory layout memory' r TokenDiffers p (omega arith) e in
      let f = forged_request _ _ _ _ q.2 in
      (q.0, q.1, f.0, λ g. f.1 (token_is _ _ ∙ sym g)),
  λ q.
      request_refused memory layout memory' r _ p q.0 q.1
      (request_forged _ _ _ _ q.2 (λ e. q.3 (sym e ∙ token_is _ _))),
)

pub stores_bytes : claim.StoresBytes
stores_bytes memory layout memory' r b p =
    let l = layout_of layout in
    rw p.memory_left (lent_either (λ f. Bytes (f (accepted l memory) memory)) (attest_check memory layout)
    (board.bytes_accepted l memory b) b)

-- ---- frame

-- challenge and token are read from MR's first 64 bytes
module _ (l : Layout) (x y : List ℕ) (s : SameRequest l x y) where
  same_mail : (k : ℕ) → k + 32 ≤ 64 → bytes_at (l.mr.lo + k) 32 x ≡ bytes_at (l.mr.lo + k) 32 y
  same_mail k h =
      read_inside x l.mr.lo 64 k 32 h ∙ ap (bytes_at k 32) s.mail ∙ sym (read_inside y l.mr.lo 64 k 32 h)

  same_challenge : challenge l x ≡ challenge l y
  same_challenge = rw add-zero at (same_mail 0 (omega arith))

  same_received : received l x ≡ received l y
  same_received = same_mail 32 (omega arith)

same_check : (layout x y : List ℕ) → SameRequest (layout_of layout) x y → attest_check x layout ≡ attest_check y layout
unfolding attest_check
same_check layout x y s =
    let l = layout_of layout in
    cc (s.long, s.key, s.counter, same_challenge l x y s, same_received l x y s)

module _ (layout x y x' y' : List ℕ) (b : Bytes layout) (s : SameRequest (layout_of layout) x y)
    (p : Attests x layout x' (Ok tt)) (q : Attests y layout y' (Ok tt)) where
  same_replied : replied (layout_of layout) x' ≡ replied (layout_of layout) y'
  same_replied =
      (answers_so x layout x' b p).reply
      ∙ cc (s.key, same_challenge (layout_of layout) x y s, s.attested)
      ∙ sym (answers_so y layout y' b q).reply

  same_counter : counter (layout_of layout) x' ≡ counter (layout_of layout) y'
  same_counter =
      (answers_so x layout x' b p).counted ∙ same_challenge (layout_of layout) x y s
      ∙ sym (answers_so y layout y' b q).counted

  same_stored : (a : ℕ) → stores_to (layout_of layout) a ≡ true → get_or x' a 0 ≡ get_or y' a 0
  same_stored a e =
      let l = layout_of layout in
      let r : Region = record { lo = reply_at l; hi = reply_at l + 31 } in
      cases (within r a)
      (λ h.
      let w = within_ends r a h in
      read_same x' y' (reply_at l) 32 same_replied a w.0 (omega (arith, w.1)))
      (λ h.
      let w = within_ends l.ctr a (simp h at e) in
      read_same x' y' l.ctr.lo (size l.ctr) same_counter a w.0 (omega (arith, w.0, w.1)))

pub frame : claim.Frame
frame layout x y x' y' r q b s p p' =
    let f = row_settled r (attest_check x layout) p.answered in
    let g = row_settled q (attest_check y layout) p'.answered in
    let e : r ≡ q = f ∙ same_check layout x y s ∙ sym g in (
      e,
      λ d.
          same_stored layout x y x' y' b s (subst (Attests x layout x') d p)
          (subst (Attests y layout y') (sym e ∙ d) p'),
    )

-- ---- the station

pub yes_exactly : claim.YesExactly
yes_exactly k c given region v p = (
  λ e.
      let y = said_yes (subst (ChecksReply k c given region) e p) in
      (y.0, y.1 ∙ reply_is k c region),
  λ h. says_yes v p h.0 (h.1 ∙ sym (reply_is k c region)),
)

pub no_exactly : claim.NoExactly
no_exactly k c given region v p = (
  λ e.
      let n = said_no (subst (ChecksReply k c given region) e p) in
      (n.0, λ h. n.1 (h ∙ sym (reply_is k c region))),
  λ h. says_no v p h.0 (λ e. h.1 (e ∙ reply_is k c region)),
)

pub refuses_exactly : claim.RefusesExactly
refuses_exactly k c given region v p =
    let u = check_unfit k c given region in (
      λ e n.
          clash u (said_refused _ (subst (ChecksReply k c given region) e p)) (lengths_fit k c given region n),
      λ f. cases u (λ t. says_refused v p t) (λ t. absurd (f (fit_lengths k c given region t))),
    )

pub yes_twice : claim.YesTwice
yes_twice k c d given x y p q = sym (said_yes p).1 ∙ (said_yes q).1

-- ---- board and station agree

is_yes : (k c given region : List ℕ) → Lengths k c given region → given ≡ reply k c region
    → ChecksReply k c given region (Ok true)
is_yes k c given region f e =
    record { answered = simp (lengths_fit k c given region f, equal_same given (reply k c region) e) }

module _ (memory layout memory' : List ℕ) (b : Bytes layout) (p : Attests memory layout memory' (Ok tt)) where
  abbrev l : Layout
  l = layout_of layout

  call : Accepts memory layout memory'
  call = accepts memory layout memory' b p

  replied_is : replied l memory' ≡ reply (key l memory) (challenge l memory) (attested l memory)
  replied_is = call.served.reply ∙ sym (reply_is _ _ _)

  fit : (expected : List ℕ) → 1 ≤ length expected → length expected ≤ 65536
      → Lengths (key l memory) (challenge l memory) (replied l memory') expected
  fit expected some most =
      let n = call.allowed.long in
      record {
        key = board.length_key l call.lies memory n;
        challenge = board.length_challenge l call.lies memory n;
        reply = ap length replied_is ∙ length_reply _ _ _;
        some = some;
        most = most;
      }

  pub agrees : Agrees (key l memory) (challenge l memory) (attested l memory) (replied l memory')
  agrees =
      let w = call.lies in
      let n = board.length_attested l w memory call.allowed.long in
      record {
        same =
            is_yes _ _ _ _ (fit (attested l memory) (omega (arith, n, w.region)) (omega (arith, n, w.region_in)))
            replied_is;
        other = λ expected some most. (
          λ q. sym (said_yes q).1 ∙ replied_is,
          λ e. is_yes _ _ _ _ (fit expected some most) (replied_is ∙ sym e),
        );
      }

pub board_and_station : claim.BoardAndStation
board_and_station memory layout memory' made r b long good fresh makes =
    let l = layout_of layout in
    let w = placed layout b (good_done layout good) in
    let k = board.length_key l w memory long in
    let c = board.length_challenge l w memory long in (
      token (key l memory) (challenge l memory),
      gives_bytes makes (token_fits (key l memory) (challenge l memory) k c),
      λ came p.
          let d : r ≡ Ok tt =
          (accepts_exactly memory layout memory' r p).1
          (long, good, record { fresh = fresh; genuine = came ∙ token_is _ _ }) in
          (d, agrees memory layout memory' b (subst (Attests memory layout memory') d p)),
    )

-- ---- a request in the mailbox

-- the same of equal strings
pub agrees_as : {k k' c c' r r' g : List ℕ} → k ≡ k' → c ≡ c' → r ≡ r' → Agrees k c r g → Agrees k' c' r' g
agrees_as e f h a = rw (← e, ← f, ← h) a

pub request_served : claim.RequestServed
request_served memory layout c memory' made r b long good lc fresh makes =
    let l = layout_of layout in
    let w = placed layout b (good_done layout good) in
    let t : List ℕ = token (key l memory) c in
    let m = posted l c t memory in (
      t,
      gives_bytes makes (token_fits (key l memory) c (board.length_key l w memory long) lc),
      λ p.
          let d =
          row_settled r (attest_check m layout) p.answered
          ∙ request_done layout b good memory c t long lc refl fresh in
          let q = subst (Attests m layout memory') d p in
          let is = request_is layout b good memory c t long lc refl in
          let k = request_key layout b good memory c t long lc refl in
          let a = request_attested layout b good memory c t long lc refl in (
            d,
            (answers_so m layout memory' b q).counted ∙ is,
            agrees_as k is a (agrees m layout memory' b q),
          ),
    )
