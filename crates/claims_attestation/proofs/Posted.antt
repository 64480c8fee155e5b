-- A request put into the mailbox: it is read there, every other region is as before, and a token for a challenge above
-- CTR is accepted. Assumes nothing.
use mathlib.Core.Path.{◌≡◌, refl, sym, ap, ◌∙◌}
use mathlib.Core.Logic.{inl, inr}
use mathlib.Core.Bool.{true, false}
use mathlib.Core.List.{List}
use Prim.Native.Nat.{ℕ, ◌+◌, ◌<◌}
use native.Mathlib.Omega.{arith}
use lib.ListN.{length, get_or}
use lib.Seq.{sets, length-sets}
use Rattle.notions.specs.Bytes.{Bytes}
use Rattle.layout.specs.declared.Layout.{Layout}
use Rattle.layout.specs.Regions.{within}
use Rattle.layout.specs.Layouts.{CR, KR, MR, CTR, AR, regions, region, may_share, layout_of}
use Rattle.layout.specs.Calls.{memory_bytes}
use Rattle.layout.specs.Good.{Good}
use Rattle.layout.proofs.Laws.{good_done, outside_ends, elsewhere}
use Rattle.layout.proofs.Placed.{Placed, placed}
use Rattle.hmac.proofs.Laws.{length_hmac}
use Rattle.routine.specs.Strings.{greater}
use Rattle.routine.specs.Routine.{token}
use Rattle.routine.proofs.Laws.{token_is}
use Rattle.board.specs.Memory.{bytes_of, key, counter, attested, challenge, received}
use Rattle.board.specs.Attestation.{attest_check}
use Rattle.board.proofs.Stores.{stored_there, stored_off, stored_apart}
use Rattle.board.proofs.Laws.{region_agrees, allowed_done}
use Rattle.claims_attestation.specs.Demand2.{posted}
use Rattle.std.specs.Prelude.{Ok}

module _ (layout : List ℕ) (b : Bytes layout) (good : Good layout) (memory c t : List ℕ)
    (long : length memory ≡ memory_bytes)
    (lc : length c ≡ 32) (is : t ≡ token (key (layout_of layout) memory) c) where
  abbrev l : Layout
  l = layout_of layout

  -- the challenge alone, and then the token
  abbrev asked : List ℕ
  asked = sets memory l.mr.lo c

  abbrev request : List ℕ
  request = posted l c t memory

  lies : Placed l
  lies = placed layout b (good_done layout good)

  token_long : length t ≡ 32
  token_long = ap length (is ∙ token_is (key l memory) c) ∙ length_hmac (key l memory) c

  pub request_long : length request ≡ length memory
  request_long = length-sets asked (l.mr.lo + 32) t ∙ length-sets memory l.mr.lo c

  pub request_is : challenge l request ≡ c
  request_is =
      let n = token_long in
      stored_apart asked (l.mr.lo + 32) t l.mr.lo 32 (inl (omega arith))
      ∙ stored_there memory l.mr.lo 32 c lc (omega (arith, lies.mail_in))

  request_received : received l request ≡ t
  request_received =
      stored_there asked (l.mr.lo + 32) 32 t token_long
      (omega (arith, length-sets memory l.mr.lo c, lies.mail_in))

  -- a byte outside MR stays, and so does every other region
  pub request_else : (a : ℕ) → within l.mr a ≡ false → get_or request a 0 ≡ get_or memory a 0
  request_else a o =
      let m = token_long in
      let n = lies.mail in
      stored_off asked (l.mr.lo + 32) t a
      (elim (outside_ends l.mr a o) [ inl h ↦ inl (omega arith) | inr h ↦ inr (omega arith) ])
      ∙ stored_off memory l.mr.lo c a
      (elim (outside_ends l.mr a o) [ inl h ↦ inl (omega arith) | inr h ↦ inr (omega arith) ])

  request_region : (k : ℕ) → k < regions → (k ≡ MR → ⊥) → may_share k MR ≡ false → may_share MR k ≡ false
      → bytes_of (region layout k) request ≡ bytes_of (region layout k) memory
  unfolding layout_of
  request_region k h n u v =
      region_agrees (region layout k) request memory request_long
      (λ a w. request_else a (elsewhere good k MR h (omega arith) n u v a w))

  pub request_code : bytes_of l.cr request ≡ bytes_of l.cr memory
  unfolding layout_of
  request_code = request_region CR (omega arith) (λ e. omega arith) refl refl

  pub request_key : key l request ≡ key l memory
  unfolding layout_of
  request_key = request_region KR (omega arith) (λ e. omega arith) refl refl

  pub request_counter : counter l request ≡ counter l memory
  unfolding layout_of
  request_counter = request_region CTR (omega arith) (λ e. omega arith) refl refl

  pub request_attested : attested l request ≡ attested l memory
  unfolding layout_of
  request_attested = request_region AR (omega arith) (λ e. omega arith) refl refl

  pub request_done : greater c (counter l memory) ≡ true → attest_check request layout ≡ Ok tt
  request_done fresh =
      allowed_done request layout (record {
        long = request_long ∙ long;
        laid = good_done layout good;
        fresh = rw (request_is, request_counter) fresh;
        genuine = rw (request_is, request_key) (sym (request_received ∙ is));
      })
