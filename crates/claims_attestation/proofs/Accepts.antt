-- An accepted call of `attest`: what it has checked, and what it leaves. Assumes nothing.
use mathlib.Core.Path.{◌≡◌, refl, sym, subst, ◌∙◌}
use mathlib.Core.Logic.{◌⊎◌, inl, inr}
use mathlib.Core.Bool.{false}
use mathlib.Core.List.{List}
use Prim.Native.Nat.{ℕ, ◌+◌, ◌≤◌, ◌<◌}
use native.Mathlib.Omega.{arith}
use lib.ListN.{get_or}
use Rattle.notions.specs.Bytes.{Bytes}
use Rattle.notions.proofs.Tests.{untrue}
use Rattle.layout.specs.declared.Region.{Region}
use Rattle.layout.specs.declared.Layout.{Layout}
use Rattle.layout.specs.Regions.{within}
use Rattle.layout.specs.Layouts.{KR, MR, CTR, region, layout_of}
use Rattle.layout.specs.Good.{Good}
use Rattle.layout.proofs.Laws.{done_good, within_ends, ends_within, outside_ends, elsewhere}
use Rattle.layout.proofs.Placed.{Placed, placed}
use Rattle.routine.proofs.Laws.{reply_is}
use Rattle.board.specs.Memory.{key, challenge, received, reply_at}
use Rattle.board.specs.Attestation.{accepted}
use Rattle.board.specs.Promises.{Attests}
use Rattle.board.proofs.Laws as board
use Rattle.board.proofs.Laws.{Allowed, attested_done, due_is, region_agrees}
use Rattle.board.proofs.Stores.{bytes_agree}
use Rattle.claims_attestation.specs.Demand2.{Served}
use Rattle.std.specs.Prelude.{Ok}

pub record Accepts (memory layout memory' : List ℕ) : Type 0 where
  pub allowed : Allowed memory layout
  pub good : Good layout
  pub lies : Placed (layout_of layout)
  pub left : memory' ≡ accepted (layout_of layout) memory
  pub served : Served (layout_of layout) memory memory'

pub accepts : (memory layout memory' : List ℕ) → Bytes layout → Attests memory layout memory' (Ok tt)
    → Accepts memory layout memory'
accepts memory layout memory' b p =
    let l = layout_of layout in
    let d = attested_done memory layout memory' p in
    let a = d.0 in
    let w = placed layout b a.laid in
    record {
      allowed = a;
      good = done_good layout a.laid;
      lies = w;
      left = d.1;
      served = subst (Served l memory) (sym d.1) (record {
        reply = board.accepted_reply l w memory a.long ∙ due_is l memory ∙ reply_is _ _ _;
        counted = board.accepted_counter l w memory a.long;
        kept = board.accepted_else l w memory a.long;
        long = board.length_accepted l w memory a.long;
      });
    }

-- ---- what it leaves as it was

module _ (memory layout memory' : List ℕ) (b : Bytes layout) (p : Attests memory layout memory' (Ok tt)) where
  abbrev l : Layout
  l = layout_of layout

  call : Accepts memory layout memory'
  call = accepts memory layout memory' b p

  -- an address in neither the reply nor CTR
  apart_kept : (a : ℕ) → (a < reply_at l) ⊎ (reply_at l + 31 < a) → within l.ctr a ≡ false
      → get_or memory' a 0 ≡ get_or memory a 0
  apart_kept a o e =
      let r : Region = record { lo = reply_at l; hi = reply_at l + 31 } in
      let f : within r a ≡ false =
      untrue (within r a)
      (λ w.
      let q = within_ends r a w in
      elim o [ inl h ↦ omega (arith, q.0) | inr h ↦ omega (arith, q.1) ]) in
      call.served.kept a (simp (e, f))

  -- every byte outside MR and CTR
  pub accepted_else : (a : ℕ) → within l.mr a ≡ false → within l.ctr a ≡ false
      → get_or memory' a 0 ≡ get_or memory a 0
  accepted_else a u v =
      let m = call.lies.mail in
      apart_kept a (elim (outside_ends l.mr a u) [ inl h ↦ inl (omega arith) | inr h ↦ inr (omega arith) ]) v

  -- so the key
  pub accepted_key : key l memory' ≡ key l memory
  unfolding layout_of
  accepted_key =
      region_agrees (region layout KR) memory' memory call.served.long
      (λ a w.
      accepted_else a (elsewhere call.good KR MR (omega arith) (omega arith) (λ q. omega arith) refl refl a w)
      (elsewhere call.good KR CTR (omega arith) (omega arith) (λ q. omega arith) refl refl a w))

  -- what stands before the reply in the mailbox
  mail_kept : (a : ℕ) → l.mr.lo ≤ a → a < reply_at l → get_or memory' a 0 ≡ get_or memory a 0
  unfolding layout_of
  mail_kept a h k =
      let m = call.lies.mail in
      apart_kept a (inl k)
      (elsewhere call.good MR CTR (omega arith) (omega arith) (λ q. omega arith) refl refl a
      (ends_within l.mr a h (omega arith)))

  -- so the request stays in the mailbox
  pub accepted_challenge : challenge l memory' ≡ challenge l memory
  accepted_challenge =
      bytes_agree memory' memory l.mr.lo 32 call.served.long
      (λ i h. mail_kept (l.mr.lo + i) (omega arith) (omega arith))

  pub accepted_received : received l memory' ≡ received l memory
  accepted_received =
      bytes_agree memory' memory (l.mr.lo + 32) 32 call.served.long
      (λ i h. mail_kept (l.mr.lo + 32 + i) (omega arith) (omega arith))
