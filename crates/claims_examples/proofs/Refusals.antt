-- Each refusal number has its call, computed. Assumes nothing.
use mathlib.Core.Path.{◌≡◌, refl}
use mathlib.Core.List.{List, []}
use Prim.Native.Nat.{ℕ}
use lib.ListN.{length, length-replicate}
use Rattle.notions.specs.First.{first}
use Rattle.refusal.specs.Answers.{refused_at}
use Rattle.refusal.specs.declared.Reason.{Reason}
use Rattle.refusal.specs.declared.Reason.TheVariants.{TraceSize, RoomSize, StepNotZero}
use Rattle.refusal.specs.declared.Reason.TheVariants.{ChallengeNotGreater, TokenDiffers}
use Rattle.refusal.specs.declared.Reason.TheVariants.{Segment}
use Rattle.sha256_block.specs.Words.{add, word, words, bytes}
use Rattle.sha256_block.specs.Constants.{K, H}
use Rattle.sha256_block.specs.Block.{next, schedule, round, rounds, add_to, compress, blocks}
use Rattle.sha256_digest.specs.Hash.{padding, out, sha256}
use Rattle.hmac.specs.Hmac.{k0, xored, hmac}
use Rattle.octets.specs.Numbers.{number}
use Rattle.layout.specs.Layouts.{layout_of, layout_check}
use Rattle.traces.specs.Traces.{trace_check}
use Rattle.monitor.specs.Promises.{Traces}
use Rattle.routine.specs.Strings.{greater, same}
use Rattle.routine.specs.Routine.{token, request_check}
use Rattle.board.specs.Attestation.{request_check_in, attest_check}
use Rattle.board.specs.Promises.{Attests}
use Rattle.file_contents.specs.Contents.{begins, entry_fails, first_failing, file_check, body}
use Rattle.file_segments.specs.Segments.{place, reached, segments, segment_fails, first_wrong, segment_check}
use Rattle.runfile.specs.Promises.{bodies_check, judge_check}
use Rattle.claims_monitor.specs.Marked.{page_bytes}
use Rattle.claims_monitor.specs.Witness as small
use Rattle.claims_monitor.proofs.Marked.{page_layout}
use Rattle.claims_monitor.proofs.Witness.{length_board, layout_good}
use Rattle.claims_examples.specs.Refusals as claim
use Rattle.std.specs.Prelude.{Err, Ok}

length_zero_memory : length claim.zero_memory ≡ 65536
unfolding claim.zero_memory
length_zero_memory = length-replicate {A = ℕ} 65536 0

-- a trace on a memory of zeros with the page's layout
traced_so : (trace room : List ℕ) (n : Reason) (p : ℕ) → trace_check trace (length room) ≡ refused_at n p
    → Traces claim.zero_memory page_bytes trace room claim.zero_memory room
    (Err (record { reason = n; place = p }))
traced_so trace room n p e =
    record {
      answered = simp (length_zero_memory, page_layout.passes, e);
      memory_left = simp (length_zero_memory, page_layout.passes, e);
      room_left = simp (length_zero_memory, page_layout.passes, e);
    }

odd_trace : trace_check (claim.zero_bytes 13) 0 ≡ refused_at TraceSize 0
unfolding trace_check
odd_trace = refl

no_room : trace_check (claim.zero_bytes 12) 3 ≡ refused_at RoomSize 0
unfolding trace_check
no_room = refl

unclean_trace_lem : trace_check claim.unclean_trace 8 ≡ refused_at StepNotZero 1
unfolding trace_check first
unclean_trace_lem = refl

-- a request on a small board
module _ (mailbox : ℕ) (n : Reason) where
  request : Type 0
  request = request_check_in (layout_of small.layout) (small.board 0 0 0 mailbox) ≡ refused_at n 0

  attested_so : request
      → Attests (small.board 0 0 0 mailbox) small.layout (small.board 0 0 0 mailbox)
      (Err (record { reason = n; place = 0 }))
  unfolding attest_check request
  attested_so e =
      record {
        answered = simp (length_board 0 0 0 mailbox, layout_good, e);
        memory_left = simp (length_board 0 0 0 mailbox, layout_good, e);
      }

old_request : request 0 ChallengeNotGreater
unfolding request request_check greater layout_of small.others
old_request = refl

forged_request : request 1 TokenDiffers
unfolding request request_check greater same token layout_of small.others add word words bytes K H next schedule round
    rounds add_to compress blocks padding out sha256 k0 xored hmac
forged_request = refl

-- files
overlapping_told : file_check claim.overlapping ≡ Ok tt
unfolding file_check first_failing first entry_fails begins number
overlapping_told = refl

overlapping_bodies : bodies_check (body claim.overlapping 0) (body claim.overlapping 1)
    (body claim.overlapping 2) claim.zero_memory [] ≡ refused_at Segment 1
unfolding bodies_check body begins number segment_check first_wrong segments segment_fails place reached first
overlapping_bodies = simp (length_zero_memory, page_layout.passes)

pub each_refusal : claim.EachRefusal
unfolding layout_check first file_check first_failing judge_check
each_refusal = record {
  numbers = refl;
  memory_size = record { answered = refl; memory_left = refl; room_left = refl };
  layout_size = record { answered = refl };
  region_reversed = record { answered = refl };
  region_size = record { answered = refl };
  zero_in_code = record { answered = refl };
  regions_share = record { answered = refl };
  trace_size = traced_so (claim.zero_bytes 13) [] TraceSize 0 odd_trace;
  room_size = traced_so (claim.zero_bytes 12) (claim.zero_bytes 3) RoomSize 0 no_room;
  step_not_zero = traced_so claim.unclean_trace (claim.zero_bytes 8) StepNotZero 1 unclean_trace_lem;
  challenge_not_greater = attested_so 0 ChallengeNotGreater old_request;
  token_differs = attested_so 1 TokenDiffers forged_request;
  length_or_total = refl;
  contents = record { answered = refl; memory_left = refl; room_left = refl };
  segment = record {
    answered = simp (overlapping_told, overlapping_bodies);
    memory_left = simp (overlapping_told, overlapping_bodies);
    room_left = simp (overlapping_told, overlapping_bodies);
  };
  file_size = record { answered = refl; memory_left = refl; room_left = refl };
}
