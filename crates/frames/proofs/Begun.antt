-- The first bytes of arguments that are sent. Assumes nothing.
use mathlib.Core.Path.{◌≡◌, ap, ◌∙◌}
use mathlib.Core.Bool.{true, false, not, ◌||◌}
use mathlib.Core.List.{List, ◌++◌}
use Prim.Native.Nat.{ℕ, suc, ◌+◌, ◌-◌, ◌≤◌, ◌<◌}
use native.Mathlib.Omega.{arith}
use lib.Dec.{ltb}
use lib.ListN.{length, take}
use lib.Seq.{length-take-le, take-take, take-append-add}
use Rattle.octets.specs.Numbers.{number, little}
use Rattle.frames.specs.declared.Framed.{Framed}
use Rattle.frames.specs.declared.Framed.TheVariants.{Needs}
use Rattle.frames.specs.Calls.{most_argument_bytes, allowed}
use Rattle.frames.specs.Frames.{size, behind, framed_one, if_whole, framed_from}
use Rattle.frames.proofs.Walk.{one_if, one_short, one_part, from_suc}
use Rattle.frames.proofs.Sent.{length_front, length_sent, length_first, size_back, passes, walk_sent}

-- more bytes are asked for, and none that are not theirs
pub record Begun (n i k used : ℕ) (whole : List ℕ) (j : ℕ) : Type 0 where
  pub more : ℕ
  pub asked_for : framed_from n i k used (take j whole) ≡ Needs more
  pub some : 0 < more
  pub its_own : j + more ≤ length whole

-- an argument a and the bytes s behind it: the first j of them end in the length, in the argument, or behind it
module _ (n i k used : ℕ) (a s : List ℕ) (j : ℕ)
    (h : allowed n i (length a) ≡ true) (f : used + length a ≤ most_argument_bytes)
    (l : j < length (little 4 (length a) ++ a ++ s)) where
  abbrev d : List ℕ
  d = little 4 (length a) ++ a ++ s

  length_part : length (take j d) ≡ j
  length_part = length-take-le j d (omega arith)

  stops : (m : ℕ) → framed_one n i used (take j d) ≡ Needs m → framed_from n i (suc k) used (take j d) ≡ Needs m
  stops m e =
      from_suc n i k used (take j d)
      ∙ ap (λ (g : Framed). if_whole g (framed_from n (suc i) k (used + size (take j d)) (behind (take j d)))) e

  pub begun_length : j < 4 → Begun n i (suc k) used d j
  begun_length q =
      record {
        more = 4 - j;
        asked_for = stops (4 - j)
            (one_if n i used (take j d) ∙ one_short _ used (take j d) (omega (arith, length_part)) ∙ ap (λ (m : ℕ). Needs (4 - m)) length_part);
        some = omega arith;
        its_own = omega (arith, length_sent a s);
      }

  pub begun_argument : 4 ≤ j → j < 4 + length a → Begun n i (suc k) used d j
  begun_argument q r =
      let z : size (take j d) ≡ length a
      = ap number (take-take 4 j d q ∙ length_first a s) ∙ size_back a s (omega arith) in
      let t : (not (allowed n i (size (take j d))) || ltb most_argument_bytes (used + size (take j d))) ≡ false
      = ap (λ (m : ℕ). not (allowed n i m) || ltb most_argument_bytes (used + m)) z ∙ passes n i used (length a) h f in
      record {
        more = 4 + length a - j;
        asked_for = stops (4 + length a - j)
            (one_if n i used (take j d) ∙ one_part _ used (take j d) (omega (arith, length_part)) t (omega (arith, length_part, z))
            ∙ ap (λ (m : ℕ). Needs (4 + m - length (take j d))) z
            ∙ ap (λ (m : ℕ). Needs (4 + length a - m)) length_part);
        some = omega arith;
        its_own = omega (arith, length_sent a s);
      }

  pub begun_behind : 4 + length a ≤ j → Begun n (suc i) k (used + length a) s (j - (4 + length a))
      → Begun n i (suc k) used d j
  begun_behind q r =
      let e : j ≡ length (little 4 (length a) ++ a) + (j - (4 + length a)) = omega (arith, length_front a s) in
      record {
        more = r.more;
        asked_for = ap (framed_from n i (suc k) used)
            (ap (λ (m : ℕ). take m d) e ∙ take-append-add (little 4 (length a) ++ a) s (j - (4 + length a)))
            ∙ walk_sent n i used k a (take (j - (4 + length a)) s) h f
            ∙ r.asked_for;
        some = r.some;
        its_own = omega (arith, r.its_own, length_sent a s);
      }
