-- `hex_text::write` meets its contract. Assumes nothing.
use mathlib.Core.Path.{◌≡◌}
use Prim.Native.Nat.{◌*◌}
use lib.ListN.{drop}
use lib.Seq.{sets}
use Rattle.hex_text.specs.Digits.{hex_text}
use Rattle.hex_text.proofs.write.Given as goal

abbrev pub invariant-loop-i : goal.invariant-loop-i
invariant-loop-i l = sets l.out (2 * l.i) (hex_text (drop l.i l.bytes)) ≡ sets l.initial.out 0 (hex_text l.bytes)
