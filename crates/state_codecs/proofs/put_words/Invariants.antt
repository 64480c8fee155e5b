-- `state_codecs::put_words` meets its contract. Assumes nothing.
use mathlib.Core.Path.{◌≡◌}
use Prim.Native.Nat.{◌*◌}
use lib.ListN.{drop}
use lib.Seq.{sets}
use Rattle.state_codecs.specs.States.{words_bytes}
use Rattle.state_codecs.proofs.put_words.Given as goal

abbrev pub invariant-loop-i : goal.invariant-loop-i
invariant-loop-i l = sets l.out (4 * l.i) (words_bytes (drop l.i l.word-items)) ≡ sets l.initial.out 0 (words_bytes l.word-items)
