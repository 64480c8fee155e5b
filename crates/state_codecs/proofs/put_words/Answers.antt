-- `state_codecs::put_words` meets its contract. Assumes nothing.
use mathlib.Core.Path.{ap, ◌∙◌}
use mathlib.Core.List.{List}
use Prim.Native.Nat.{ℕ, ◌*◌}
use lib.Seq.{sets}
use native.Mathlib.Omega.{arith}
use Rattle.state_codecs.proofs.Writing.{four_bytes, words_more, words_whole}
use Rattle.state_codecs.proofs.put_words.Goals as goal

pub loop-i-preserved : goal.loop-i-preserved
loop-i-preserved c =
    let l = c.loop-i in
    let e = c.store.ensures ∙ ap (λ (b : List ℕ). sets l.out (4 * l.i) b) (c.to_le_bytes.ensures ∙ four_bytes _) in
    words_more l.out _ _ _ l.i (omega arith) l.invariant e

pub returns : goal.returns
returns c = let l = c.loop-i in words_whole l.out _ _ _ l.i (omega arith) l.invariant
