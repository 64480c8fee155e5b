-- `hex_text::write` meets its contract. Assumes nothing.
use native.Mathlib.Omega.{arith}
use Rattle.hex_text.proofs.Writing.{hex_more, hex_whole}
use Rattle.hex_text.proofs.write.Goals as goal

pub loop-i-preserved : goal.loop-i-preserved
loop-i-preserved c =
    let l = c.loop-i in
    hex_more l.out _ _ _ l.i (omega arith) l.invariant c.put_digits.ensures

pub returns : goal.returns
returns c = let l = c.loop-i in hex_whole _ _ l.out l.i _ (omega arith) l.invariant (omega arith)
