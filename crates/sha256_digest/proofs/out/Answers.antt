-- `sha256_digest::out` meets its contract. Assumes nothing.
use Rattle.std.proofs.Common.{◌≡◌, ◌*◌, refl, arith}
use Rattle.std.proofs.lemmas.List.{take_all}
use Rattle.sha256_digest.specs.Hash.{out}
use Rattle.sha256_digest.proofs.Output.{out_more}
use Rattle.sha256_digest.proofs.out.Goals as goal

pub loop-i-init : goal.loop-i-init
unfolding out
loop-i-init c = (refl, refl)

pub loop-i-preserved : goal.loop-i-preserved
loop-i-preserved c =
    out_more _ _ _ _ _ (omega arith) c.loop-i.invariant.0 c.loop-i.invariant.1 c.copy_from_slice.ensures.after c.to_be_bytes.ensures

pub returns : goal.returns
returns c =
    let e : c.loop-i.i ≡ 8 = omega arith in
    cc (take_all (c.loop-i.i * 4) c.loop-i.d (omega arith))
