-- `sha256_digest::out` meets its contract. Assumes nothing.
use Rattle.std.proofs.Common.{◌≡◌, ◌*◌, length, take}
use Rattle.sha256_digest.specs.Hash.{out}
use Rattle.sha256_digest.proofs.out.Given as goal

abbrev pub invariant-loop-i : goal.invariant-loop-i
invariant-loop-i l = (length l.d ≡ 32) × (take (l.i * 4) l.d ≡ out l.fn.words l.i)
