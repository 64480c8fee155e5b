-- `sha256::Sha::absorb_within` meets its contract. Assumes nothing.
use native.Mathlib.Omega.{arith}
use Rattle.sha256.proofs.Running.{taken_within}
use borrow.Author.Rules.{rules}
use Rattle.sha256.proofs.Sha.absorb_within.Goals as goal

pub returns : goal.returns
returns c =
    let z = c.args in
    taken_within z.self (search rules) z.x.now c.part-self.result (omega arith) c.part-self.ensures
