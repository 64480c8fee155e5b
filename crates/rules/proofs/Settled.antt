-- The promise settles its result: two causes that meet it are equal. Assumes nothing.
use Rattle.std.specs.Prelude.{◌≡◌, ℕ}
use Rattle.notions.proofs.Settled.{equation_settled}
use Rattle.layout.specs.declared.Layout.{Layout}
use Rattle.steps.specs.declared.Step.{Step}
use Rattle.rules.specs.declared.Monitor.{Monitor}
use Rattle.rules.specs.Promises.{GivesCause}

pub gives_cause_settled : (l : Layout) (m : Monitor) (s : Step) (r q : ℕ) → GivesCause l m s r → GivesCause l m s q
    → r ≡ q
gives_cause_settled l m s = equation_settled
