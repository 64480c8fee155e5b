-- `effects::act` meets its contract. Assumes nothing.
use borrow.Author.Tests.{eq-eqb, ne_eqb}
use Rattle.effects.specs.Effects.{answer, written}
use Rattle.effects.proofs.act.Goals as goal

pub returns-then-cause-eq0 : goal.returns-then-cause-eq0
unfolding answer written
returns-then-cause-eq0 c =
    let e = eq-eqb _ _ c.if-cause-eq0.true in
    record { answered = simp e c.perform.ensures.0; memory_left = simp e c.perform.ensures.1 }

pub returns : goal.returns
unfolding answer written
returns c =
    let e = ne_eqb _ _ c.if-cause-eq0.false in
    record { answered = simp e; memory_left = simp e }
