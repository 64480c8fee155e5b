-- `routine::equal` meets its contract. Assumes nothing.
use native.Mathlib.Omega.{arith}
use mathlib.Core.Logic.{inl, inr}
use Rattle.routine.proofs.Strings.{same_length, same_more, same_whole}
use Rattle.routine.proofs.equal.Goals as goal

pub returns-then-a-b : goal.returns-then-a-b
returns-then-a-b c = same_length _ _ c.if-a-b.true

pub loop-x-preserved : goal.loop-x-preserved
loop-x-preserved c =
    let s = c.in-Some.ensures.steps in
    same_more _ _ c.loop-x.differing c.in-Some.x.now c.in-Some.y.now s.0 s.1 c.loop-x.invariant

pub returns : goal.returns
returns c =
    let l = c.loop-x in
    let a = l.x-iterator.a.rest.now in
    same_whole a l.x-iterator.b.rest.now l.differing (elim (c.in-None.ensures.steps) [ inl h ↦ h.1.0 | inr h ↦ omega (arith, l.invariant.0, h.1.0) ]) l.invariant
