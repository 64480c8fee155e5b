-- `frames::framed_all` meets its contract. Assumes nothing.
use Rattle.std.proofs.Common.{rules, arith}
use Rattle.frames.proofs.Walk.{walked_all, walked_few, walked_stop, walked_more}
use Rattle.frames.proofs.framed_all.Goals as goal

pub returns-then-ne : goal.returns-then-ne
returns-then-ne c =
    walked_stop _ _ _ _ _ _ c.loop-wanted.invariant c.loop-wanted-test.true c.framed_one-one.ensures
    (search rules)

pub overflow_add-used : goal.overflow_add-used
overflow_add-used c =
    omega (
      arith,
      walked_few _ _ _ _ _ _ c.loop-wanted.invariant c.loop-wanted-test.true c.framed_one-one.ensures _
          (search rules) c.size_at-used.ensures,
    )

pub loop-wanted-preserved : goal.loop-wanted-preserved
loop-wanted-preserved c =
    walked_more _ _ _ _ _ _ c.loop-wanted.invariant c.loop-wanted-test.true c.framed_one-one.ensures _ _
    (search rules)
    c.size_at-used.ensures c.behind-at.ensures.0 c.behind-at.ensures.1

pub returns : goal.returns
returns c = walked_all _ _ _ _ _ c.loop-wanted.invariant c.loop-wanted-test.false
