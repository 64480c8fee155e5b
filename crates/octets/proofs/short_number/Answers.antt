-- `octets::short_number` meets its contract. Assumes nothing.
use Rattle.std.proofs.Common.{rules, arith}
use Rattle.octets.proofs.Reading.{read_none, fits_more, read_more}
use Rattle.octets.proofs.short_number.Goals as goal

pub loop-b-init : goal.loop-b-init
loop-b-init c =
    rw (c.into_iter-b-iterator.ensures.into_iter_gives, c.rev-b-items.ensures.source, c.iter.ensures.rest) (read_none _)

pub overflow_mul-n : goal.overflow_mul-n
overflow_mul-n c =
    let l = c.loop-b in
    omega (arith, fits_more _ _ _ l.n _ l.invariant (λ i. search rules) c.requires c.in-Some.ensures.steps)

pub overflow_add-n : goal.overflow_add-n
overflow_add-n c =
    let l = c.loop-b in
    omega (arith, fits_more _ _ _ l.n _ l.invariant (λ i. search rules) c.requires c.in-Some.ensures.steps)

pub loop-b-preserved : goal.loop-b-preserved
loop-b-preserved c =
    let l = c.loop-b in
    rw c.from.ensures (read_more _ _ _ l.n _ l.invariant (λ i. search rules) c.in-Some.ensures.steps)
