-- `speed::speed_trace` meets its contract. Assumes nothing.
use Rattle.speed.proofs.Numbers.{trace_number}
use Rattle.speed.proofs.speed_trace.Goals as goal

pub returns : goal.returns
returns c = trace_number _ _ _ _ _ _ _ _ c.trace.ensures c.number.ensures
