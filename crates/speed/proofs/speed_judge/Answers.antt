-- `speed::speed_judge` meets its contract. Assumes nothing.
use Rattle.speed.proofs.Numbers.{judge_number}
use Rattle.speed.proofs.speed_judge.Goals as goal

pub returns : goal.returns
returns c = judge_number _ _ _ _ _ _ _ c.judge.ensures c.number.ensures
