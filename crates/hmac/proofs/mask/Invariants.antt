-- `hmac::mask` meets its contract. Assumes nothing.
use mathlib.Core.Path.{◌≡◌}
use mathlib.Core.List.{◌++◌}
use lib.ListN.{length, take, drop}
use Rattle.hmac.specs.Hmac.{xored}
use Rattle.hmac.proofs.mask.Given as goal

-- the first i bytes are masked, and those behind them are the block's
abbrev pub invariant-loop-i : goal.invariant-loop-i
invariant-loop-i l =
    (length l.block ≡ 64) × (length l.initial.block ≡ 64)
    × (l.block ≡ xored l.x (take l.i l.initial.block) ++ drop l.i l.initial.block)
