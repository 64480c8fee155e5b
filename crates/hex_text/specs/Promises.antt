-- What the function promises, for all inputs. Assumes nothing.
use Rattle.std.specs.Prelude.{◌≡◌, List, ◌++◌, ℕ, length, take, drop}
use Rattle.hex_text.specs.Digits.{hex_text}

-- `write`: the digits, as many as fit; what stands behind them stays
pub record WritesHex (b out out' : List ℕ) (r : ℕ) : Type 0 where
  pub answered : r ≡ length (take (length out) (hex_text b))
  pub out_left : out' ≡ take (length out) (hex_text b) ++ drop (length (hex_text b)) out
