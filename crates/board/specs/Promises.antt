-- What `attest` promises, for all inputs. Assumes nothing.
use Rattle.std.specs.Prelude.{◌≡◌, List, ℕ}
use Rattle.refusal.specs.Answers.{Answer, row, after_call}
use Rattle.layout.specs.Layouts.{layout_of}
use Rattle.board.specs.Attestation.{attest_check, accepted}

-- `attest`: memory is lent, and memory' is what stands there afterwards
pub record Attests (memory layout memory' : List ℕ) (r : Answer) : Type 0 where
  pub answered : row r ≡ row (attest_check memory layout)
  pub memory_left : memory' ≡ after_call (attest_check memory layout) (accepted (layout_of layout) memory) memory
