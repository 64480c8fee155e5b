-- `calls::line::hex` meets its contract. Assumes nothing.
use Rattle.hex_text.proofs.Laws.{hex_within}
use Rattle.calls.proofs.line.hex.Goals as goal

pub returns : goal.returns
returns c = hex_within c.write.ensures
