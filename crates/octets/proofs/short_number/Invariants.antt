-- `octets::short_number` meets its contract. Assumes nothing.
use Rattle.octets.proofs.Reading.{ReadBehind}
use Rattle.octets.proofs.short_number.Given as goal

abbrev pub invariant-loop-b : goal.invariant-loop-b
invariant-loop-b l = ReadBehind l.bytes l.b-iterator.iter.rest.now l.n
