-- `effects::peek` meets its contract. Assumes nothing.
use Rattle.effects.proofs.Bounds.{unread, read}
use Rattle.effects.proofs.peek.Goals as goal

pub returns-then-on-memory : goal.returns-then-on-memory
returns-then-on-memory c = unread c.args.on c.args.memory.now c.args.a c.if-on-memory.true

pub returns : goal.returns
returns c = read c.args.on c.args.memory.now c.args.a c.if-on-memory.false
