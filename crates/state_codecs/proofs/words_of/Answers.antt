-- `state_codecs::words_of` meets its contract. Assumes nothing.
use Rattle.std.proofs.Common.{rules}
use Rattle.state_codecs.proofs.States.{words_made}
use Rattle.state_codecs.proofs.words_of.Goals as goal

pub returns : goal.returns
returns c =
    let made = c.from_fn.ensures.items in
    words_made _ _ c.args.bytes.now (λ i y q d. search rules) c.from_fn.result 0 8 made.long made.each
