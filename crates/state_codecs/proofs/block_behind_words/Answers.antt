-- `state_codecs::block_behind_words` meets its contract. Assumes nothing.
use mathlib.Core.Path.{refl, ap, ◌∙◌}
use Rattle.octets.proofs.Reading.{bytes_from}
use Rattle.sha256.specs.Running.{block_of}
use Rattle.state_codecs.proofs.block_behind_words.Goals as goal

pub returns : goal.returns
returns c =
    let b = c.args.bytes.now in
    let behind = ap (λ x. x.now) c.unwrap_or.ensures ∙ bytes_from b 32 _ _ c.get.ensures.lookup refl in
    c.block_of.ensures ∙ ap block_of behind
