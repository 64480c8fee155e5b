-- `state_codecs::state_of` meets its contract. Assumes nothing.
use Rattle.state_codecs.specs.States.{state_of}
use Rattle.state_codecs.proofs.state_of.Goals as goal

pub returns : goal.returns
unfolding state_of
returns c = cc (c.words_of-words.ensures, c.block_behind_words-block.ensures, c.number_at-total.ensures.value)
