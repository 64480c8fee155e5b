-- `state_codecs::state_bytes` meets its contract. Assumes nothing.
use borrow.Author.Rules.{rules}
use mathlib.Core.Path.{refl, ap, ◌∙◌}
use mathlib.Core.List.{List}
use Prim.Native.Nat.{ℕ}
use lib.Seq.{sets}
use Rattle.state_codecs.proofs.Writing.{eight_bytes, state_laid}
use Rattle.state_codecs.proofs.state_bytes.Goals as goal

pub returns : goal.returns
returns c =
    let s = c.args.s in
    let e = c.store-2.ensures ∙ ap (λ (b : List ℕ). sets c.store.new.room 96 b) (c.to_le_bytes.ensures ∙ eight_bytes s.total) in
    state_laid s _ _ _ _ (search rules) (search rules) refl c.put_words.ensures c.store.ensures e
