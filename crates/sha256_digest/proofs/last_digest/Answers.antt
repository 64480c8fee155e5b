-- `sha256_digest::last_digest` meets its contract. Assumes nothing.
use Rattle.std.proofs.Common.{◌∙◌}
use Rattle.sha256_digest.proofs.Padding.{written}
use Rattle.sha256_digest.proofs.last_digest.Goals as goal

pub returns : goal.returns
returns c =
    let e = written c.args.left.now _ _ c.args.total _ c.requires.0 c.padded_size-n.ensures
    c.copy_from_slice.ensures.after (c.copy_from_slice-2.ensures.after ∙ c.to_be_bytes.ensures) in
    cc
