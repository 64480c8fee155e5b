-- `sha256_digest::digest_of` meets its contract. Assumes nothing.
use Rattle.std.proofs.Common.{rules}
use Rattle.sha256_digest.proofs.Laws.{hashed}
use Rattle.sha256_digest.proofs.digest_of.Goals as goal

pub returns : goal.returns
returns c = search (rules, hashed)
