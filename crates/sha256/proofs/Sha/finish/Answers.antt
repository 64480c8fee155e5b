-- `sha256::Sha::finish` meets its contract. Assumes nothing.
use borrow.Author.Tests.{le-ltb}
use Rattle.sha256.proofs.Answers.{gives_given}
use Rattle.sha256.proofs.Laws.{digested}
use Rattle.sha256.proofs.Sha.finish.Goals as goal

pub returns : goal.returns
returns c =
    let small = c.if-self-gt-LIMIT.false in
    gives_given (le-ltb _ _ small) (digested c.args.self c.digest_from.ensures small)
