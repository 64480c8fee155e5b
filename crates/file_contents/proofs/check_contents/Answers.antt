-- `file_contents::check_contents` meets its contract: each refusal is the first that the definition gives.
use Rattle.std.proofs.Common.{sym, ap, ◌∙◌}
use borrow.Author.Tests.{lt-ltb, le-ltb}
use Rattle.refusal.specs.Answers.{refusal_row}
use Rattle.notions.proofs.First.{found_some, found_nothing}
use Rattle.file_contents.specs.Contents.{file_check}
use Rattle.file_contents.proofs.Entries.{first_failing_is}
use Rattle.file_contents.proofs.check_contents.Goals as goal

pub returns-then-file-gt-LARGEST_FILE : goal.returns-then-file-gt-LARGEST_FILE
unfolding file_check
returns-then-file-gt-LARGEST_FILE c = ap refusal_row c.into.ensures ∙ simp (lt-ltb _ _ c.if-file-gt-LARGEST_FILE.true)

pub returns-in-Some : goal.returns-in-Some
unfolding file_check
returns-in-Some c =
    let f = found_some _ _ _ (sym c.first_failing.ensures ∙ c.in-Some.is) in
    ap refusal_row c.at.ensures
    ∙ simp (le-ltb _ _ c.if-file-gt-LARGEST_FILE.false, first_failing_is c.args.file.now, f.0, f.1)

pub returns : goal.returns
unfolding file_check
returns c =
    let f = found_nothing _ _ (sym c.first_failing.ensures ∙ c.in_default.is) in
    simp (le-ltb _ _ c.if-file-gt-LARGEST_FILE.false, first_failing_is c.args.file.now, f)
