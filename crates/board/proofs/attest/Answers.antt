-- `board::attest` meets its contract. Assumes nothing.
use borrow.Author.Rules.{rules}
use Rattle.board.proofs.Attests.{admitted_sized, attest_refused, attest_answered}
use Rattle.board.proofs.Attests.{genuine, answered_done, answered_refused}
use Rattle.std.proofs.Common.{Ok, Err, ◌≡◌}
use Rattle.board.proofs.attest.Goals as goal

pub returns-in_err-l : goal.returns-in_err-l
returns-in_err-l c = search (rules, attest_refused c.args.memory.now c.args.layout.now)

pub authorise-requires : goal.authorise-requires
authorise-requires c = (admitted_sized c.args.memory.now c.args.layout.now c.in_ok-l.l c.in_ok-l.ensures).1

pub returns-in_err-authorise : goal.returns-in_err-authorise
returns-in_err-authorise c =
    let m = c.args.memory.now in
    let l = c.in_ok-l.l in
    let e : c.in-Some.board.now ≡ m = search rules in
    let q = c.in_err-authorise.field-0.0 in
    let r : c.from_residual-in_err-authorise.result ≡ Err q = search rules in
    rw r (attest_answered m c.args.layout.now l _ (Err q) c.in_ok-l.ensures
    (answered_refused l m q (rw e at c.in_err-authorise.ensures) (search rules)))

pub accept-requires : goal.accept-requires
accept-requires c =
    let m = c.args.memory.now in (
      (admitted_sized m c.args.layout.now c.in_ok-l.l c.in_ok-l.ensures).1,
      genuine c.in_ok-l.l c.in-Some.board.now c.in_ok-authorise.ensures,
    )

pub returns : goal.returns
returns c =
    let m = c.args.memory.now in
    let l = c.in_ok-l.l in
    let e : c.in-Some.board.now ≡ m = search rules in
    attest_answered m c.args.layout.now l _ (Ok tt) c.in_ok-l.ensures
    (answered_done l m (rw e at c.in_ok-authorise.ensures) (search rules))
