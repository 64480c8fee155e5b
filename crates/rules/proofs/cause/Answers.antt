-- `rules::cause` meets its contract. Assumes nothing.
use mathlib.Core.Path.{sym, ◌∙◌}
use borrow.Author.Tests.{not-true}
use Rattle.rules.specs.Rules.{cause}
use Rattle.rules.proofs.None.{apart_lowest, visit_lowest}
use Rattle.rules.proofs.cause.Goals as goal

pub returns-then-m-s : goal.returns-then-m-s
unfolding cause
returns-then-m-s c = simp c.if-m-s.true

pub returns-then-apart : goal.returns-then-apart
unfolding cause
returns-then-apart c =
    let h = c.args in
    simp c.if-m-s.false
    (sym (apart_lowest h.l h.m h.s (not-true _ (sym c.apart.ensures ∙ c.if-apart.true))))

pub returns-then-visits : goal.returns-then-visits
unfolding cause
returns-then-visits c =
    let h = c.args in
    simp c.if-m-s.false
    (sym (visit_lowest h.l h.m h.s (sym c.visits.ensures ∙ c.if-visits.true)))

pub returns : goal.returns
unfolding cause
returns c = simp (c.lowest.ensures, c.breaks.ensures, c.if-m-s.false)
