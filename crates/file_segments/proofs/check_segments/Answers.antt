-- `file_segments::check_segments` meets its contract. Assumes nothing.
use Rattle.std.proofs.Common.{arith, ap, sym, subst, ◌∙◌, ℕ, ◌+◌, length, rules}
use Rattle.std.specs.Iterator.Adapters.{enumerate_source}
use Rattle.refusal.specs.Answers.{row, refusal_row, refused_at}
use Rattle.refusal.specs.declared.Reason.TheVariants.{Segment}
use Rattle.file_segments.specs.Segments.{fails_at}
use Rattle.file_segments.proofs.Walk.{Checked, turn, check_none, check_more, check_found, check_all}
use Rattle.file_segments.proofs.check_segments.Goals as goal

pub loop-k-init : goal.loop-k-init
loop-k-init c =
    let s = c.into_iter-k-iterator.ensures.into_iter_gives in
    let e = c.enumerate-k-items.ensures in
    let f = c.of.ensures in
    (search rules, tt, cc (s, e.source, f.0), check_none c.args.body.now _ _ (cc (s, e.count)) (cc (s, e.source, f.1)))

pub returns-then-fails_at : goal.returns-then-fails_at
returns-then-fails_at c =
    let h = c.loop-k in
    let b = c.args.body.now in
    let n = c.in-Some.ensures.steps in
    let t = turn b _ _ _ h.invariant.2 n.0 in
    let f = ap (λ (p : ℕ). fails_at b p h.end) (sym t.0) ∙ sym c.fails_at.ensures ∙ c.if-fails_at.true in
    ap refusal_row c.at.ensures
    ∙ ap (λ (k : ℕ). row (refused_at Segment k)) n.1
    ∙ ap row (sym (check_found _ _ _ _ h.invariant.3 t.1 f))

pub loop-k-preserved : goal.loop-k-preserved
loop-k-preserved c =
    let h = c.loop-k in
    let b = c.args.body.now in
    let n = c.in-Some.ensures.steps in
    let t = turn b _ _ _ h.invariant.2 n.0 in
    let f = ap (λ (p : ℕ). fails_at b p h.end) (sym t.0) ∙ sym c.fails_at.ensures ∙ c.if-fails_at.false in
    let end = c.start_at.result + c.size_at.result in
    let d = check_more b _ _ _ h.invariant.3 _ end t.1 f t.3 (cc (c.start_at.ensures.0, c.size_at.ensures.0, t.0)) in (
      c.in-Some.ensures.goes.keeps,
      tt,
      t.2,
      subst (λ (k : ℕ). Checked b k (enumerate_source c.next.new.self).at end) (sym n.2) d,
    )

pub returns : goal.returns
returns c =
    let h = c.loop-k in
    ap row (sym (check_all _ _ _ _ h.invariant.3 (omega (arith, c.in-None.ensures.steps.0, ap length h.invariant.2))))
