-- `file_segments::fill` meets its contract. Assumes nothing.
use Rattle.std.proofs.Common.{arith, refl, ap, ◌∙◌, ℕ, length, rules}
use Rattle.file_segments.specs.Segments.{segments, image}
use Rattle.file_segments.proofs.Walk.{turn, laid_none, laid_more, laid_through}
use Rattle.file_segments.proofs.fill.Goals as goal

pub loop-p-init : goal.loop-p-init
loop-p-init c =
    let h = c.args in
    let s = c.into_iter-p-iterator.ensures.into_iter_gives in
    let f = c.of-p-items.ensures in
    (tt, tt, cc (s, f.0), refl, laid_none h.body.now _ (length h.memory.now) _ (cc (s, f.1)) (search rules))

pub loop-p-preserved : goal.loop-p-preserved
loop-p-preserved c =
    let h = c.loop-p in
    let t = turn c.args.body.now _ _ _ h.invariant.2 c.in-Some.ensures.steps in (
      tt,
      tt,
      t.2,
      c.store.auto.room ∙ h.invariant.3,
      laid_more h.invariant.4 _ _ t.1 t.3 (cc (c.store.ensures, c.start_at.ensures.0, c.contents_at.ensures, t.0)),
    )

pub returns : goal.returns
returns c =
    let h = c.loop-p in
    let b = c.args.body.now in
    laid_through h.invariant.4 (omega (arith, c.in-None.ensures.steps, ap length h.invariant.2))
    ∙ ap (λ (n : ℕ). image n b (segments b)) c.fill.ensures.len
