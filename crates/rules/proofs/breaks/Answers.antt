-- `rules::breaks` meets its contract. Assumes nothing.
use Rattle.rules.proofs.breaks.Goals as goal

pub returns : goal.returns
returns c =
    simp (
      c.holds-inside.ensures,
      c.holds-was_inside.ensures,
      c.holds-cpu_kr.ensures,
      c.holds-cpu_xs.ensures,
      c.holds-cpu_mr.ensures,
      c.holds-cpu_ctr.ensures,
      c.holds-dma_kr.ensures,
      c.holds-dma_xs.ensures,
      c.holds-dma_ctr.ensures,
    )
