-- `rules::apart` meets its contract. Assumes nothing.
use Rattle.rules.proofs.apart.Goals as goal

pub returns : goal.returns
returns c =
    simp (
      c.holds.ensures,
      c.holds-2.ensures,
      c.holds-3.ensures,
      c.holds-4.ensures,
      c.holds-5.ensures,
      c.holds-6.ensures,
      c.holds-7.ensures,
      c.holds-8.ensures,
    )
