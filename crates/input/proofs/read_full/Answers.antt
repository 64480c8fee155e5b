-- `input::read_full` meets its contract. Assumes nothing.
use Rattle.std.proofs.Common.{rules, ◌++◌, sym, ap, ◌∙◌, subst, take, drop}
use Rattle.std.proofs.Math.Seq.{take-add}
use Rattle.std.proofs.KnownBytes.{Consumes-trans}
use Rattle.std.specs.Io.KnownBytes.{Consumes}
use Rattle.input.proofs.read_full.Goals as goal

pub loop-n-preserved : goal.loop-n-preserved
loop-n-preserved g c =
    let n = c.loop-n.n in
    let k = c.in_ok-k.k in
    let now = c.read_at.new.buffer in (
      search rules,
      search rules,
      subst (Consumes _ _)
          (ap (λ l. l ++ take k (drop n now)) (sym c.in_ok-k.ensures.front) ∙ sym (take-add n k now))
          (Consumes-trans _ _ _ _ _ c.loop-n.invariant.2 c.in_ok-k.ensures.bytes),
    )
