-- `report::text` meets its contract. Assumes nothing.
use mathlib.Core.Path.{refl}
use Rattle.std.proofs.Common.{rules}
use Rattle.report.proofs.Calls.{tellable, whole}
use Rattle.report.proofs.text.Goals as goal

pub tell-requires : goal.tell-requires
tell-requires c =
    let j = c.judge-o in
    tellable _ _ _ _ _ _ j.ensures j.auto.room

pub returns : goal.returns
returns c =
    let same = c.tell.ensures.same in
    whole _ _ _ _ _ _ _ _ _ _ c.judge-o.ensures refl refl (search (rules, same)) c.tell.ensures
