-- `layout::check_regions` meets its contract: each refusal is the first that the definition gives.
use Rattle.std.proofs.Common.{sym, ap, ◌∙◌, Err}
use Rattle.refusal.specs.Answers.{refused_at}
use Rattle.refusal.specs.declared.Reason.TheVariants.{RegionReversed, RegionSize}
use Rattle.notions.proofs.First.{found_some, found_nothing}
use Rattle.layout.proofs.Vetted.{reversed, missized, begins, begins_at_zero, shared, passed}
use Rattle.layout.proofs.check_regions.Goals as goal

pub returns-in-Some : goal.returns-in-Some
returns-in-Some c =
    let f = found_some _ _ _ (sym c.first_reversed.ensures ∙ c.in-Some.is) in
    ap Err c.at.ensures ∙ ap (refused_at RegionReversed) f.1 ∙ reversed _ c.told-b f.0

pub returns-in-Some-first_wrong_size : goal.returns-in-Some-first_wrong_size
returns-in-Some-first_wrong_size c =
    let v = found_nothing _ _ (sym c.first_reversed.ensures ∙ c.in_default.is) in
    let f = found_some _ _ _ (sym c.first_wrong_size.ensures ∙ c.in-Some-first_wrong_size.is) in
    ap Err c.at-in-Some-first_wrong_size.ensures ∙ ap (refused_at RegionSize) f.1 ∙ missized _ c.told-b v f.0

pub returns-then-holds : goal.returns-then-holds
returns-then-holds c =
    let v = found_nothing _ _ (sym c.first_reversed.ensures ∙ c.in_default.is) in
    let w = found_nothing _ _ (sym c.first_wrong_size.ensures ∙ c.in_default-first_wrong_size.is) in
    ap Err c.into.ensures ∙ begins_at_zero _ c.told-b v w (begins c.args.b.now c.region_at.ensures c.holds.ensures c.if-holds.true)

pub returns-in-Some-first_collision : goal.returns-in-Some-first_collision
returns-in-Some-first_collision c =
    let v = found_nothing _ _ (sym c.first_reversed.ensures ∙ c.in_default.is) in
    let w = found_nothing _ _ (sym c.first_wrong_size.ensures ∙ c.in_default-first_wrong_size.is) in
    let f = found_some _ _ _ (sym c.first_collision.ensures ∙ c.in-Some-first_collision.is) in
    ap Err c.into-in-Some-first_collision.ensures
    ∙ shared _ c.told-b v w (begins c.args.b.now c.region_at.ensures c.holds.ensures c.if-holds.false) f.0

pub returns : goal.returns
returns c =
    let v = found_nothing _ _ (sym c.first_reversed.ensures ∙ c.in_default.is) in
    let w = found_nothing _ _ (sym c.first_wrong_size.ensures ∙ c.in_default-first_wrong_size.is) in
    let k = found_nothing _ _ (sym c.first_collision.ensures ∙ c.in_default-first_collision.is) in
    passed _ c.told-b v w (begins c.args.b.now c.region_at.ensures c.holds.ensures c.if-holds.false) k
