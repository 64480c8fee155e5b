-- `rules::lowest` meets its contract: the library finds the first rule that is broken.
use Rattle.std.proofs.Common.{rules, ap, sym, ◌∙◌}
use Rattle.std.proofs.lemmas.Iterator.{YieldsList-from_slice}
use Rattle.std.proofs.lemmas.Iterator.Search.{position_from_yields_List}
use Rattle.rules.specs.Rules.{in_order}
use Rattle.rules.proofs.Laws.{number_at, lowest_at}
use Rattle.rules.proofs.lowest.Goals as goal

pub returns-in-Some : goal.returns-in-Some
returns-in-Some c =
    let e = position_from_yields_List (λ x. x) _ _ c.position.result c.position.ensures.ran
    (YieldsList-from_slice (in_order c.args.b) cc) (λ x b q k. search rules) in
    ap number_at (sym c.in-Some.is ∙ e) ∙ lowest_at c.args.b

pub returns-in-None : goal.returns-in-None
returns-in-None c =
    let e = position_from_yields_List (λ x. x) _ _ c.position.result c.position.ensures.ran
    (YieldsList-from_slice (in_order c.args.b) cc) (λ x b q k. search rules) in
    ap number_at (sym c.in-None.is ∙ e) ∙ lowest_at c.args.b
