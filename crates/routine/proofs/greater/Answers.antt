-- `routine::greater` meets its contract: the library's order of slices is `greater`. Assumes nothing.
use Rattle.std.proofs.Common.{refl}
use Rattle.std.proofs.lemmas.Cmp.{same_from_slice_cmp_tested, ranked}
use Rattle.std.specs.Ordering.{nat_cmp, is_gt}
use Rattle.routine.specs.Strings.{greater}
use Rattle.routine.proofs.Strings.{greater_ranked}
use Rattle.routine.proofs.greater.Goals as goal

pub returns : goal.returns
unfolding greater
returns c =
    same_from_slice_cmp_tested nat_cmp is_gt greater refl (λ y b. refl) (λ x a. refl)
    (λ x y a b o h. greater_ranked x y a b o (ranked x y o h)) c.args.a.now c.args.b.now c.gt.result c.gt.ensures
