-- The table of the calls: what holds of each row is computed once over all of them. Assumes nothing.
use mathlib.Core.Path.{◌≡◌, refl, ap, ◌∙◌}
use mathlib.Core.Bool.{Bool, true, ◌&&◌}
use mathlib.Core.List.{List, [], ◌∷◌}
use mathlib.Core.Option.{Option, none}
use Prim.Native.Nat.{ℕ, zero, suc, ◌≤◌}
use native.Mathlib.Omega.{arith}
use lib.Dec.{eqb, leb}
use lib.ListN.{length, get_or}
use borrow.Author.Tests.{leb-true}
use Rattle.notions.proofs.Tests.{cases, both}
use Rattle.frames.specs.Calls.{any, calls, arguments_of, count, length_allows, allowed}
use Rattle.frames.specs.Streams.{most_arguments}
use Rattle.frames.specs.Inner.{length_of, allows}

-- ---- no call has more than five arguments

abbrev all_few : List (Option (List ℕ)) → Bool
all_few [] = true
all_few (c ∷ cs) = leb (length (arguments_of c)) most_arguments && all_few cs

all_few_lem : (cs : List (Option (List ℕ))) (n : ℕ) → all_few cs ≡ true
    → length (arguments_of (get_or cs n none)) ≤ most_arguments
all_few_lem [] n e = omega arith
all_few_lem (c ∷ cs) zero e =
    let k = length (arguments_of c) in
    leb-true k most_arguments (both (leb k most_arguments) (all_few cs) e).0
all_few_lem (c ∷ cs) (suc n) e = all_few_lem cs n (both (leb (length (arguments_of c)) most_arguments) (all_few cs) e).1

few : (n : ℕ) → length (arguments_of (get_or calls n none)) ≤ most_arguments
few n = all_few_lem calls n refl

pub few_arguments : (n : ℕ) → count n ≤ most_arguments
unfolding count
few_arguments n = few n

-- ---- the lengths of arguments in the table of the code

allows_same : (l k : ℕ) → length_allows l k ≡ allows (length_of l) k
allows_same l k = cases (eqb l any) (λ e. simp e) (λ e. simp e)

pub allowed_same : (n i l k : ℕ) → get_or (arguments_of (get_or calls n none)) i any ≡ l → allowed n i k ≡ allows (length_of l) k
unfolding allowed
allowed_same n i l k e = ap (λ (x : ℕ). length_allows x k) e ∙ allows_same l k
