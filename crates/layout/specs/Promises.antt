-- What the check of a layout, and that of a call on a memory, promise, for all inputs. Assumes nothing.
use Rattle.std.specs.Prelude.{◌≡◌, Bool, List, [], ◌∷◌, ℕ, Err, Ok, Result}
use Rattle.refusal.specs.Answers.{Answer, refusal_row, told}
use Rattle.layout.specs.declared.Region.{Region}
use Rattle.layout.specs.declared.Layout.{Layout}
use Rattle.layout.specs.Regions.{within}
use Rattle.layout.specs.Layouts.{layout_of, layout_check}
use Rattle.layout.specs.Calls.{call_check}
use Rattle.refusal.specs.declared.Refusal.{Refusal}

-- `Region::holds`: whether the address is in the region
abbrev pub Holds : Region → ℕ → Bool → Type 0
Holds g a r = r ≡ within g a

-- a layout's twelve numbers
abbrev pub layout_values : Layout → List ℕ
layout_values l =
    l.cr.lo ∷ l.cr.hi ∷ l.kr.lo ∷ l.kr.hi ∷ l.xs.lo ∷ l.xs.hi
    ∷ l.mr.lo ∷ l.mr.hi ∷ l.ctr.lo ∷ l.ctr.hi ∷ l.ar.lo ∷ l.ar.hi ∷ []

-- the row of the check's answer: 0 and the layout's numbers, or the refusal's number and place
abbrev pub checked_row : Result Layout Refusal → List ℕ
checked_row (Ok l) = 0 ∷ layout_values l
checked_row (Err r) = refusal_row r

-- `check`: the layout that the bytes describe, or the refusal that they earn
pub record Checks (b : List ℕ) (r : Result Layout Refusal) : Type 0 where
  pub answered : checked_row r ≡ told (layout_check b) (layout_values (layout_of b))

-- `admit`: the layout that the bytes describe, or the refusal that the call earns by them, its memory and the rest
pub record Admits (memory layout : List ℕ) (rest : Answer) (r : Result Layout Refusal) : Type 0 where
  pub answered : checked_row r ≡ told (call_check memory layout rest) (layout_values (layout_of layout))
