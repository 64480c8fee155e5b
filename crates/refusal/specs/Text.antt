-- The text of a refusal. Assumes nothing.
use Rattle.std.specs.Prelude.{List, ◌++◌, ℕ, codes, decimal}
use Rattle.refusal.specs.declared.Refusal.{Refusal}
use Rattle.refusal.specs.Numbers.{number}

-- "refused", the number and the place, one space apart
abbrev pub text_of : Refusal → List ℕ
text_of r = codes "refused " ++ (decimal (number r.reason) ++ (codes " " ++ decimal r.place))
