-- What the contracts of this crate's own functions say; no other crate needs it. Assumes nothing.
use Rattle.std.specs.Prelude.{Bool, true, not, ◌||◌, List, [], ◌∷◌, ℕ, ◌+◌, ◌-◌, eqb, ltb, length, get_or, map}
use Rattle.std.specs.Prelude.{Option, None, Some}
use Rattle.std.proofs.Math.Option as M
use Rattle.std.proofs.Math.Option.{none, some}
use Rattle.notions.specs.Choice.{pick}
use Rattle.frames.specs.declared.Framed.{Framed}
use Rattle.frames.specs.declared.Framed.TheVariants.{Needs, Whole, Cut}
use Rattle.frames.specs.Calls.{most_argument_bytes, any, calls}
use Rattle.frames.specs.Frames.{length_bytes, size, behind, if_whole}

-- the code's table has no length where an argument may have any
abbrev pub length_of : ℕ → Option ℕ
length_of l = pick (eqb l any) None (Some l)

abbrev pub row : M.Option (List ℕ) → Option (List (Option ℕ))
row none = None
row (some ls) = Some (map length_of ls)

-- the lengths of a call's arguments, if a call has the number n
abbrev pub lengths : ℕ → Option (List (Option ℕ))
lengths n = row (get_or calls n none)

-- an argument of this length may have k bytes
abbrev pub allows : Option ℕ → ℕ → Bool
allows None k = true
allows (Some l) k = eqb k l

-- `framed_one` of specs/Frames.antt, where it is told whether the argument may have its length
unfoldable pub framed_if : Bool → ℕ → List ℕ → Framed
framed_if allowed used b =
    pick (ltb (length b) length_bytes) (Needs (length_bytes - length b))
    (pick (not allowed || ltb most_argument_bytes (used + size b)) Cut
    (pick (ltb (length b) (length_bytes + size b)) (Needs (length_bytes + size b - length b)) Whole))

-- the same of all arguments that are left, by their lengths
abbrev pub framed_one : Option ℕ → ℕ → List ℕ → Framed
framed_one l used b = framed_if (allows l (size b)) used b

unfoldable pub framed_all : List (Option ℕ) → ℕ → List ℕ → Framed
framed_all [] used b = Whole
framed_all (l ∷ ls) used b = if_whole (framed_one l used b) (framed_all ls (used + size b) (behind b))
