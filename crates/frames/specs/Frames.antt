-- A call in a stream: its number, then its arguments, each behind its length in four bytes. Assumes nothing.
use Rattle.std.specs.Prelude.{not, ◌||◌, List, [], ◌∷◌, ℕ, zero, suc, ◌+◌, ◌-◌, ltb, length, take, drop}
use Rattle.notions.specs.Choice.{pick}
use Rattle.octets.specs.Numbers.{number}
use Rattle.frames.specs.declared.Framed.{Framed}
use Rattle.frames.specs.declared.Framed.TheVariants.{Needs, Whole, Cut}
use Rattle.frames.specs.Calls.{most_argument_bytes, listed, count, allowed}

-- the bytes of an argument's length
abbrev pub length_bytes : ℕ
length_bytes = 4

-- the length of the argument that begins these bytes, and what is behind it
abbrev pub size : List ℕ → ℕ
size b = number (take length_bytes b)

abbrev pub behind : List ℕ → List ℕ
behind b = drop (length_bytes + size b) b

-- what these bytes are of argument i of call n alone, where the arguments before it have `used` bytes together
unfoldable pub framed_one : ℕ → ℕ → ℕ → List ℕ → Framed
framed_one n i used b =
    pick (ltb (length b) length_bytes) (Needs (length_bytes - length b))
    (pick (not (allowed n i (size b)) || ltb most_argument_bytes (used + size b)) Cut
    (pick (ltb (length b) (length_bytes + size b)) (Needs (length_bytes + size b - length b)) Whole))

-- only where one argument is whole does the next one count
abbrev pub if_whole : Framed → Framed → Framed
if_whole Whole f = f
if_whole (Needs k) f = Needs k
if_whole Cut f = Cut

-- the same of the arguments from i on, k of them
unfoldable pub framed_from : ℕ → ℕ → ℕ → ℕ → List ℕ → Framed
framed_from n i zero used b = Whole
framed_from n i (suc k) used b =
    if_whole (framed_one n i used b) (framed_from n (suc i) k (used + size b) (behind b))

-- what these bytes of a stream are of the call that they begin: too few by so many at least, all of it, or cut
unfoldable pub framed : List ℕ → Framed
framed [] = Needs 1
framed (n ∷ b) = pick (listed n) (framed_from n 0 (count n) 0 b) Cut

-- the argument that begins these bytes, and what is left behind their first i arguments
abbrev pub first_argument : List ℕ → List ℕ
first_argument b = take (size b) (drop length_bytes b)

unfoldable pub skipped : ℕ → List ℕ → List ℕ
skipped zero b = b
skipped (suc i) b = skipped i (behind b)

-- argument i of a call stands behind its number and the arguments before it
abbrev pub argument : List ℕ → ℕ → List ℕ
argument b i = first_argument (skipped i (drop 1 b))
