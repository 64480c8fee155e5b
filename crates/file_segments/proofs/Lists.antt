-- A part of one list laid into another, and the bytes that then stand there. Assumes nothing.
use mathlib.Core.Path.{◌≡◌, ap, sym, ◌∙◌}
use mathlib.Core.List.{List, ◌++◌}
use Prim.Native.Nat.{ℕ, ◌+◌, ◌-◌, ◌≤◌, ◌<◌}
use native.Mathlib.Omega.{arith}
use lib.ListN.{length, get_or, take, drop, get_or-append}
use lib.Seq.{paste, length_paste_head, get_or-append-add, get_or-take, get_or-drop, length-take-le}

-- a byte of the list d, into which n bytes of s were laid from `at` on
module _ (d s : List ℕ) (at n : ℕ) (hd : at ≤ length d) (hs : n ≤ length s) where
  pub paste_in : (i : ℕ) → i < n → get_or (paste d at s n) (at + i) 0 ≡ get_or s i 0
  paste_in i h =
      let e : length (take at d) ≡ at = length-take-le at d hd in
      let f : length (take at d ++ take n s) ≡ at + n = length_paste_head d at s n hd hs in
      get_or-append (take at d ++ take n s) (drop (at + n) d) 0 (at + i) (omega arith)
      ∙ ap (λ (k : ℕ). get_or (take at d ++ take n s) (k + i) 0) (sym e)
      ∙ get_or-append-add (take at d) (take n s) i 0
      ∙ get_or-take n s i 0 h

  pub paste_below : (a : ℕ) → a < at → get_or (paste d at s n) a 0 ≡ get_or d a 0
  paste_below a h =
      let e : length (take at d) ≡ at = length-take-le at d hd in
      let f : length (take at d ++ take n s) ≡ at + n = length_paste_head d at s n hd hs in
      get_or-append (take at d ++ take n s) (drop (at + n) d) 0 a (omega arith)
      ∙ get_or-append (take at d) (take n s) 0 a (omega arith)
      ∙ get_or-take at d a 0 h

  pub paste_above : (a : ℕ) → at + n ≤ a → get_or (paste d at s n) a 0 ≡ get_or d a 0
  paste_above a h =
      let f : length (take at d ++ take n s) ≡ at + n = length_paste_head d at s n hd hs in
      let z : a ≡ length (take at d ++ take n s) + (a - (at + n)) = omega arith in
      let y : at + n + (a - (at + n)) ≡ a = omega arith in
      ap (λ (k : ℕ). get_or (paste d at s n) k 0) z
      ∙ get_or-append-add (take at d ++ take n s) (drop (at + n) d) (a - (at + n)) 0
      ∙ get_or-drop (at + n) d (a - (at + n)) 0
      ∙ ap (λ (k : ℕ). get_or d k 0) y
