-- One access, on plain variables: it does not take place or its address is past the memory, or else it is inside. Assumes nothing.
use mathlib.Core.Path.{◌≡◌, refl, sym}
use mathlib.Core.Bool.{Bool, true, false, not, ◌&&◌, ◌||◌}
use mathlib.Core.List.{List}
use Prim.Native.Nat.{ℕ, ◌<◌}
use lib.Dec.{leb}
use lib.ListN.{length, get_or, set, get_or-eq_default}
use lib.Seq.{set_out}
use borrow.Author.Tests.{not-false, leb-true, leb-false}
use Rattle.notions.specs.Choice.{pick}
use Rattle.notions.proofs.Tests.{cases, neither}
use Rattle.layout.specs.declared.Layout.{Layout}
use Rattle.layout.specs.Regions.{within}
use Rattle.effects.specs.Effects.{lands, stored}

pub inside : (on : Bool) (n a : ℕ) → (not on || leb n a) ≡ false → (on ≡ true) × (a < n)
inside on n a e = let p = neither (not on) (leb n a) e in (not-false on p.0, leb-false n a p.1)

module _ (on : Bool) (memory : List ℕ) (a : ℕ) where
  pub unread : (not on || leb (length memory) a) ≡ true → 0 ≡ pick on (get_or memory a 0) 0
  unread e =
      cases on (λ o. simp o (sym (get_or-eq_default memory 0 (leb-true (length memory) a (simp o at e)))))
      (λ o. simp o)

  pub read : (not on || leb (length memory) a) ≡ false → get_or memory a 0 ≡ pick on (get_or memory a 0) 0
  read e = simp (inside on (length memory) a e).0

-- either list, where the two are equal
either : (t : Bool) (x y : List ℕ) → x ≡ y → y ≡ pick t x y
either true x y e = sym e
either false x y e = refl

module _ (l : Layout) (on : Bool) (a v : ℕ) (memory : List ℕ) where
  pub unstored : (not on || leb (length memory) a) ≡ true → memory ≡ stored l on a v memory
  unfolding stored
  unstored e =
      cases on (λ o. either (lands l on a) _ memory (set_out memory a v (leb-true (length memory) a (simp o at e))))
      (λ o. simp o)

  module _ (e : (not on || leb (length memory) a) ≡ false) (c k : Bool) (ec : c ≡ within l.cr a)
      (ek : k ≡ within l.kr a) where
    pub landed : (not c && not k) ≡ true → set memory a v ≡ stored l on a v memory
    unfolding stored
    landed t = simp ((inside on (length memory) a e).0, simp (ec, ek) at t)

    pub barred : (not c && not k) ≡ false → memory ≡ stored l on a v memory
    unfolding stored
    barred t = simp ((inside on (length memory) a e).0, simp (ec, ek) at t)
