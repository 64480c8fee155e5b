-- Stores keep two memories in agreement outside KR and XS. Assumes nothing.
use mathlib.Core.Path.{◌≡◌, refl, sym, ◌∙◌}
use mathlib.Core.Bool.{Bool, true, false, false≢true}
use mathlib.Core.List.{List, [], ◌∷◌}
use Prim.Native.Nat.{ℕ, zero, suc}
use native.Mathlib.Omega.{arith}
use lib.ListN.{length, get_or, set, length-set}
use lib.Seq.{get_or-set_other}
use Rattle.notions.specs.Choice.{pick}
use Rattle.notions.proofs.Tests.{cases}
use Rattle.layout.specs.declared.Layout.{Layout}
use Rattle.layout.specs.Regions.{within}
use Rattle.effects.specs.Effects.{lands, stored}
use Rattle.claims_monitor.specs.Demand3.{Agree}

pub pick_agree : (l : Layout) (t : Bool) {x y x' y' : List ℕ} → Agree l x y → Agree l x' y'
    → Agree l (pick t x x') (pick t y y')
pick_agree l true g h = g
pick_agree l false g h = h

-- one byte put at one place of two lists
get_d_set_both : (x y : List ℕ) (a v k : ℕ) → length x ≡ length y → get_or x k 0 ≡ get_or y k 0
    → get_or (set x a v) k 0 ≡ get_or (set y a v) k 0
get_d_set_both [] [] a v k n e = refl
get_d_set_both [] (q ∷ y) a v k n e = absurd (omega (arith, n))
get_d_set_both (p ∷ x) [] a v k n e = absurd (omega (arith, n))
get_d_set_both (p ∷ x) (q ∷ y) zero v zero n e = refl
get_d_set_both (p ∷ x) (q ∷ y) zero v (suc k) n e = e
get_d_set_both (p ∷ x) (q ∷ y) (suc a) v zero n e = e
get_d_set_both (p ∷ x) (q ∷ y) (suc a) v (suc k) n e = get_d_set_both x y a v k (omega arith) e

-- a byte at an address, the same in both unless the address is in XS
module _ (l : Layout) (x y : List ℕ) (g : Agree l x y) (a v w : ℕ) (f : within l.xs a ≡ false → v ≡ w) where
  set_agree : Agree l (set x a v) (set y a w)
  set_agree = record {
    long = simp length-set g.long;
    same = λ k kr xs.
        cases (within l.xs a)
        (λ h.
        let e : k ≡ a → ⊥ = λ e. false≢true (simp (e, h) at xs) in
        get_or-set_other x a k v 0 e ∙ g.same k kr xs ∙ sym (get_or-set_other y a k w 0 e))
        (λ h. rw (← f h) (get_d_set_both x y a v k g.long (g.same k kr xs)));
  }

  pub stored_agree : (on : Bool) → Agree l (stored l on a v x) (stored l on a w y)
  unfolding stored
  stored_agree on = pick_agree l (lands l on a) set_agree g
