-- The check of a layout's bytes test by test, where those before have passed. Assumes nothing.
use mathlib.Core.Path.{◌≡◌, sym, ap, ◌∙◌}
use mathlib.Core.Bool.{Bool, true, false}
use mathlib.Core.Logic.{◌≢◌}
use mathlib.Core.List.{List}
use Prim.Native.Nat.{ℕ, ◌*◌}
use lib.Dec.{ltb, eqb}
use lib.ListN.{length}
use borrow.Author.Tests.{eq-eqb, eqb-true}
use Rattle.std.specs.Prelude.{Ok, Err}
use Rattle.refusal.specs.Answers.{refused_at}
use Rattle.refusal.specs.declared.Reason.TheVariants.{LayoutSize, RegionReversed, RegionSize, ZeroInCode, RegionsShare}
use Rattle.layout.specs.declared.Region.{Region}
use Rattle.notions.proofs.Tests.{cases}
use Rattle.layout.specs.Promises.{Checks}
use Rattle.layout.specs.Regions.{within}
use Rattle.layout.specs.Layouts.{layout_bytes, regions, CR, region, layout_check}
use Rattle.layout.specs.Layouts.{first_reversed, first_wrong_size, first_collision}

-- bytes that are no 24
pub no_layout : (b : List ℕ) → length b ≢ layout_bytes → Checks b (Err (record { reason = LayoutSize; place = 0 }))
unfolding layout_check
no_layout b h =
    cases (eqb (length b) layout_bytes) (λ t. absurd (h (eqb-true (length b) layout_bytes t)))
    (λ t. record { answered = simp t })

-- a test of CR's region that was read, said of the bytes
pub begins : (b : List ℕ) {r : Region} {z t : Bool} → r ≡ region b CR → z ≡ within r 0 → z ≡ t
    → within (region b CR) 0 ≡ t
begins b e p q = ap (λ (x : Region). within x 0) (sym e) ∙ sym p ∙ q

module _ (b : List ℕ) (h : length b ≡ layout_bytes) where
  pub reversed : ltb (first_reversed b) regions ≡ true → refused_at RegionReversed (first_reversed b) ≡ layout_check b
  unfolding layout_check
  reversed t = simp (eq-eqb (length b) layout_bytes h, t)

  module _ (pv : ltb (first_reversed b) regions ≡ false) where
    pub missized : ltb (first_wrong_size b) regions ≡ true → refused_at RegionSize (first_wrong_size b) ≡ layout_check b
    unfolding layout_check
    missized t = simp (eq-eqb (length b) layout_bytes h, pv, t)

    module _ (pw : ltb (first_wrong_size b) regions ≡ false) where
      pub begins_at_zero : within (region b CR) 0 ≡ true → refused_at ZeroInCode 0 ≡ layout_check b
      unfolding layout_check
      begins_at_zero t = simp (eq-eqb (length b) layout_bytes h, pv, pw, t)

      module _ (pz : within (region b CR) 0 ≡ false) where
        pub shared : ltb (first_collision b) (regions * regions) ≡ true → refused_at RegionsShare 0 ≡ layout_check b
        unfolding layout_check
        shared t = simp (eq-eqb (length b) layout_bytes h, pv, pw, pz, t)

        pub passed : ltb (first_collision b) (regions * regions) ≡ false → Ok tt ≡ layout_check b
        unfolding layout_check
        passed t = simp (eq-eqb (length b) layout_bytes h, pv, pw, pz, t)
