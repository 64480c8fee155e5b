-- The source's properties hold of every run. Assumes nothing.
use mathlib.Core.Path.{◌≡◌, refl, sym, subst, ◌∙◌}
use mathlib.Core.Logic.{◌≢◌, ◌⊎◌, inl, inr}
use mathlib.Core.Bool.{Bool, true, false, or-true, false≢true}
use mathlib.Core.List.{List}
use Prim.Native.Nat.{ℕ, zero, suc, ◌+◌, ◌-◌, ◌≤◌, ◌<◌}
use native.Mathlib.Nat.{add-zero, add-suc}
use native.Mathlib.Omega.{arith}
use lib.Dec.{eqb}
use borrow.Author.Tests.{eqb-true, eqb-false, ne_eqb}
use Rattle.notions.specs.First.{first}
use Rattle.notions.proofs.Tests.{cases, untrue, clash}
use Rattle.layout.specs.declared.Layout.{Layout}
use Rattle.layout.specs.Regions.{within}
use Rattle.layout.specs.Layouts.{layout_of}
use Rattle.layout.specs.Good.{Good}
use Rattle.layout.proofs.Laws.{ends_within}
use Rattle.rules.specs.declared.Monitor.{Monitor}
use Rattle.rules.specs.Rules.{writable, broken, numbered, rule_numbers, cause}
use Rattle.monitor.specs.Decisions.{next}
use Rattle.monitor.proofs.Decisions.{breaks_resets, inside_unheld}
use Rattle.monitor.specs.Runs.{before}
use Rattle.claims_monitor.specs.Traces.{remembers, cause_at, resets_at}
use Rattle.claims_monitor.specs.Vrased as claim
use Rattle.claims_monitor.specs.Vrased.{Run, PC, address, reset, zero_outside, ◌∈◌, ◌is◌, ◌U◌, CR}
use Rattle.claims_monitor.proofs.Traces.{code_off_zero, attested_unwritable, attested_step, hold_next}

-- ---- a broken rule resets

module _ (r : Run) (n : ℕ) where
  abbrev m : Monitor
  m = remembers r.layout r.trace r.from n

  abbrev tried : ℕ → Bool
  tried = numbered (broken r.layout m (r.trace n))

  by_rule : (k : ℕ) → k < rule_numbers → tried k ≡ true → reset r n
  by_rule = breaks_resets r.layout m (r.trace n)

  -- with PC in CR it is enough to look at a monitor that is not held
  by_rule_inside : (k : ℕ) → k < rule_numbers → zero_outside r 0 → (PC ∈ CR) r n → (m.held ≡ false → tried k ≡ true) → reset r n
  by_rule_inside k h z i f =
      cases (resets_at r.layout r.trace r.from n) (λ e. e)
      (λ e. by_rule k h (f (inside_unheld r.layout m (r.trace n) z i e)))

-- ---- the properties

pub ltl_3_2 : claim.ltl_3_2
ltl_3_2 r n _ (o, (e, a)) = by_rule r n 1 (omega arith) (simp (untrue _ o, e, a))

pub ltl_3_3 : claim.ltl_3_3
unfolding before next
ltl_3_3 r n _ (p, (i, o)) q =
    by_rule r (suc n) 2 (omega arith) (simp (untrue _ p, i, untrue _ o, ne_eqb (PC r n) (claim.CRmax r n) q))

pub ltl_3_4 : claim.ltl_3_4
unfolding before next
ltl_3_4 r n _ (p, (o, i)) q =
    by_rule r (suc n) 3 (omega arith) (simp (untrue _ p, untrue _ o, i, ne_eqb (PC r (suc n)) (claim.CRmin r n) q))

pub ltl_3_5 : claim.ltl_3_5
ltl_3_5 r z n _ (e, i) = by_rule_inside r n 4 (omega arith) z i (λ u. simp (u, e, i))

pub ltl_3_6 : claim.ltl_3_6
ltl_3_6 r n _ (o, (e, a)) =
    by_rule r n 5 (omega arith)
    (cases (r.trace n).cpureads (λ h. simp (untrue _ o, h, a)) (λ h. simp (untrue _ o, h, a, e (λ g. clash _ g h))))

pub ltl_3_7 : claim.ltl_3_7
ltl_3_7 r z n _ (i, (e, (a, (b, c)))) =
    by_rule_inside r n 6 (omega arith) z i (λ u. simp (u, i, e, untrue _ a, untrue _ b, untrue _ c))

pub ltl_3_8 : claim.ltl_3_8
ltl_3_8 r n _ (e, a) = by_rule r n 7 (omega arith) (simp (e, a))

pub ltl_3_9 : claim.ltl_3_9
ltl_3_9 r n _ (e, a) = by_rule r n 8 (omega arith) (simp (e, a))

pub ltl_3_10 : claim.ltl_3_10
ltl_3_10 r z n _ (i, e) = by_rule_inside r n 9 (omega arith) z i (λ u. simp (u, e, i))

pub ltl_3_15 : claim.ltl_3_15
ltl_3_15 r n _ (o, (e, a)) = by_rule r n 10 (omega arith) (simp (untrue _ o, e, a))

pub ltl_3_16 : claim.ltl_3_16
ltl_3_16 r n _ (e, (w, a)) = by_rule r n 10 (omega arith) (simp (e, w, a, or-true))

-- ---- temporal consistency

last_or_below : (j m : ℕ) → j ≤ suc m → (j ≡ suc m) ⊎ (j ≤ m)
last_or_below j m h =
    cases (eqb j (suc m)) (λ e. inl (eqb-true j (suc m) e))
    (λ e. let g : j ≢ suc m = eqb-false j (suc m) e in inr (omega arith))

module _ (M : ℕ → ℕ) (r : Run) (b : List ℕ) (good : Good b) (same : r.layout ≡ layout_of b) (n k : ℕ)
    (enters : (PC is claim.CRmin) r n) (ends : (PC is claim.CRmax) r k) (begins : claim.ARis M r n)
    (free : (j : ℕ) → n ≤ j → j < k → reset r j → ⊥) where
  ordered : r.layout.cr.lo ≤ r.layout.cr.hi
  unfolding layout_of
  ordered = subst (λ (l : Layout). l.cr.lo ≤ l.cr.hi) (sym same) (good.ordered 0 (omega arith))

  off_zero : within r.layout.cr 0 ≡ false
  off_zero = subst (λ (l : Layout). within l.cr 0 ≡ false) (sym same) (code_off_zero b good)

  unwritable : (a : ℕ) → within r.layout.ar a ≡ true → writable r.layout a ≡ false
  unwritable =
      subst (λ (l : Layout). (a : ℕ) → within l.ar a ≡ true → writable l a ≡ false) (sym same)
      (attested_unwritable b good)

  -- up to step m PC is in CR, and AR is M
  record Inside (m : ℕ) : Type 0 where
    pc : (PC ∈ CR) r m
    kept : (j : ℕ) → n ≤ j → j ≤ m → claim.ARis M r j

  -- after a step in CR that does not reset and is not at its highest address, PC is still there
  goes_on : (m : ℕ) → n ≤ m → m < k → (PC ∈ CR) r m → (PC r m ≡ claim.CRmax r m → ⊥) → (PC ∈ CR) r (suc m)
  goes_on m h g i q =
      cases (within r.layout.cr (PC r (suc m))) (λ e. e)
      (λ o.
      let x : reset r (suc m) = ltl_3_3 r m (omega arith) (free m h g, (i, λ e. clash _ e o)) q in
      cases (eqb (suc m) k)
      (λ e. rw (eqb-true (suc m) k e, ends) (ends_within r.layout.cr r.layout.cr.hi ordered (omega arith)))
      (λ e. let d : suc m ≢ k = eqb-false (suc m) k e in absurd (free (suc m) (omega arith) (omega arith) x)))

  through : (d : ℕ) → n + d ≤ k → ((claim.ARis M U (PC is claim.CRmax)) r n) ⊎ Inside (n + d)
  through zero h =
      inr (record {
        pc = rw (add-zero, enters) (ends_within r.layout.cr r.layout.cr.lo (omega arith) ordered);
        kept = λ j p q. subst (claim.ARis M r) (let e : n ≡ j = omega arith in e) begins;
      })
  through (suc d) h =
      elim (through d (omega arith)) [
        | inl u ↦ inl u
        | inr i ↦
            cases (eqb (PC r (n + d)) (claim.CRmax r (n + d)))
            (λ e. inl (n + d, omega arith, eqb-true _ _ e, λ j p q. i.kept j p (omega arith)))
            (λ e.
            inr (rw add-suc
            (record {
              pc = goes_on (n + d) (omega arith) (omega arith) i.pc (eqb-false _ _ e);
              kept = λ j p q.
                  elim (last_or_below j (n + d) q) [
                    | inl g ↦
                        λ a o.
                        rw g
                        (attested_step r.layout off_zero r.trace r.from (n + d) a (unwritable a o) i.pc
                        ∙ i.kept (n + d) (omega arith) (omega arith) a o)
                    | inr g ↦ i.kept j p g
                  ];
            })))
      ]

  whole : n ≤ k → (claim.ARis M U (PC is claim.CRmax)) r n
  whole h =
      let e : n + (k - n) ≡ k = omega arith in
      elim (through (k - n) (omega arith)) [
        | inl u ↦ u
        | inr i ↦ (k, h, ends, λ j p q. i.kept j p (omega arith))
      ]

pub lemma_1 : claim.lemma_1
lemma_1 M r (b, good, same) n _ (enters, (begins, (k, h, ends, free))) =
    whole M r b good same n k enters ends begins free h

-- ---- secure reset

-- the steps from n to m reset
abbrev Through : Run → ℕ → ℕ → Type 0
Through r n m = (j : ℕ) → n ≤ j → j ≤ m → reset r j

-- then the next one does too, or has PC 0
through_next : (r : Run) (n m : ℕ) → n ≤ m → Through r n m → ((reset U (PC is address 0)) r n) ⊎ Through r n (suc m)
through_next r n m h f =
    let next : PC r (suc m) ≢ 0 → cause_at r.layout r.trace r.from (suc m) ≡ 15 =
    hold_next r.layout r.trace r.from m (f m h (omega arith)) in
    cases (eqb (PC r (suc m)) 0)
    (λ z. inl (suc m, omega arith, eqb-true (PC r (suc m)) 0 z, λ j p q. f j p (omega arith)))
    (λ z.
    inr (λ j p q.
    elim (last_or_below j m q) [
      | inl g ↦ subst (reset r) (sym g) (simp (next (eqb-false (PC r (suc m)) 0 z)))
      | inr g ↦ f j p g
    ]))

until : (r : Run) (n d : ℕ) → reset r n → ((reset U (PC is address 0)) r n) ⊎ Through r n (n + d)
until r n zero e = inr (λ j h k. subst (reset r) (let q : n ≡ j = omega arith in q) e)
until r n (suc d) e =
    elim (until r n d e) [
      | inl u ↦ inl u
      | inr f ↦ rw add-suc (through_next r n (n + d) (omega arith) f)
    ]

pub ltl_3_11 : claim.ltl_3_11
ltl_3_11 r n _ e never k h =
    elim (until r n k e) [
      | inl u ↦ absurd (never u)
      | inr f ↦ f k h (omega arith)
    ]

-- ---- where the page departs

pub departs_3_7 : claim.departs_3_7
unfolding before next cause first
departs_3_7 g = false≢true (g 2 (omega arith) (refl, (refl, (false≢true, false≢true))))

pub departs_3_16 : claim.departs_3_16
unfolding before next cause first
departs_3_16 g = false≢true (g 1 (omega arith) (refl, refl))
