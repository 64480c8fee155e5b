-- Steps to which no rule applies. Assumes nothing.
use mathlib.Core.Path.{◌≡◌, refl, ◌∙◌}
use mathlib.Core.Bool.{Bool, true, false, not, ◌&&◌, ◌||◌, and-false, false≢true}
use Prim.Native.Nat.{ℕ}
use lib.Dec.{eqb}
use borrow.Author.Tests.{not-true}
use Rattle.notions.specs.First.{first}
use Rattle.notions.proofs.Tests.{both, neither}
use Rattle.layout.specs.declared.Layout.{Layout}
use Rattle.layout.specs.Regions.{within}
use Rattle.steps.specs.declared.Step.{Step}
use Rattle.rules.specs.declared.Monitor.{Monitor}
use Rattle.rules.specs.Rules.{writable, rule3, rule6, broken, lowest}
use Rattle.rules.specs.Inner.{guarded, near, visits}
use Rattle.rules.proofs.Laws.{rule_6, no_more, nor, unbroken_lowest}

-- with PC and last PC outside CR, and the accesses outside KR, XS and CTR, no rule at all
unguarded : (l : Layout) (a : ℕ) → guarded l a ≡ false
    → (within l.kr a ≡ false) × (within l.xs a ≡ false) × (within l.ctr a ≡ false)
unguarded l a e =
    let p = neither (within l.kr a || within l.xs a) (within l.ctr a) e in
    let q = neither (within l.kr a) (within l.xs a) p.0 in
    (q.0, q.1, p.1)

pub apart_lowest : (l : Layout) (m : Monitor) (s : Step) → near l m s ≡ false → lowest (broken l m s) ≡ 0
unfolding first
apart_lowest l m s e =
    let code = within l.cr s.pc || within l.cr m.lastpc in
    let d = neither (code || guarded l s.cpuaddress) (guarded l s.dmaaddress) e in
    let c = neither code (guarded l s.cpuaddress) d.0 in
    let p = neither (within l.cr s.pc) (within l.cr m.lastpc) c.0 in
    let x = unguarded l s.cpuaddress c.1 in
    let y = unguarded l s.dmaaddress d.1 in
    simp (p.0, p.1, x.0, x.1, x.2, y.0, y.1, y.2, and-false)

-- nor with PC in CR as they allow
entered : (b c : Bool) → (b || c) ≡ true → (not b && true && not c) ≡ false
entered true c e = refl
entered false true e = refl
entered false false e = absurd (false≢true e)

lawful : (w a : Bool) → (not w || a) ≡ true → (w && not a) ≡ false
lawful false a e = refl
lawful true a e = simp e

pub visit_lowest : (l : Layout) (m : Monitor) (s : Step) → visits l m s ≡ true → lowest (broken l m s) ≡ 0
visit_lowest l m s e =
    let from = within l.cr m.lastpc || eqb s.pc l.cr.lo in
    let w = both (within l.cr s.pc && from && not (s.interrupt || s.dmaactive)) _ e in
    let q = both (within l.cr s.pc && from) _ w.0 in
    let p = both (within l.cr s.pc) from q.0 in
    let n = neither s.interrupt s.dmaactive (not-true _ q.1) in
    let r3 : rule3 l m s ≡ false =
    simp p.0 (entered (within l.cr m.lastpc) (eqb s.pc l.cr.lo) p.1) in
    let r6 : rule6 l s ≡ false =
    rule_6 l s ∙ simp p.0 (lawful s.cpuwrites (writable l s.cpuaddress) w.1) in
    unbroken_lowest l m s
    (nor (simp p.0)
    (nor (simp (p.0, and-false))
    (nor (simp (r3, and-false))
    (nor (simp (n.0, and-false))
    (nor (simp p.0)
    (nor (simp (r6, and-false))
    (nor (simp n.1)
    (nor (simp n.1)
    (nor (simp (n.1, and-false))
    (nor (simp (p.0, n.1, and-false)) no_more))))))))))
