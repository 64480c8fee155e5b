-- The laws of the cause, for readers and for the crates above. Assumes nothing.
use mathlib.Core.Path.{◌≡◌, refl, ap}
use mathlib.Core.Bool.{Bool, true, false, not, ◌&&◌, ◌||◌}
use mathlib.Core.List.{List, [], ◌∷◌}
use Prim.Native.Nat.{ℕ, zero, suc, ◌≤◌, ◌<◌}
use native.Mathlib.Omega.{arith}
use lib.Dec.{ltb}
use lib.ListN.{get_or}
use borrow.Author.Tests.{ltb-false, lt-ltb}
use Rattle.std.specs.Prelude.{◌+◌, length, Option, Some, None, cond}
use Rattle.std.specs.List.{position_or_len}
use Rattle.notions.specs.Choice.{pick}
use Rattle.notions.specs.First.{first}
use Rattle.notions.proofs.First.{first_most, first_least, first_is, first_none}
use Rattle.notions.proofs.Tests.{cases}
use Rattle.layout.specs.declared.Layout.{Layout}
use Rattle.layout.specs.Regions.{within}
use Rattle.steps.specs.declared.Step.{Step}
use Rattle.rules.specs.declared.Monitor.{Monitor}
use Rattle.rules.specs.declared.Broken.{Broken}
use Rattle.rules.specs.Rules.{writable, rule6, rule15, broken, in_order, numbered, rule_numbers, lowest, cause}

-- rule 6: PC in CR, CPU writes where it may not
none_of_three : (a b c : Bool) → (not a && not b && not c) ≡ not (a || b || c)
none_of_three true b c = refl
none_of_three false true c = refl
none_of_three false false c = refl

pub rule_6 : (l : Layout) (s : Step)
    → rule6 l s ≡ (within l.cr s.pc && s.cpuwrites && not (writable l s.cpuaddress))
rule_6 l s =
    ap (λ (t : Bool). within l.cr s.pc && s.cpuwrites && t)
    (none_of_three (within l.xs s.cpuaddress) (within l.mr s.cpuaddress) (within l.ctr s.cpuaddress))

-- held and PC not 0: cause 15, whatever else applies
pub held_away : (l : Layout) (m : Monitor) (s : Step) → rule15 m s ≡ true → cause l m s ≡ 15
unfolding cause
held_away l m s e = simp e

-- the search behind `lowest`: found, or none
found_or_none : (b : Broken) → (n : ℕ) → first rule_numbers (numbered b) ≡ n → n < rule_numbers → lowest b ≡ n
found_or_none b n e h = simp (e, lt-ltb n rule_numbers h)

-- asked in turn, the first rule that is broken has the lowest number
pub lowest_in_turn : (r1 r2 r3 r4 r5 r6 r7 r8 r9 r10 : Bool)
    → pick r1 1 (pick r2 2 (pick r3 3 (pick r4 4 (pick r5 5 (pick r6 6 (pick r7 7 (pick r8 8 (pick r9 9 (pick r10 10 0)))))))))
    ≡ lowest (record { r1 = r1; r2 = r2; r3 = r3; r4 = r4; r5 = r5; r6 = r6; r7 = r7; r8 = r8; r9 = r9; r10 = r10 })
unfolding first
lowest_in_turn true r2 r3 r4 r5 r6 r7 r8 r9 r10 = refl
lowest_in_turn false true r3 r4 r5 r6 r7 r8 r9 r10 = refl
lowest_in_turn false false true r4 r5 r6 r7 r8 r9 r10 = refl
lowest_in_turn false false false true r5 r6 r7 r8 r9 r10 = refl
lowest_in_turn false false false false true r6 r7 r8 r9 r10 = refl
lowest_in_turn false false false false false true r7 r8 r9 r10 = refl
lowest_in_turn false false false false false false true r8 r9 r10 = refl
lowest_in_turn false false false false false false false true r9 r10 = refl
lowest_in_turn false false false false false false false false true r10 = refl
lowest_in_turn false false false false false false false false false true = refl
lowest_in_turn false false false false false false false false false false = refl

-- a rule's number by its place among them; no place is number 0
abbrev pub number_at : Option ℕ → ℕ
number_at None = 0
number_at (Some k) = k + 1

-- the first place where a rule is broken
abbrev pub first_place : List Bool → Option ℕ
first_place l = cond (ltb (position_or_len (λ x. x) l) (length l)) (Some (position_or_len (λ x. x) l)) None

placed : (r1 r2 r3 r4 r5 r6 r7 r8 r9 r10 : Bool)
    → number_at (first_place (r1 ∷ r2 ∷ r3 ∷ r4 ∷ r5 ∷ r6 ∷ r7 ∷ r8 ∷ r9 ∷ r10 ∷ []))
    ≡ lowest (record { r1 = r1; r2 = r2; r3 = r3; r4 = r4; r5 = r5; r6 = r6; r7 = r7; r8 = r8; r9 = r9; r10 = r10 })
unfolding first
placed true r2 r3 r4 r5 r6 r7 r8 r9 r10 = refl
placed false true r3 r4 r5 r6 r7 r8 r9 r10 = refl
placed false false true r4 r5 r6 r7 r8 r9 r10 = refl
placed false false false true r5 r6 r7 r8 r9 r10 = refl
placed false false false false true r6 r7 r8 r9 r10 = refl
placed false false false false false true r7 r8 r9 r10 = refl
placed false false false false false false true r8 r9 r10 = refl
placed false false false false false false false true r9 r10 = refl
placed false false false false false false false false true r10 = refl
placed false false false false false false false false false true = refl
placed false false false false false false false false false false = refl

-- the first rule that is broken has the lowest number
pub lowest_at : (b : Broken) → number_at (first_place (in_order b)) ≡ lowest b
lowest_at b = placed b.r1 b.r2 b.r3 b.r4 b.r5 b.r6 b.r7 b.r8 b.r9 b.r10

-- number 0 is no rule
found_above : (b : Broken) → 0 < first rule_numbers (numbered b)
unfolding first
found_above b = omega arith

lowest_none : (b : Broken) → lowest b ≡ 0 → first rule_numbers (numbered b) ≡ rule_numbers
lowest_none b e =
    cases (ltb (first rule_numbers (numbered b)) rule_numbers)
    (λ h. absurd (let z : first rule_numbers (numbered b) ≡ 0 = simp h at e in omega (arith, found_above b)))
    (λ h. let g = ltb-false (first rule_numbers (numbered b)) rule_numbers h in omega
    (arith, first_most rule_numbers (numbered b)))

lowest_quiet : (b : Broken) → lowest b ≡ 0 → (k : ℕ) → k < rule_numbers → numbered b k ≡ false
lowest_quiet b e k h = first_least rule_numbers (numbered b) k (omega (arith, lowest_none b e))

quiet_lowest : (b : Broken) → ((k : ℕ) → k < rule_numbers → numbered b k ≡ false) → lowest b ≡ 0
quiet_lowest b f = simp (first_none rule_numbers (numbered b) f)

past : (t : Bool) (n : ℕ) → pick t 15 n ≡ 0 → (t ≡ false) × (n ≡ 0)
past true n e = absurd (omega (arith, e))
past false n e = (refl, e)

-- no cause: the step is not held away from PC 0, and no rule that is tried applies
pub unheld : (l : Layout) (m : Monitor) (s : Step) → cause l m s ≡ 0 → rule15 m s ≡ false
unfolding cause
unheld l m s e = (past (rule15 m s) (lowest (broken l m s)) e).0

pub quiet : (l : Layout) (m : Monitor) (s : Step) → cause l m s ≡ 0 → (k : ℕ) → k < rule_numbers
    → numbered (broken l m s) k ≡ false
unfolding cause
quiet l m s e = lowest_quiet (broken l m s) (past (rule15 m s) (lowest (broken l m s)) e).1

-- and the other way round
pub quiet_passes : (l : Layout) (m : Monitor) (s : Step) → rule15 m s ≡ false
    → ((k : ℕ) → k < rule_numbers → numbered (broken l m s) k ≡ false) → cause l m s ≡ 0
unfolding cause
quiet_passes l m s e f = simp (e, quiet_lowest (broken l m s) f)

-- none of the ten that are tried applies: one after another, by number from 1 on
pub record NoneHolds (ts : List Bool) : Type 0 where
  pub each : (k : ℕ) → get_or ts k false ≡ false

pub no_more : NoneHolds []
no_more = record { each = λ k. refl }

nor_each : (t : Bool) (ts : List Bool) → t ≡ false → NoneHolds ts → (k : ℕ) → get_or (t ∷ ts) k false ≡ false
nor_each t ts e u zero = e
nor_each t ts e u (suc k) = u.each k

pub nor : {t : Bool} {ts : List Bool} → t ≡ false → NoneHolds ts → NoneHolds (t ∷ ts)
nor {t} {ts} e u = record { each = nor_each t ts e u }

abbrev pub Unbroken : Layout → Monitor → Step → Type 0
Unbroken l m s = NoneHolds (in_order (broken l m s))

unbroken_quiet : (l : Layout) (m : Monitor) (s : Step) → Unbroken l m s → (k : ℕ) → numbered (broken l m s) k ≡ false
unbroken_quiet l m s u = (nor refl u).each

pub unbroken_lowest : (l : Layout) (m : Monitor) (s : Step) → Unbroken l m s → lowest (broken l m s) ≡ 0
unbroken_lowest l m s u = quiet_lowest (broken l m s) (λ k h. unbroken_quiet l m s u k)

-- then a step that is not held away from PC 0 has no cause
pub unbroken_passes : (l : Layout) (m : Monitor) (s : Step) → rule15 m s ≡ false → Unbroken l m s → cause l m s ≡ 0
unbroken_passes l m s e u = quiet_passes l m s e (λ k h. unbroken_quiet l m s u k)

-- the cause of a step that is not held away from PC 0 is the lowest number that applies
pub cause_lowest : (l : Layout) (m : Monitor) (s : Step) (k : ℕ) → rule15 m s ≡ false → k < rule_numbers
    → numbered (broken l m s) k ≡ true → ((j : ℕ) → j < k → numbered (broken l m s) j ≡ false) → cause l m s ≡ k
unfolding cause
cause_lowest l m s k e h t f =
    simp e (found_or_none (broken l m s) k (first_is rule_numbers (numbered (broken l m s)) k h f t) h)

-- no cause is over 15
pub cause_most : (l : Layout) (m : Monitor) (s : Step) → cause l m s ≤ 15
unfolding cause
cause_most l m s =
    let b = broken l m s in
    cases (rule15 m s) (λ e. simp e (omega arith))
    (λ e.
    cases (ltb (first rule_numbers (numbered b)) rule_numbers)
    (λ g. simp (e, g) (omega (arith, first_most rule_numbers (numbered b))))
    (λ g. simp (e, g) (omega arith)))
