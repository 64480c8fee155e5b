-- The laws of one step, for readers and for the crates above. Assumes nothing.
use mathlib.Core.Path.{◌≡◌, refl, ap, ◌∙◌}
use mathlib.Core.Logic.{◌⊎◌, inl, inr}
use mathlib.Core.Bool.{Bool, true, false, ◌&&◌}
use mathlib.Core.List.{List, [], ◌∷◌}
use Prim.Native.Nat.{ℕ, zero, suc}
use lib.Dec.{eqb}
use lib.ListN.{length, get_or, set, length-set}
use borrow.Author.Tests.{eqb-true}
use Rattle.notions.specs.Choice.{pick}
use Rattle.notions.proofs.Tests.{cases}
use Rattle.layout.specs.declared.Layout.{Layout}
use Rattle.steps.specs.declared.Step.{Step}
use Rattle.effects.specs.Effects.{exposing, is_reset, answer, lands, stored, storing, written}

-- the answer's cause is the step's
pub answer_cause : (l : Layout) (c : ℕ) (s : Step) (memory : List ℕ) → (answer l c s memory).cause ≡ c
unfolding answer exposing
answer_cause l c s memory =
    cases (eqb c 0) (λ e. simp e (simp (eqb-true c 0 e))) (λ e. simp e)

-- no step makes the memory longer or shorter
pick_long : (t : Bool) (a b : List ℕ) (n : ℕ) → length a ≡ n → length b ≡ n → length (pick t a b) ≡ n
pick_long true a b n e f = e
pick_long false a b n e f = f

length_stored : (l : Layout) (on : Bool) (a v : ℕ) (memory : List ℕ) → length (stored l on a v memory) ≡ length memory
unfolding stored
length_stored l on a v memory = pick_long (lands l on a) _ memory _ (length-set memory a v) refl

pub length_written : (l : Layout) (c : ℕ) (s : Step) (memory : List ℕ) → length (written l c s memory) ≡ length memory
unfolding written storing
length_written l c s memory = pick_long (is_reset c) memory _ _ refl (length_stored l _ _ _ _ ∙ length_stored l _ _ _ _)

set_byte : (memory : List ℕ) (a v k : ℕ)
    → (get_or (set memory a v) k 0 ≡ get_or memory k 0) ⊎ ((a ≡ k) × (get_or (set memory a v) k 0 ≡ v))
set_byte [] a v k = inl refl
set_byte (b ∷ memory) zero v zero = inr (refl, refl)
set_byte (b ∷ memory) zero v (suc k) = inl refl
set_byte (b ∷ memory) (suc a) v zero = inl refl
set_byte (b ∷ memory) (suc a) v (suc k) =
    elim (set_byte memory a v k) [
      | inl e ↦ inl e
      | inr e ↦ inr (ap suc e.0, e.1)
    ]

-- a store: the byte at address k stays, or it lands there and is the one stored
pub stored_byte : (l : Layout) (on : Bool) (a v : ℕ) (memory : List ℕ) (k : ℕ)
    → (get_or (stored l on a v memory) k 0 ≡ get_or memory k 0)
    ⊎ ((lands l on a ≡ true) × (a ≡ k) × (get_or (stored l on a v memory) k 0 ≡ v))
unfolding stored
stored_byte l on a v memory k =
    cases (lands l on a)
    (λ e. elim (set_byte memory a v k) [ inl q ↦ inl (simp e q) | inr q ↦ inr (e, q.0, simp e q.1) ])
    (λ e. inl (simp e))

-- a step that does not reset stores v to address k: `on` says that the access takes place, and a is its address
pub record Stores (l : Layout) (c : ℕ) (s : Step) (memory : List ℕ) (k : ℕ) (on : Bool) (a v : ℕ) : Type 0 where
  pub passes : is_reset c ≡ false
  pub lands : lands l on a ≡ true
  pub address : a ≡ k
  pub byte : get_or (written l c s memory) k 0 ≡ v

-- what a step leaves at address k: the byte from before, the CPU's or the DMA's
pub written_byte : (l : Layout) (c : ℕ) (s : Step) (memory : List ℕ) (k : ℕ)
    → (get_or (written l c s memory) k 0 ≡ get_or memory k 0)
    ⊎ Stores l c s memory k s.cpuwrites s.cpuaddress s.cpudata
    ⊎ Stores l c s memory k (s.dmaactive && s.dmawrites) s.dmaaddress s.dmadata
unfolding written storing
written_byte l c s memory k =
    cases (is_reset c) (λ e. inl (simp e))
    (λ e.
    let between = stored l s.cpuwrites s.cpuaddress s.cpudata memory in
    elim (stored_byte l (s.dmaactive && s.dmawrites) s.dmaaddress s.dmadata between k) [
      | inl d ↦
          elim (stored_byte l s.cpuwrites s.cpuaddress s.cpudata memory k) [
            | inl q ↦ inl (simp e (d ∙ q))
            | inr q ↦ inr (inl (record { passes = e; lands = q.0; address = q.1; byte = simp e (d ∙ q.2) }))
          ]
      | inr d ↦ inr (inr (record { passes = e; lands = d.0; address = d.1; byte = simp e d.2 }))
    ])
