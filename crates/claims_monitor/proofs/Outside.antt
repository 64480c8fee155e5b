-- The claims about steps with PC outside CR hold. Assumes nothing.
use mathlib.Core.Path.{◌≡◌, refl, sym, ◌∙◌}
use mathlib.Core.Bool.{Bool, true, false, not, ◌&&◌, ◌||◌, and-false}
use mathlib.Core.List.{List}
use Prim.Native.Nat.{ℕ}
use native.Mathlib.Omega.{arith}
use lib.Dec.{eqb}
use borrow.Author.Tests.{not-true}
use Rattle.notions.specs.First.{first}
use Rattle.notions.proofs.Tests.{cases, clash, neither}
use Rattle.layout.specs.declared.Layout.{Layout}
use Rattle.layout.specs.Regions.{within}
use Rattle.layout.specs.Layouts.{CR, KR, XS, CTR, layout_of}
use Rattle.layout.specs.Good.{Good}
use Rattle.layout.proofs.Laws.{elsewhere}
use Rattle.steps.specs.declared.Step.{Step}
use Rattle.rules.specs.declared.Monitor.{Monitor}
use Rattle.rules.specs.Rules.{cpu_reads_in, cpu_writes_in, dma_writes_in, rule2, rule15, cause}
use Rattle.rules.proofs.Laws.{quiet, no_more, nor, unbroken_passes}
use Rattle.effects.specs.Effects.{stored, storing, written}
use Rattle.claims_monitor.specs.Outside as claim
use Rattle.claims_monitor.specs.Outside.{LetsOut, Lawful, AccessesNothing, kr_or_xs, without_cpu_write, without_dma}
use Rattle.claims_monitor.specs.Traces.{cr_or_kr}
use Rattle.claims_monitor.proofs.Traces.{barred}

-- ---- which steps reset there

-- an access that is on is not in the region
module _ (on w : Bool) where
  off_if : (on && w) ≡ false → on ≡ true → not w ≡ true
  off_if e h = simp (simp h at e)

  if_off : (on ≡ true → not w ≡ true) → (on && w) ≡ false
  if_off f = cases on (λ h. simp (h, not-true w (f h))) (λ h. simp h)

-- one test for two accesses
either : (a b w : Bool) → (a && w || b && w) ≡ ((a || b) && w)
either true true w = cases w (λ e. simp e) (λ e. simp e)
either true false w = cases w (λ e. simp e) (λ e. simp e)
either false b w = refl

-- of two flags
both_off : (d e w : Bool) → (e && (d && w)) ≡ false → d ≡ true → e ≡ true → not w ≡ true
both_off d e w f h g = off_if d w (simp g at f) h

off_both : (d e w : Bool) → (d ≡ true → e ≡ true → not w ≡ true) → (e && (d && w)) ≡ false
off_both d e w f = if_off e (d && w) (λ g. simp (if_off d w (λ h. f h g)))

module _ (l : Layout) (m : Monitor) (s : Step) (o : within l.cr s.pc ≡ false) where
  lawful : cause l m s ≡ 0 → Lawful l s
  lawful e =
      let c = neither (cpu_writes_in l.ctr s) (dma_writes_in l.ctr s) (simp o at (quiet l m s e 10 (omega arith))) in
      let x = simp o at (quiet l m s e 5 (omega arith)) in
      record {
        key = off_if s.cpureads _ (simp o at (quiet l m s e 1 (omega arith)));
        scratch = off_if (s.cpureads || s.cpuwrites) _ (sym (either s.cpureads s.cpuwrites _) ∙ x);
        counter = off_if s.cpuwrites _ c.0;
        dma_key = off_if s.dmaactive _ (quiet l m s e 7 (omega arith));
        dma_scratch = off_if s.dmaactive _ (quiet l m s e 8 (omega arith));
        dma_counter = both_off s.dmaactive s.dmawrites _ c.1;
      }

  -- unless it is held away from PC 0, or CR is left where it may not be
  passes_if : rule15 m s ≡ false → (not m.held && rule2 l m s) ≡ false → Lawful l s → cause l m s ≡ 0
  passes_if h b f =
      let key : cpu_reads_in l.kr s ≡ false = if_off s.cpureads _ f.key in
      let scratch : (cpu_reads_in l.xs s || cpu_writes_in l.xs s) ≡ false =
      either s.cpureads s.cpuwrites _ ∙ if_off (s.cpureads || s.cpuwrites) _ f.scratch in
      let counter : cpu_writes_in l.ctr s ≡ false = if_off s.cpuwrites _ f.counter in
      let dma_counter : dma_writes_in l.ctr s ≡ false = off_both s.dmaactive s.dmawrites _ f.dma_counter in
      unbroken_passes l m s h
      (nor (simp (o, key))
      (nor b
      (nor (simp (o, and-false))
      (nor (simp (o, and-false))
      (nor (simp (o, scratch))
      (nor (simp (o, and-false))
      (nor (if_off s.dmaactive _ f.dma_key)
      (nor (if_off s.dmaactive _ f.dma_scratch)
      (nor (simp (o, and-false))
      (nor (simp (o, counter, dma_counter)) no_more))))))))))

-- CR is not left where it may not be
not_left : (l : Layout) (m : Monitor) → LetsOut l m
    → (within l.cr m.lastpc && not (eqb m.lastpc l.cr.hi)) ≡ false
not_left l m a =
    cases (within l.cr m.lastpc) (λ e. let h = simp e at a.last in simp (e, h)) (λ e. simp e)

passes : (l : Layout) (m : Monitor) (s : Step) → LetsOut l m → within l.cr s.pc ≡ false → Lawful l s
    → cause l m s ≡ 0
passes l m s a o = passes_if l m s o (simp a.unheld) (simp (not_left l m a, and-false))

pub outside : claim.Outside
outside l m s a p = let o = not-true (within l.cr s.pc) p in (lawful l m s o, passes l m s a o)

pub release_exact : claim.ReleaseExact
release_exact l m s h p z =
    let o : within l.cr s.pc ≡ false = rw p z in
    (lawful l m s o, passes_if l m s o (simp (p, and-false)) (simp h))

-- a step that accesses nothing is lawful
pub nothing_lawful : (l : Layout) (s : Step) → AccessesNothing s → Lawful l s
nothing_lawful l s n =
    record {
      key = λ e. clash s.cpureads e n.reads;
      scratch = λ e. clash (s.cpureads || s.cpuwrites) e (simp (n.reads, n.writes));
      counter = λ e. clash s.cpuwrites e n.writes;
      dma_key = λ e. clash s.dmaactive e n.idle;
      dma_scratch = λ e. clash s.dmaactive e n.idle;
      dma_counter = λ e f. clash s.dmaactive e n.idle;
    }

-- ---- fetches, and stores to ROM

-- which regions an address is not in, by one that it is in
module _ (layout : List ℕ) (good : Good layout) (a : ℕ) where
  abbrev l : Layout
  l = layout_of layout

  in_code : within l.cr a ≡ true
      → (within l.kr a ≡ false) × (within l.xs a ≡ false) × (within l.ctr a ≡ false)
  unfolding layout_of
  in_code e = (
    elsewhere good CR KR (omega arith) (omega arith) (λ q. omega arith) refl refl a e,
    elsewhere good CR XS (omega arith) (omega arith) (λ q. omega arith) refl refl a e,
    elsewhere good CR CTR (omega arith) (omega arith) (λ q. omega arith) refl refl a e,
  )

  in_key : within l.kr a ≡ true
      → (within l.cr a ≡ false) × (within l.xs a ≡ false) × (within l.ctr a ≡ false)
  unfolding layout_of
  in_key e = (
    elsewhere good KR CR (omega arith) (omega arith) (λ q. omega arith) refl refl a e,
    elsewhere good KR XS (omega arith) (omega arith) (λ q. omega arith) refl refl a e,
    elsewhere good KR CTR (omega arith) (omega arith) (λ q. omega arith) refl refl a e,
  )

  in_scratch : within l.xs a ≡ true → within l.cr a ≡ false
  unfolding layout_of
  in_scratch e = elsewhere good XS CR (omega arith) (omega arith) (λ q. omega arith) refl refl a e

  in_rom : cr_or_kr l a ≡ true → (within l.xs a ≡ false) × (within l.ctr a ≡ false)
  in_rom e =
      cases (within l.cr a) (λ c. let o = in_code c in (o.1, o.2))
      (λ c. let o = in_key (simp c at e) in (o.1, o.2))

  not_code : kr_or_xs l a ≡ true → within l.cr a ≡ false
  not_code e = cases (within l.kr a) (λ k. (in_key k).0) (λ k. in_scratch (simp k at e))

pub fetch_passes : claim.FetchPasses
fetch_passes layout m s good a i n =
    passes (layout_of layout) m s a (not_code layout good s.pc i) (nothing_lawful (layout_of layout) s n)

pub rom_store_ignored : claim.RomStoreIgnored
unfolding cause written storing stored
rom_store_ignored layout m s good p c =
    let l = layout_of layout in
    let q = not-true (within l.cr s.pc) p in
    let o = in_rom layout good s.cpuaddress c in
    let e : cause l m s ≡ cause l m (without_cpu_write s) = simp (q, o.0, o.1, and-false) in
    record { causes = e; memories = λ memory. simp (e, barred l s.cpuwrites s.cpuaddress c) }

pub rom_dma_ignored : claim.RomDmaIgnored
unfolding cause written storing stored
rom_dma_ignored layout m s good p c =
    let l = layout_of layout in
    let q = not-true (within l.cr s.pc) p in
    let o = in_code layout good s.dmaaddress c in
    let e : cause l m s ≡ cause l m (without_dma s) = simp (q, o.0, o.1, o.2, and-false) in
    record {
      causes = e;
      memories = λ memory. simp (e, barred l (s.dmaactive && s.dmawrites) s.dmaaddress (simp c));
    }

-- ---- a step for each

pub outside_witness : claim.OutsideWitness
unfolding first cause
outside_witness p = refl
