-- Two kinds of steps that break no rule, as this crate's own functions tell them; no other crate needs it. Assumes nothing.
use Rattle.std.specs.Prelude.{Bool, not, ◌&&◌, ◌||◌, ℕ, eqb}
use Rattle.layout.specs.declared.Layout.{Layout}
use Rattle.layout.specs.Regions.{within}
use Rattle.steps.specs.declared.Step.{Step}
use Rattle.rules.specs.declared.Monitor.{Monitor}
use Rattle.rules.specs.Rules.{writable}

-- an address is in KR, XS or CTR, which rules guard against accesses from outside CR
abbrev pub guarded : Layout → ℕ → Bool
guarded l a = within l.kr a || within l.xs a || within l.ctr a

-- PC or the last PC is in CR, or an access is where a rule guards
abbrev pub near : Layout → Monitor → Step → Bool
near l m s =
    within l.cr s.pc || within l.cr m.lastpc || guarded l s.cpuaddress || guarded l s.dmaaddress

-- neither: CR is neither entered nor left, and no access is in a region that a rule guards
abbrev pub apart : Layout → Monitor → Step → Bool
apart l m s = not (near l m s)

-- PC in CR as the rules allow: it came from CR or enters at the lowest address, nothing interrupts, the DMA rests, and a write is
-- where the attestation code may write
abbrev pub visits : Layout → Monitor → Step → Bool
visits l m s =
    within l.cr s.pc
    && (within l.cr m.lastpc || eqb s.pc l.cr.lo)
    && not (s.interrupt || s.dmaactive)
    && (not s.cpuwrites || writable l s.cpuaddress)
