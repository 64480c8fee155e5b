-- What stands at a place of a trace, as the step reader answers it, and the place after it. Assumes nothing.
use Rattle.std.specs.Prelude.{List, [], ◌∷◌, ℕ, ◌+◌, leb, Option, Some, None, Result, Ok, Err}
use Rattle.notions.specs.Choice.{pick}
use Rattle.refusal.specs.Answers.{refusal_row}
use Rattle.refusal.specs.declared.Reason.{Reason}
use Rattle.refusal.specs.declared.Reason.TheVariants.{TraceSize, StepNotZero}
use Rattle.refusal.specs.declared.Refusal.{Refusal}
use Rattle.steps.specs.declared.Step.{Step}
use Rattle.traces.specs.Traces.{count, steps, misfits, unclean}

-- what is read: a step, the end, or refusal 7 or 9
abbrev pub Read : Type 0
Read = Result (Option Step) Refusal

-- the refusal for this reason at this place
abbrev pub refused_read : Reason → ℕ → Read
refused_read n p = Err (record { reason = n; place = p })

-- refusal 7 first, then the end, then refusal 9 with its place if the step there earns it, then that step
unfoldable pub read_at : List ℕ → ℕ → Read
read_at b p =
    pick (misfits b) (refused_read TraceSize 0)
    (pick (leb (count b) p) (Ok None)
    (pick (unclean b p) (refused_read StepNotZero p) (Ok (Some (steps b p)))))

-- only handing out a step moves the place, by one
abbrev pub place_after : Read → ℕ → ℕ
place_after (Ok (Some s)) p = p + 1
place_after (Ok None) p = p
place_after (Err r) p = p

-- a step in numbers: PC, CPU address, DMA address, the flag bits from 0 to 4, CPU data, DMA data
abbrev pub step_values : Step → List ℕ
step_values s =
    s.pc ∷ s.cpuaddress ∷ s.dmaaddress
    ∷ pick s.cpureads 1 0 ∷ pick s.cpuwrites 1 0 ∷ pick s.interrupt 1 0 ∷ pick s.dmaactive 1 0 ∷ pick
    s.dmawrites 1 0
    ∷ s.cpudata ∷ s.dmadata ∷ []

-- 0 and a step, 0 alone at the end, or the refusal's number and place
abbrev pub read_row : Read → List ℕ
read_row (Ok (Some s)) = 0 ∷ step_values s
read_row (Ok None) = 0 ∷ []
read_row (Err r) = refusal_row r
