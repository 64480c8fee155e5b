-- One step of a trace and the 12 bytes that tell it. Assumes nothing.
use Rattle.std.specs.Prelude.{◌≡◌, Bool, ◌&&◌, List, [], ◌∷◌, ℕ, ◌+◌, ◌/◌, ◌%◌, ◌^◌, ◌<◌, eqb, ltb, get_or}
use Rattle.notions.specs.Choice.{pick}
use Rattle.octets.specs.Numbers.{number_of_two}
use Rattle.steps.specs.declared.Step.{Step}

-- bit k of a byte is set
abbrev pub bit : ℕ → ℕ → Bool
bit k x = eqb (x / 2 ^ k % 2) 1

-- PC, CPU address, DMA address, flags, CPU data, DMA data
unfoldable pub step_of : List ℕ → Step
step_of b = record {
  pc = number_of_two (get_or b 0 0) (get_or b 1 0);
  cpuaddress = number_of_two (get_or b 2 0) (get_or b 3 0);
  dmaaddress = number_of_two (get_or b 4 0) (get_or b 5 0);
  cpureads = bit 0 (get_or b 6 0);
  cpuwrites = bit 1 (get_or b 6 0);
  interrupt = bit 2 (get_or b 6 0);
  dmaactive = bit 3 (get_or b 6 0);
  dmawrites = bit 4 (get_or b 6 0);
  cpudata = get_or b 7 0;
  dmadata = get_or b 8 0;
}

-- bits 5 to 7 of the flags and the last three bytes are zero
abbrev pub clean : List ℕ → Bool
clean b = ltb (get_or b 6 0) 32 && eqb (get_or b 9 0) 0 && eqb (get_or b 10 0) 0 && eqb (get_or b 11 0) 0

-- the flags' byte, from bit 0 on
abbrev pub flags : Step → ℕ
flags s =
    pick s.cpureads 1 0 + pick s.cpuwrites 2 0 + pick s.interrupt 4 0 + pick s.dmaactive 8 0
    + pick s.dmawrites 16 0

-- the 12 bytes that a step stands for
unfoldable pub encode : Step → List ℕ
encode s =
    s.pc % 256 ∷ s.pc / 256 % 256
    ∷ s.cpuaddress % 256 ∷ s.cpuaddress / 256 % 256
    ∷ s.dmaaddress % 256 ∷ s.dmaaddress / 256 % 256
    ∷ flags s ∷ s.cpudata ∷ s.dmadata ∷ 0 ∷ 0 ∷ 0 ∷ []

-- its addresses have two bytes each
pub record Addressed (s : Step) : Type 0 where
  pub pc : s.pc < 65536
  pub cpuaddress : s.cpuaddress < 65536
  pub dmaaddress : s.dmaaddress < 65536

-- then these bytes tell it
abbrev pub TellsStep : Type 0
TellsStep = (s : Step) → Addressed s → step_of (encode s) ≡ s
