-- A monitor as bytes, as the program `calls` takes it. Assumes nothing.
use Rattle.std.specs.Prelude.{not, List, ℕ, eqb, get_or}
use Rattle.octets.specs.Numbers.{number_of_two}
use Rattle.rules.specs.declared.Monitor.{Monitor}

-- a monitor: held if the first byte is not 0, and the last PC behind it
unfoldable pub monitor_of : List ℕ → Monitor
monitor_of b = record {
  held = not (eqb (get_or b 0 0) 0);
  lastpc = number_of_two (get_or b 1 0) (get_or b 2 0);
}
