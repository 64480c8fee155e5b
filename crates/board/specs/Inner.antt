-- What the contracts of this crate's own functions say; no other crate needs it. Assumes nothing.
use Rattle.std.specs.Prelude.{◌≡◌, ◌*◌, ◌≤◌}
use Rattle.layout.specs.declared.Layout.{Layout}
use Rattle.layout.specs.Regions.{size}
use Rattle.routine.specs.Routine.{key_bytes, string_bytes}

-- the sizes that the page asks of these regions, as every layout that passes the check has them
pub record Sized (l : Layout) : Type 0 where
  pub key : size l.kr ≡ key_bytes
  pub mailbox : 3 * string_bytes ≤ size l.mr
  pub counter : size l.ctr ≡ string_bytes
  pub region : 1 ≤ size l.ar
