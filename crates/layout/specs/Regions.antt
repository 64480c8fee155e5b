-- A region of the board's memory. Assumes nothing.
use Rattle.std.specs.Prelude.{Bool, not, ◌&&◌, ℕ, ◌+◌, ◌-◌, leb, ltb}
use Rattle.layout.specs.declared.Region.{Region}

-- the address is in the region: both ends are included
abbrev pub within : Region → ℕ → Bool
within r a = leb r.lo a && leb a r.hi

abbrev pub outside : Region → ℕ → Bool
outside r a = not (within r a)

-- the region's lowest address is above its highest
abbrev pub reversed : Region → Bool
reversed r = ltb r.hi r.lo

-- how many addresses it has
abbrev pub size : Region → ℕ
size r = r.hi + 1 - r.lo

-- two regions share an address; `shares_exactly` shows that this says so
abbrev pub shares : Region → Region → Bool
shares a b = leb a.lo b.hi && leb b.lo a.hi
