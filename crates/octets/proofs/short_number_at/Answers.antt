-- `octets::short_number_at` meets its contract. Assumes nothing.
use Rattle.std.proofs.Common.{refl, ap, ◌∙◌}
use native.Mathlib.Omega.{arith}
use Rattle.octets.proofs.Reading.{bytes_from, read_short, read_all}
use Rattle.octets.proofs.short_number_at.Goals as goal

pub returns-then-behind-k : goal.returns-then-behind-k
returns-then-behind-k c =
    let a = c.args in
    let behind = ap (λ x. x.now) c.unwrap_or-behind.ensures ∙ bytes_from a.bytes.now a.from _ _ c.get.ensures.lookup refl in
    read_short a.bytes.now _ a.from a.k _ behind (omega arith) c.short_number.ensures

pub returns : goal.returns
returns c =
    let a = c.args in
    let behind = ap (λ x. x.now) c.unwrap_or-behind.ensures ∙ bytes_from a.bytes.now a.from _ _ c.get.ensures.lookup refl in
    read_all a.bytes.now _ a.from a.k _ behind (omega arith) c.short_number-2.ensures
