-- `hex_text::put_digits` meets its contract. Assumes nothing.
use mathlib.Core.Path.{sym}
use native.Mathlib.Omega.{arith}
use Rattle.hex_text.proofs.Writing.{digits_laid}
use Rattle.hex_text.proofs.put_digits.Goals as goal

pub returns : goal.returns
returns c =
    let a = c.args in
    let h = c.hex-k in
    rw (sym c.from.ensures)
    (digits_laid a.out.now _ _ a.at _ h.result (omega (arith, c.from.ensures)) h.ensures.len h.ensures.digits c.store.ensures)
