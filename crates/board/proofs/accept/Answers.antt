-- `board::accept` meets its contract. Assumes nothing.
use mathlib.Core.Path.{refl, sym, ap, ◌∙◌}
use native.Mathlib.Omega.{arith}
use Prim.Native.Nat.{◌+◌}
use lib.ListN.{length}
use Rattle.board.proofs.Laws.{length_bytes_lem}
use Rattle.board.proofs.Attests.{accepts, replied_to, given_reply}
use Rattle.board.proofs.accept.Goals as goal

pub slice_bounds-store-end-4 : goal.slice_bounds-store-end-4
slice_bounds-store-end-4 c =
    let z = c.args in
    let h = c.requires.0.mailbox in
    sym (ap length c.string.ensures ∙ length_bytes_lem z.l.mr.lo 32 z.memory.now (omega (arith, h, c.told-memory)))

pub returns : goal.returns
returns c =
    let z = c.args in
    let m = z.memory.now in
    let h = c.requires.0.mailbox in
    let t = ap length c.string-received.ensures
    ∙ length_bytes_lem (z.l.mr.lo + 32) 32 m (omega (arith, h, c.told-memory)) in
    let g = c.part-region.ensures in
    let e = replied_to z.l m c.part-key.result.now c.string-received.result.now z.l.mr.lo c.requires.0
    c.part-key.ensures.1 t refl c.part-key.ensures.0 c.string-received.ensures
    c.part-region.result.now c.reply_to.result g.1 g.2 g.0 c.reply_to.ensures in
    accepts z.l m _ _ _ _ _ _ c.requires.1 refl refl c.string.ensures
    (given_reply c.reply_to.result e c.unwrap-due.ensures) c.store.ensures c.store-2.ensures
