-- `frames::framed_one` meets its contract. Assumes nothing.
use Rattle.frames.proofs.Walk.{found_short, found_cut, found_part, found_whole}
use Rattle.frames.proofs.framed_one.Goals as goal

pub returns-then-left-lt-LENGTH_BYTES : goal.returns-then-left-lt-LENGTH_BYTES
returns-then-left-lt-LENGTH_BYTES c =
    let a = c.args in
    found_short a.wanted a.used a.at a.bytes.now c.if-left-lt-LENGTH_BYTES.true

pub returns-then-allows-used : goal.returns-then-allows-used
returns-then-allows-used c =
    let a = c.args in
    let size = c.size_at-size in
    let allows = c.allows in
    found_cut a.wanted a.used a.at size.result allows.result a.bytes.now
    size.ensures allows.ensures c.requires.1 c.if-left-lt-LENGTH_BYTES.false c.if-allows-used.true

pub returns-then-left-size : goal.returns-then-left-size
returns-then-left-size c =
    let a = c.args in
    let size = c.size_at-size in
    let allows = c.allows in
    found_part a.wanted a.used a.at size.result allows.result a.bytes.now
    size.ensures allows.ensures c.requires.1
    c.if-left-lt-LENGTH_BYTES.false c.if-allows-used.false c.if-left-size.true

pub returns : goal.returns
returns c =
    let a = c.args in
    let size = c.size_at-size in
    let allows = c.allows in
    found_whole a.wanted a.used a.at size.result allows.result a.bytes.now
    size.ensures allows.ensures c.requires.1
    c.if-left-lt-LENGTH_BYTES.false c.if-allows-used.false c.if-left-size.false
