-- Each return cites the fact about the bytes that led there.
use Rattle.std.proofs.Common.{ap, sym, ⊎_elim, arith}
use Rattle.read_parts.specs.Steps.{number_read}
use Rattle.read_parts.proofs.Bytes.{no_byte, one_byte, cut_off, second-zero, second-high, second-good}
use Rattle.read_parts.proofs.number.read_number.Goals as goal

pub returns-then-bytes-at : goal.returns-then-bytes-at
returns-then-bytes-at c =
    let a = c.args in
    rw c.at.ensures (ap number_read (sym (no_byte a.bytes.now a.at c.if-bytes-at.true)))

pub returns-then-first-lt128 : goal.returns-then-first-lt128
returns-then-first-lt128 c =
    let a = c.args in
    ap number_read (sym (one_byte a.bytes.now a.at c.if-bytes-at.false c.if-first-lt128.true))

pub returns-then-bytes-at-2 : goal.returns-then-bytes-at-2
returns-then-bytes-at-2 c =
    let a = c.args in
    rw c.at-then-bytes-at-2.ensures
    (ap number_read
    (sym (cut_off a.bytes.now a.at c.if-bytes-at.false c.if-first-lt128.false c.if-bytes-at-2.true)))

pub returns-then-second-eq0 : goal.returns-then-second-eq0
returns-then-second-eq0 c =
    let a = c.args in
    let two = c.if-bytes-at-2.false in
    let high = c.if-first-lt128.false in
    rw c.at-then-second-eq0.ensures
    (ap number_read
    (sym
    (⊎_elim
    (λ w. second-zero a.bytes.now a.at two high w)
    (λ w. second-high a.bytes.now a.at two high w.0 w.1)
    c.then-second-eq0.either)))

pub returns : goal.returns
returns c =
    let a = c.args in
    ap number_read
    (sym
    (second-good a.bytes.now a.at c.if-bytes-at-2.false c.if-first-lt128.false c.if-second-eq0.false (omega arith)))
