-- Each way out is the definition's.
use Rattle.std.proofs.lemmas.Result.{err_from_is_err_and}
use Rattle.filing.proofs.Deciding.{sequence_refused, sequence_over, table-other, sequence_stopped, sequence_filed}
use Rattle.filing.proofs.file_sequence.Goals as goal

pub returns-in_err-check_letters : goal.returns-in_err-check_letters
returns-in_err-check_letters c =
    let a = c.args in
    let p = err_from_is_err_and c.from_residual.result c.from_residual.ensures.1 in
    rw (p.1, p.2)
    (sequence_refused a.sequence.now a.letters a.table.now c.in_err-check_letters.ensures.refusal.0 c.in_err-check_letters.ensures.refusal.1)

pub returns-then-sequence-gt65535 : goal.returns-then-sequence-gt65535
returns-then-sequence-gt65535 c =
    let a = c.args in
    let n = c.in_ok-check_letters.ensures.fits in
    rw c.at.ensures (sequence_over a.sequence.now a.letters a.table.now n.0 n.1 c.if-sequence-gt65535.true)

pub returns-then-table-ne33 : goal.returns-then-table-ne33
returns-then-table-ne33 c =
    let a = c.args in
    let n = c.in_ok-check_letters.ensures.fits in
    rw c.at-then-table-ne33.ensures (table-other a.sequence.now a.letters a.table.now n.0 n.1 c.if-sequence-gt65535.false c.if-table-ne33.true)

pub returns-in_err-check_bases : goal.returns-in_err-check_bases
returns-in_err-check_bases c =
    let a = c.args in
    let n = c.in_ok-check_letters.ensures.fits in
    let p = err_from_is_err_and c.from_residual-in_err-check_bases.result c.from_residual-in_err-check_bases.ensures.1 in
    rw (p.1, p.2)
    (sequence_stopped a.sequence.now a.letters a.table.now n.0 n.1 c.if-sequence-gt65535.false c.if-table-ne33.false
    c.in_err-check_bases.ensures.refusal.0 c.in_err-check_bases.ensures.refusal.1)

pub returns : goal.returns
returns c =
    let a = c.args in
    let n = c.in_ok-check_letters.ensures.fits in
    sequence_filed a.sequence.now a.letters a.table.now n.0 n.1 c.if-sequence-gt65535.false
    c.if-table-ne33.false _ _ c.in_ok-check_bases.ensures.all c.fill.ensures.0 c.fill.ensures.1
