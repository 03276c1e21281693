-- What stands in the buffer is as good as the record; behind a refusal nothing changes.
use Rattle.std.proofs.Common.{take}
use Rattle.std.proofs.lemmas.Result.{err_from_is_err_and}
use Rattle.fasta.proofs.Filing.{after-counted, after-refused, closed-front}
use Rattle.fasta.proofs.reading.finish.Goals as goal

pub returns-in_err-reading : goal.returns-in_err-reading
returns-in_err-reading c s h =
    let a = c.args in
    let p = err_from_is_err_and c.from_residual.result c.from_residual.ensures.1 in
    rw (p.1, p.2)
    (closed-front a.letters s h.bases h.roomy
    (after-refused a.letters (take a.reading.filled a.bases.now) s.sums h.sums c.in_err-reading.was))

pub returns : goal.returns
returns c s h =
    let a = c.args in
    closed-front a.letters s h.bases h.roomy
    (after-counted a.letters (take a.reading.filled a.bases.now) s.sums h.sums c.in_ok-reading.was c.file_record.ensures)
