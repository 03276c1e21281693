-- Behind a refusal nothing changes, else the record is filed.
use Rattle.std.proofs.lemmas.Result.{err_from_is_err_and}
use Rattle.fasta.proofs.Filing.{after-counted, after-refused}
use Rattle.fasta.proofs.records.close_record.Goals as goal

pub returns-in_err-tally : goal.returns-in_err-tally
returns-in_err-tally c s k =
    let p = err_from_is_err_and c.from_residual.result c.from_residual.ensures.1 in
    rw (p.1, p.2) (after-refused c.args.letters c.args.bases.now s k c.in_err-tally.was)

pub returns : goal.returns
returns c s k = after-counted c.args.letters c.args.bases.now s k c.in_ok-tally.was c.file_record.ensures
