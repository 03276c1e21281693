-- `filing_word` hands back the numbers of the case that `file_word` answers, and that case is the decision's.
use Rattle.meaning.specs.Filing.{filing_word}
use Rattle.filing_c.proofs.Reporting.{placed-answers, placed-refuses}
use Rattle.filing_c.proofs.filing_word.Goals as goal

pub returns-in-Ok : goal.returns-in-Ok
returns-in-Ok c =
    let t = placed-answers (filing_word c.args.word.now) c.args.shelf.now c.in-Ok.is c.file_word.ensures in
    record { value = t.0; shelf_after = t.1.0; place_after = t.1.1 }

pub returns-in-Err : goal.returns-in-Err
returns-in-Err c =
    let t = placed-refuses (filing_word c.args.word.now) c.args.shelf.now c.in-Err.is c.file_word.ensures in
    record { value = t.0; shelf_after = t.1.0; place_after = t.1.1 }
