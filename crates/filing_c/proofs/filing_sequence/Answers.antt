-- `filing_sequence` hands back the numbers of the case that `file_sequence` answers, and that case is the decision's.
use Rattle.filing_c.proofs.Reporting.{sorted_answers, sorted_refuses}
use Rattle.filing_c.proofs.filing_sequence.Goals as goal

pub returns-in-Ok : goal.returns-in-Ok
returns-in-Ok c =
    let t = sorted_answers c.args.words.now c.in-Ok.is c.file_sequence.ensures in
    record { value = t.0; table_after = t.1.0; words_after = t.1.1.0; place_after = t.1.1.1 }

pub returns-in-Err : goal.returns-in-Err
returns-in-Err c =
    let t = sorted_refuses c.args.words.now c.in-Err.is c.file_sequence.ensures in
    record { value = t.0; table_after = t.1.0; words_after = t.1.1.0; place_after = t.1.1.1 }
