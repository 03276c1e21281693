-- The answer of `filing` is taken into the sums.
use Rattle.meaning.specs.Filing.{filing_sequence}
use Rattle.fasta.proofs.Filing.{filed-words, filed-refused}
use Rattle.fasta.proofs.records.file_record.Goals as goal

pub returns-in-Ok : goal.returns-in-Ok
returns-in-Ok c before held sums records-are words_are table_is =
    let s = c.args in
    filed-words before held sums records-are words_are table_is (filing_sequence s.bases.now s.letters 33) c.file_sequence.ensures
    c.in-Ok.is c.add_counts.ensures c.wrapping_add_u64.ensures.value c.wide.ensures c.wrapping_add_u64-in-Ok.ensures.value

pub returns-in-Err : goal.returns-in-Err
returns-in-Err c before held sums records-are words_are table_is =
    let s = c.args in
    filed-refused before held sums records-are words_are table_is (filing_sequence s.bases.now s.letters 33) c.file_sequence.ensures c.in-Err.is
