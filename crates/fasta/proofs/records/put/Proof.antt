-- With room the base is stored behind the others, without it nothing changes.
use Rattle.std.proofs.Common.{arith, rules}
use Rattle.fasta.proofs.Filling.{front-full, front-more}
use Rattle.fasta.proofs.records.put.Statement.{statement}
use Rattle.fasta.proofs.records.put.Tie as tie

returns : tie.Need-returns-then-filled-bases
returns c =
    let a = c.args in
    (omega arith, λ gene f. front-full gene a.bases.now a.byte a.filled f c.if-filled-bases.true)

returns-2 : tie.Need-returns
returns-2 c =
    let a = c.args in
    (omega arith, λ gene f. front-more gene a.bases.now a.byte a.filled f (omega arith))

pub put_spec : {M : Type 1} → statement M
put_spec =
    tie.close (tie.spec returns (λ c. search rules) (λ c. search rules) (λ c. search rules) returns-2)
