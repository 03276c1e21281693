-- Each arm is the arm of the definition.
use Rattle.std.proofs.Common.{rules, eq-eqb, ne_eqb}
use Rattle.fasta.proofs.lines.kind_in.Statement.{statement}
use Rattle.fasta.proofs.lines.kind_in.Tie as tie

returns : tie.Need-returns-then-byte-eq62
returns c = rw (c.in-Fresh.is, eq-eqb c.args.byte 62 c.if-byte-eq62.true)

returns-2 : tie.Need-returns-else-byte-eq62
returns-2 c = rw (c.in-Fresh.is, ne_eqb c.args.byte 62 c.if-byte-eq62.false)

pub kind_in_spec : {M : Type 1} → statement M
kind_in_spec =
    tie.close
    (tie.spec (λ c. search rules) (λ c. search rules) (λ c. search rules) returns returns-2 (λ c. search rules) (λ c. search rules))
