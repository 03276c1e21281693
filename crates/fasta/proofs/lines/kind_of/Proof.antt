-- The two line ends first, then what the line makes of the byte.
use Rattle.std.proofs.Common.{rules, ne_eqb}
use Rattle.fasta.proofs.lines.kind_of.Statement.{statement}
use Rattle.fasta.proofs.lines.kind_of.Tie as tie

returns : tie.Need-returns-in-10
returns c = rw c.in-10.is

returns-2 : tie.Need-returns-in-13
returns-2 c = rw c.in-13.is

returns-3 : tie.Need-returns-in_default
returns-3 c =
    let byte = c.args.byte in
    let others = c.in_default.in_default-own.rest in
    rw (ne_eqb byte 10 others.0.1, ne_eqb byte 13 others.1) c.kind_in.ensures

pub kind_of_spec : {M : Type 1} → statement M
kind_of_spec = tie.close (tie.spec (λ c κs. search rules) returns returns-2 returns-3)
