-- `put_name` meets its contract: the gates' own names are lent. Assumes nothing.
use mathlib.Core.Path.{refl}
use borrow.Author.Rules.{rules}
use Rattle.meaning.specs.ListNumbers.{spelling}
use Rattle.print_names.proofs.Naming.{gate_table, named-by-table}
use Rattle.print_names.proofs.put_name.Statement.{statement}
use Rattle.print_names.proofs.put_name.Tie as tie

put-requires : tie.Need-put-requires
unfolding gate_table spelling
put-requires c κs =
    (refl, c.requires.0, rw (named-by-table c.args.number) c.requires.1)

returns : tie.Need-returns
unfolding gate_table spelling
returns c =
    rw (named-by-table c.args.number) at c.put.ensures

pub put_name_spec : {M : Type 1} → statement M
put_name_spec = tie.close (tie.spec put-requires (λ c. search rules) returns)
