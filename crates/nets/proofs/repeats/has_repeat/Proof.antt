-- `nets::repeats::has_repeat` meets its contract. Assumes nothing.
use Rattle.std.proofs.Common.{sym, rules}
use Rattle.nets.proofs.repeats.has_repeat.Statement.{statement}
use Rattle.nets.proofs.repeats.has_repeat.Tie as tie

returns : tie.Need-returns-then-ascends
returns c = sym (c.ascends.ensures c.if-ascends.true)

pub has_repeat_spec : {M : Type 1} → statement M
has_repeat_spec = tie.close (tie.spec (λ c κs. search rules) returns (λ c κs. search rules) (λ c. search rules))
