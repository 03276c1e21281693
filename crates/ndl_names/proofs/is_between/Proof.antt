-- `is_between` meets its contract: the second test decides where the first holds. Assumes nothing.
use mathlib.Core.Path.{refl}
use borrow.Author.Tests.{le-leb, lt-leb}
use Rattle.ndl_names.proofs.is_between.Statement.{statement}
use Rattle.ndl_names.proofs.is_between.Tie as tie

returns : tie.Need-returns-then-low-b
returns c = let a = c.args in rw (le-leb a.low a.b c.if-low-b.true) refl

returns-2 : tie.Need-returns-else-low-b
returns-2 c = let a = c.args in rw (lt-leb a.low a.b c.if-low-b.false) refl

pub is_between_spec : {M : Type 1} → statement M
is_between_spec = tie.close (tie.spec returns returns-2)
