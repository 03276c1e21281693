use borrow.Author.Rules.{rules}
use native.Mathlib.Omega.{arith}
use Rattle.image.proofs.entry.Statement.{statement}
use Rattle.image.proofs.entry.Tie as tie

mul-result : tie.Need-offset_bounds-numbers-i
mul-result c = search rules

shared-slice-read-result : tie.Need-bounds-numbers-i
shared-slice-read-result c = search rules

cast-result : tie.Need-overflow_cast-result
cast-result c = omega (arith, c.shared_slice_known-1.given c.args.i)

returns : tie.Need-returns
returns c = search rules

pub entry_spec : {M : Type 1} → statement M
entry_spec = tie.close (tie.spec mul-result shared-slice-read-result cast-result returns)
