-- From the front on there is room for as many as the buffer is long.
use Prim.Native.Nat.{◌-◌}
use mathlib.Core.Path.{◌≡◌}
use native.Mathlib.Omega.{arith}
use lib.ListN.{length}
use borrow.Author.Rules.{rules}
use Rattle.row_lines.proofs.words.put_values.Statement.{statement}
use Rattle.row_lines.proofs.words.put_values.Tie as tie

returns : tie.Need-returns
returns c =
    let all : length c.args.values.now - 0 ≡ length c.args.values.now = omega arith in
    rw all at c.put_at.ensures

pub put_values_spec : {M : Type 1} → statement M
put_values_spec = tie.close (tie.spec (λ c κs. search rules) (λ c. search rules) returns)
