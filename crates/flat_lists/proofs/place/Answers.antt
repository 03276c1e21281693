-- The walk in lists of these lengths. Assumes nothing.
use Rattle.std.proofs.Common.{arith}
use Rattle.flat_lists.proofs.place.Goals as goal

pub returns : goal.returns
returns g c p =
    c.place_in.ensures (record { here = p.here; few = p.few; enough = omega (arith, p.enough); long = omega (arith, p.long) })
