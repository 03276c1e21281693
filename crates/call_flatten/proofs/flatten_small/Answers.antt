-- The room decides 21; the rest is the answer of the walk.
use native.Mathlib.Omega.{arith}
use Rattle.call_flatten.proofs.Asking.{asks-narrow, asks-on}
use Rattle.call_flatten.proofs.Measured.{few-small, small_placeable}
use Rattle.call_flatten.proofs.flatten_small.Goals as goal

pub returns-then-scratch-site : goal.returns-then-scratch-site
returns-then-scratch-site c s =
    asks-narrow s _ _ (omega (arith, few-small s c.requires.size_bound.0)) c.if-scratch-site.true

pub place-requires-clause-placeable : goal.place-requires-clause-placeable
place-requires-clause-placeable c = small_placeable c.requires.standing c.requires.size_bound.0 c.requires.size_bound.1

pub returns : goal.returns
returns c s =
    let small = c.requires.size_bound in
    asks-on s _ _ (omega (arith, few-small s small.0)) c.if-scratch-site.false (c.place.ensures (small_placeable s small.0 small.1))
