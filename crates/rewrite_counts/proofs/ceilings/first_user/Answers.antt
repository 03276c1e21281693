-- A module that uses one of the four gates is the first one; where none does, none is ahead behind the last. Assumes nothing.
use Rattle.std.proofs.Common.{◌∙◌, refl, arith}
use Rattle.open_finding.specs.Here.{here-at}
use Rattle.rewrite_counts.proofs.Deciding.{user_here, no_user_here, no_user_left}
use Rattle.rewrite_counts.proofs.ceilings.first_user.Goals as goal

pub loop-k-init : goal.loop-k-init
loop-k-init c s = refl

pub returns-then-own-k-gt0 : goal.returns-then-own-k-gt0
returns-then-own-k-gt0 c s =
    let h = here-at s.ms c.loop-k.k (omega (arith, s.all)) in
    c.loop-k.invariant s ∙ user_here h (omega (arith, s.entry c.loop-k.k h.m h.later h.here))

pub loop-k-preserved : goal.loop-k-preserved
loop-k-preserved c s =
    let h = here-at s.ms c.loop-k.k (omega (arith, s.all)) in
    c.loop-k.invariant s ∙ no_user_here h (omega (arith, s.entry c.loop-k.k h.m h.later h.here))

pub returns : goal.returns
returns c s = c.loop-k.invariant s ∙ no_user_left s.ms _ (omega (arith, s.all))
