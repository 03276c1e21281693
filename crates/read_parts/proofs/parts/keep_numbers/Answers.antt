-- Each turn takes one step more.
use Rattle.std.proofs.Common.{arith, ◌-◌, ◌+◌, ◌≡◌}
use Rattle.read_parts.specs.Sound.{sound-number}
use Rattle.read_parts.specs.Ways.{handed_on}
use Rattle.read_parts.specs.Reached.{reached}
use Rattle.read_parts.specs.Turns.{turn-first, turn-refused, turn-next, turn_last}
use Rattle.read_parts.proofs.parts.keep_numbers.Goals as goal

pub loop-init : goal.loop-init
loop-init c =
    let all : c.args.count - 0 ≡ c.args.count = omega arith in
    rw all (turn-first c.requires)

pub keep_number-requires : goal.keep_number-requires
keep_number-requires c = c.loop.invariant.stands

pub returns-in_err-spot : goal.returns-in_err-spot
returns-in_err-spot c =
    rw (handed_on c.from_residual.ensures.1, ← c.in_err-spot.was)
    (turn-refused c.loop.invariant (omega arith) c.in_err-spot.was c.keep_number.ensures)

pub loop-preserved : goal.loop-preserved
loop-preserved c =
    let one : c.args.count - (c.loop.counter + 1) ≡ c.args.count - c.loop.counter - 1 = omega arith in
    rw one
    (turn-next c.loop.invariant (omega arith)
    (reached sound-number c.loop.invariant.stands c.in_ok-spot.was c.keep_number.ensures))

pub returns : goal.returns
returns c = turn_last c.loop.invariant (omega arith)
