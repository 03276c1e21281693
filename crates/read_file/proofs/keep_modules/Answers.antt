-- Each turn notes where a module begins and reads it, and `Passing` holds at each.
use Rattle.read_parts.specs.Sound.{sound_module}
use Rattle.read_parts.specs.Ways.{handed_on}
use Rattle.read_parts.specs.Reached.{reached}
use Rattle.read_file.proofs.Modules.{passing-first, passing-next, passing-refused, passing-last}
use Rattle.read_file.proofs.keep_modules.Goals as goal

pub loop-i-init : goal.loop-i-init
loop-i-init c = passing-first c.requires.stands

pub returns-in_err-spot : goal.returns-in_err-spot
returns-in_err-spot c =
    rw (handed_on c.from_residual.ensures.1, ← c.in_err-spot.was)
    (passing-refused c.loop-i.invariant c.requires.fit c.loop-i-test.true c.in_err-spot.was c.keep_module.ensures)

pub loop-i-preserved : goal.loop-i-preserved
loop-i-preserved c =
    let inv = c.loop-i.invariant in
    passing-next inv c.requires.fit c.loop-i-test.true
    (reached sound_module inv.turning.stands c.in_ok-spot.was c.keep_module.ensures)

pub returns : goal.returns
returns c = passing-last c.loop-i.invariant c.loop-i-test.false
