-- The list of numbers by position says which number the file has there.
use Rattle.std.proofs.Common.{◌≤◌, length, drop_of_length-le, arith}
use Rattle.open_finding.specs.Here.{here-at}
use Rattle.open_finding.proofs.number_at.Goals as goal

pub returns-then-position-modules : goal.returns-then-position-modules
returns-then-position-modules c s =
    let inside = c.if-position-modules.true in
    let h = here-at s.ms c.args.position (omega (arith, s.all)) in
    rw (h.here, s.name c.args.position h.here)

pub returns-else-position-modules : goal.returns-else-position-modules
returns-else-position-modules c s =
    let outside = c.if-position-modules.false in
    let past : length s.ms ≤ c.args.position = omega (arith, s.all) in
    rw (drop_of_length-le s.ms past)
