use Rattle.std.proofs.Common.{◌-◌, length}
use Rattle.rewrite_bytes.specs.Bodies.{Roomy}
use Rattle.rewrite_bytes.proofs.Putting.{Sofar}
use Rattle.rewrite_bytes.proofs.bodies.put_body.Given as goal

-- What is laid and what the occurrences ahead come to make the whole.
abbrev pub invariant-loop : goal.invariant-loop
invariant-loop l =
    (s : Roomy l.numbers l.place l.count l.table l.stamp (length l.fn.out) l.to) → Sofar s.w l.fn.out l.to l.at (l.count - l.counter) l.from l.out l.end
