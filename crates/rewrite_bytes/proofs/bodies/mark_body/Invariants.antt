use Rattle.std.proofs.Common.{◌-◌, List, length}
use Rattle.meaning.specs.Syntax.{Occurrence}
use Rattle.rewrite_bytes.specs.Bodies.{Markable}
use Rattle.rewrite_bytes.proofs.Marking.{Ahead, Marking}
use Rattle.rewrite_bytes.proofs.bodies.mark_body.Given as goal

-- What is marked and what the occurrences ahead have are all.
abbrev pub invariant-loop : goal.invariant-loop
invariant-loop l =
    (s : Markable l.numbers l.place l.count (length l.fn.table))
    → (rest : List Occurrence) × Ahead l.numbers l.at (l.count - l.counter) rest × Marking s.os l.fn.table l.stamp rest l.table
