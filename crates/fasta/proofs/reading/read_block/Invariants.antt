-- The bytes that were passed are read.
use Rattle.std.proofs.Common.{◌≡◌, ◌≤◌, length, take}
use Rattle.fasta.specs.Steps.{State, steps, Holds}
use Rattle.fasta.proofs.reading.read_block.Given as goal

abbrev pub invariant-loop-byte : goal.invariant-loop-byte
invariant-loop-byte l =
    record {
      filled : l.now.filled ≤ length l.initial.bases;
      holds : (s : State) → Holds s l.initial.bases l.initial.table l.initial.now → Holds (steps l.letters s (take l.byte-index l.bytes)) l.bases l.table l.now;
    }
