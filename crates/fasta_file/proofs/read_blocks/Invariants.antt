-- The buffers stay as long as they are, and the record's bases fit into theirs.
use Rattle.std.proofs.Common.{◌≡◌, ◌≤◌, length}
use Rattle.fasta_file.proofs.read_blocks.Given as goal

abbrev pub invariant-loop : goal.invariant-loop
invariant-loop g l =
    (l.reading.filled ≤ length l.bases) × (length l.bases ≡ length l.initial.bases) × (length l.table ≡ length l.initial.table)
