-- The values counted and those that are left are all.
use Rattle.std.proofs.Common.{◌≡◌, ◌+◌, ◌≤◌, length, drop}
use Rattle.row_lines.specs.Words.{values_of}
use Rattle.row_lines.proofs.words.count_values.Given as goal

abbrev pub invariant-loop-byte : goal.invariant-loop-byte
invariant-loop-byte l =
    (l.values ≤ l.byte-index) × (length (values_of l.word) ≡ l.values + length (values_of (drop l.byte-index l.word)))
