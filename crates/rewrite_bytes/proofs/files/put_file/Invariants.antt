use Rattle.std.proofs.Common.{ℕ, ◌≡◌, ◌+◌, ◌<◌, length, get_or, drop}
use Rattle.meaning.specs.Layout.{each}
use Rattle.meaning.specs.Withdrawn.{rewrite_file}
use Rattle.laws.specs.Written.{module_bytes}
use Rattle.bytes_out.specs.Laying.{Laying}
use Rattle.rewrite_bytes.specs.Modules.{Rewritable}
use Rattle.rewrite_bytes.proofs.files.put_file.Given as goal

-- Behind the count, what is laid and what the modules ahead come to make the whole; and the table has no stamp of a module ahead.
abbrev pub invariant-loop-k : goal.invariant-loop-k
invariant-loop-k l =
    (length l.table ≡ 16384)
    × ((x : ℕ) → get_or l.table x 0 < l.k + 1)
    × ((s : Rewritable l.file l.numbers l.starts l.offsets l.modules l.own (length l.fn.out))
    → Laying (each module_bytes (rewrite_file s.ms)) (each module_bytes (rewrite_file (drop l.k s.ms))) l.initial.out l.initial.at l.out l.at)
