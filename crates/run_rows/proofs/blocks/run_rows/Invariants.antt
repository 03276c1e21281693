-- The outputs of the rows passed stand one behind the other.
use Rattle.std.proofs.Common.{◌≡◌, ◌*◌, min, length}
use Rattle.image.specs.Laid.{laid}
use Rattle.run_rows.specs.Joined.{joined}
use Rattle.run_rows.specs.Running.{RowsRun}
use Rattle.run_rows.specs.Turning.{row_gives}
use Rattle.run_rows.proofs.blocks.run_rows.Given as goal

abbrev pub invariant-loop-block : goal.invariant-loop-block
invariant-loop-block l =
    let f = l.fn in
    let i = f.image in
    (length l.entries ≡ length l.initial.entries)
    × (length l.out ≡ length l.initial.out)
    × ((s : RowsRun i.numbers.now i.starts.now i.nets.now f.site f.rows f.values (length l.initial.entries) (length l.initial.out))
    → l.out ≡ laid l.initial.out 0 (joined (row_gives s) (min f.rows (l.block * 256))))
