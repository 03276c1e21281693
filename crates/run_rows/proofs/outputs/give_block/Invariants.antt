-- The rows passed, eight by eight, are laid one behind the other.
use Rattle.std.proofs.Common.{◌≡◌, ◌*◌, min, length}
use Rattle.image.specs.Laid.{laid}
use Rattle.run_rows.specs.Giving.{given, Giveable}
use Rattle.run_rows.proofs.outputs.give_block.Given as goal

abbrev pub invariant-loop-group : goal.invariant-loop-group
invariant-loop-group l =
    let f = l.fn in
    (length l.out ≡ length l.initial.out)
    × ((g : Giveable f.image f.from f.to f.entries f.count f.at (length l.initial.out))
    → l.out ≡ laid l.initial.out f.at (given g.values (min f.count (l.group * 8))))
