use Rattle.read_file.proofs.Modules.{Passing}
use Rattle.read_file.proofs.keep_modules.Given as goal

-- Of so many modules, i are read and noted.
abbrev pub invariant-loop-i : goal.invariant-loop-i
invariant-loop-i l =
    Passing l.bytes l.initial.spot l.count l.i l.initial.numbers l.numbers l.initial.starts l.starts l.initial.offsets l.offsets l.spot
