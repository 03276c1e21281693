-- The lines of the modules that were passed are written, and with those ahead they are all.
use Rattle.list_file.specs.Sheet.{Listable}
use Rattle.list_file.proofs.LinesPut.{Sofar}
use Rattle.list_file.proofs.lines.put_lines.Given as goal

abbrev pub invariant-loop-position : goal.invariant-loop-position
invariant-loop-position l =
    let i = l.fn.image in
    (s : Listable i.numbers.now i.starts.now l.names i.nets.now l.sizes l.rooms l.modules l.initial.loads l.initial.scratch l.initial.out)
    → Sofar s.file l.family.delays s.opened.ms l.position l.initial.out l.out l.at
