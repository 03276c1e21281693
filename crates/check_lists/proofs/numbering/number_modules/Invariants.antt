-- At each turn the tables know the modules from position k on.
use Rattle.std.proofs.Common.{◌≡◌, List, length}
use Rattle.meaning.specs.Syntax.{Module}
use Rattle.check_lists.specs.Filed.{Filed}
use Rattle.check_lists.proofs.Filling.{Known}
use Rattle.check_lists.proofs.numbering.number_modules.Given as goal

abbrev pub invariant-loop-k : goal.invariant-loop-k
invariant-loop-k l =
    (ms : List Module) → Filed l.numbers l.starts ms → l.modules ≡ length ms → Known ms l.k l.first l.names l.inputs l.outputs l.repeated
