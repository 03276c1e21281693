-- What is left of the text grows shorter.
use Rattle.std.proofs.Common.{length}
use Rattle.print_parts.proofs.module_list.Given as goal

abbrev pub decreases-loop-modules : goal.decreases-loop-modules
decreases-loop-modules l = length l.modules
