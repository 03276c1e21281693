-- The loop of `write_counter::shape_of`: what is summed up with what the digits left come to is the whole.
use Rattle.std.proofs.Common.{◌/◌, ◌^◌}
use Rattle.write_counter.proofs.Running.{Shaping}
use Rattle.write_counter.proofs.shape_of.Given as goal

abbrev pub invariant-loop-level : goal.invariant-loop-level
invariant-loop-level l = Shaping l.width (l.width / 2 ^ l.level) l.level l.count l.below l.occurrences
