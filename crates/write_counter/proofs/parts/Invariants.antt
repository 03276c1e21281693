-- The loop of `write_counter::parts`: the parts that are laid and those of the digits left make all.
use Rattle.std.proofs.Common.{◌/◌, ◌^◌}
use Rattle.write_counter.proofs.Parting.{Parting}
use Rattle.write_counter.proofs.parts.Given as goal

abbrev pub invariant-loop-level : goal.invariant-loop-level
invariant-loop-level l =
    Parting l.width (l.width / 2 ^ l.level) l.level l.bits l.count l.below l.initial.bytes l.initial.at l.bytes l.at
