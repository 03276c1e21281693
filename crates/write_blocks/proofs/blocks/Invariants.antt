-- The loop of `write_blocks::blocks`: the blocks that are laid and those that are left make all.
use Rattle.meaning.specs.Layout.{each, module_numbers}
use Rattle.meaning.specs.Counter.{blocks}
use Rattle.bytes_out.specs.Laying.{Laying}
use Rattle.write_blocks.proofs.blocks.Given as goal

abbrev pub invariant-loop-j : goal.invariant-loop-j
invariant-loop-j l =
    Laying (each module_numbers (blocks l.level)) (each module_numbers (blocks l.j)) l.initial.bytes l.initial.at l.bytes l.at
