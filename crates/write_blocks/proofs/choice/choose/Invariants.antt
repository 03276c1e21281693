-- The loop of `choice::choose`: the gates that are laid and those that are left make all.
use Rattle.bytes_out.specs.Laying.{Laying}
use Rattle.write_blocks.specs.Choices.{choice_numbers, choice_from}
use Rattle.write_blocks.proofs.choice.choose.Given as goal

abbrev pub invariant-loop-i : goal.invariant-loop-i
invariant-loop-i l =
    Laying (choice_numbers l.empty l.high l.low l.ands l.ors l.count)
    (choice_from l.empty l.high l.low l.ands l.ors l.count l.i)
    l.initial.bytes
    l.initial.at
    l.bytes
    l.at
