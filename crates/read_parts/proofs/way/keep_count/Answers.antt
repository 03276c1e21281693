-- A count is laid behind the numbers in front, or nothing changes.
use Rattle.std.proofs.Common.{◌≡◌, Ok, sym, ◌∙◌}
use Rattle.meaning.specs.Reading.{read_number}
use Rattle.read_parts.specs.Steps.{number_read, step_from}
use Rattle.read_parts.specs.Ways.{handed_on}
use Rattle.read_parts.proofs.Stored.{count_room, count_kept, count-over, count-refused}
use Rattle.read_parts.proofs.way.keep_count.Goals as goal
use Rattle.read_parts.proofs.way.keep_count.Goals.{In_ok-count}

-- The number that is found.
is : (c : In_ok-count)
    → Ok c.in_ok-count.count ≡ number_read (step_from read_number c.args.bytes.now c.args.spot)
is c = sym c.in_ok-count.was ∙ c.read_number.ensures

pub returns-in_err-count : goal.returns-in_err-count
returns-in_err-count c =
    rw (handed_on c.from_residual.ensures.1)
    (count-refused c.requires (sym c.in_err-count.was ∙ c.read_number.ensures) c.args.ceiling)

pub returns-then-ceiling-count : goal.returns-then-ceiling-count
returns-then-ceiling-count c =
    rw c.at.ensures
    (count-over c.requires (is (goal.at.returns-then-ceiling-count c).In_ok-count) c.args.ceiling c.if-ceiling-count.true)

pub bounds-numbers-spot : goal.bounds-numbers-spot
bounds-numbers-spot c = count_room c.requires (is (goal.at.bounds-numbers-spot c).In_ok-count)

pub returns : goal.returns
returns c = count_kept c.requires (is (goal.at.returns c).In_ok-count) c.args.ceiling c.if-ceiling-count.false
