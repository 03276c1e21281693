-- The count is read back, and as many numbers are due.
use Rattle.meaning.specs.Reading.{read_number, read_many, read_nets, most_nets}
use Rattle.read_parts.specs.Ways.{handed_on}
use Rattle.read_parts.specs.Taken.{takes-ended}
use Rattle.read_parts.specs.Counted.{CountTaken, counted, takes-list}
use Rattle.read_parts.proofs.parts.keep_nets.Goals as goal
use Rattle.read_parts.proofs.parts.keep_nets.Goals.{In_ok-next}

-- The count is laid out, and reading stands behind it.
there : (c : In_ok-next)
    → CountTaken most_nets c.args.bytes.now c.args.spot c.args.numbers.now c.in_ok-next.next c.keep_count.new.numbers
there c = counted most_nets c.requires c.in_ok-next.was c.keep_count.ensures

pub returns-in_err-next : goal.returns-in_err-next
unfolding read_nets
returns-in_err-next c =
    rw (handed_on c.from_residual.ensures.1, ← c.in_err-next.was) (takes-ended (read_many read_number) c.in_err-next.was c.keep_count.ensures)

pub last_kept-count-requires : goal.last_kept-count-requires
last_kept-count-requires c = (there (goal.at.last_kept-count-requires c).In_ok-next).some

pub keep_numbers-requires : goal.keep_numbers-requires
keep_numbers-requires c = (there (goal.at.keep_numbers-requires c).In_ok-next).there.stands

pub returns : goal.returns
unfolding read_nets
returns c =
    takes-list read_number (there (goal.at.returns c).In_ok-next) c.last_kept-count.ensures c.keep_numbers.ensures
