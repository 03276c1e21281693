-- What `read` answers, from the way that its modules have gone.
use Rattle.std.proofs.Common.{◌≤◌, length, arith}
use Rattle.meaning.specs.Reading.{most_bytes}
use Rattle.read_parts.specs.Ways.{handed_on}
use Rattle.read_file.proofs.Answered.{decoded-long, decoded-refused, decoded-more, decoded-all, some_number}
use Rattle.read_file.proofs.read.Goals as goal
use Rattle.read_file.proofs.read.Goals.{After-keep_file}

room : (c : After-keep_file) → length c.args.bytes.now ≤ length c.args.numbers.now
room c = let few : length c.args.bytes.now ≤ most_bytes = c.if-bytes-gt65535.false in omega (arith, c.requires.numbers_fit)

pub returns-then-bytes-gt65535 : goal.returns-then-bytes-gt65535
returns-then-bytes-gt65535 c = rw c.at.ensures (decoded-long c.if-bytes-gt65535.true)

pub returns-in_err-end : goal.returns-in_err-end
returns-in_err-end c =
    rw (handed_on c.from_residual.ensures.1)
    (decoded-refused c.if-bytes-gt65535.false c.keep_file.ensures c.in_err-end.was)

pub returns-then-end-bytes : goal.returns-then-end-bytes
returns-then-end-bytes c =
    rw c.at-then-end-bytes.ensures
    (decoded-more c.if-bytes-gt65535.false c.keep_file.ensures (room (goal.at.returns-then-end-bytes c).After-keep_file)
    c.in_ok-end.was c.if-end-bytes.true)

pub bounds-numbers-0 : goal.bounds-numbers-0
bounds-numbers-0 c =
    some_number c.if-bytes-gt65535.false c.keep_file.ensures (room (goal.at.bounds-numbers-0 c).After-keep_file) c.in_ok-end.was

pub returns : goal.returns
returns c =
    decoded-all c.if-bytes-gt65535.false c.keep_file.ensures (room (goal.at.returns c).After-keep_file)
    c.in_ok-end.was c.if-end-bytes.false
