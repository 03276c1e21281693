-- The count is read back, and as many modules are due.
use Rattle.std.proofs.Common.{arith}
use Rattle.meaning.specs.Reading.{most_modules}
use Rattle.read_parts.specs.Ways.{handed_on}
use Rattle.read_parts.specs.Counted.{CountTaken, counted}
use Rattle.read_file.specs.Noted.{first}
use Rattle.read_file.proofs.Through.{stands-first, through-refused, through-modules}
use Rattle.read_file.proofs.keep_file.Goals as goal
use Rattle.read_file.proofs.keep_file.Goals.{In_ok-spot}

pub keep_count-requires : goal.keep_count-requires
keep_count-requires c = stands-first c.requires.bytes_in_bounds

-- The count is laid out, and reading stands behind it.
there : (c : In_ok-spot)
    → CountTaken most_modules c.args.bytes.now first c.args.numbers.now c.in_ok-spot.spot c.keep_count.new.numbers
there c = counted most_modules (stands-first c.requires.bytes_in_bounds) c.in_ok-spot.was c.keep_count.ensures

pub returns-in_err-spot : goal.returns-in_err-spot
returns-in_err-spot c =
    rw (handed_on c.from_residual.ensures.1, ← c.in_err-spot.was)
    (through-refused c.in_err-spot.was c.keep_count.ensures)

pub last_kept-count-requires : goal.last_kept-count-requires
last_kept-count-requires c = (there (goal.at.last_kept-count-requires c).In_ok-spot).some

pub keep_modules-requires-clause-stands : goal.keep_modules-requires-clause-stands
keep_modules-requires-clause-stands c = (there (goal.at.keep_modules-requires-clause-stands c).In_ok-spot).there.stands

pub keep_modules-requires-clause-fit : goal.keep_modules-requires-clause-fit
keep_modules-requires-clause-fit c =
    let h = (there (goal.at.keep_modules-requires-clause-fit c).In_ok-spot).small in
    let fit = c.requires.fit in
    record {
      in_numbers = omega (arith, fit.in_numbers, c.last_kept-count.ensures);
      in_bytes = omega (arith, fit.in_bytes, c.last_kept-count.ensures);
    }

pub returns : goal.returns
returns c = through-modules (there (goal.at.returns c).In_ok-spot) c.last_kept-count.ensures c.keep_modules.ensures
