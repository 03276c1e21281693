-- Reading, then the check of just the file's numbers.
use Rattle.std.proofs.Common.{◌≤◌, sym, ap, ◌∙◌, arith, length, drop}
use Rattle.std.proofs.Math.Seq.{length-take-le}
use Rattle.meaning.specs.Ceilings.{Bytes}
use Rattle.read_parts.specs.Exact.{bytes-all}
use Rattle.read_parts.specs.Ways.{handed_on}
use Rattle.check_steps.specs.Found.{Found}
use Rattle.open_file.specs.Prepared.{prepared_of}
use Rattle.open_file.specs.ReadyFile.{read-refused, count_long, file-ready, answered}
use Rattle.open_file.proofs.prepare.Goals as goal
use Rattle.open_file.proofs.prepare.Goals.{In_ok-extent}

bytes : (c : In_ok-extent) → Bytes c.args.file.now
bytes c = bytes-all c.args.file.now (λ i. (c.type_inv.file i).fits)

room : (c : In_ok-extent) → c.in_ok-extent.extent.numbers ≤ length c.read.new.numbers
room c =
    let few = count_long (bytes c) c.read.ensures c.in_ok-extent.was in
    omega (arith, few.0, few.1, c.requires.image_long)

pub returns-in_err-extent : goal.returns-in_err-extent
returns-in_err-extent c =
    rw (handed_on c.from_residual.ensures.1) (read-refused c.read.ensures c.in_err-extent.was)

pub slice_bounds-check_modules-end : goal.slice_bounds-check_modules-end
slice_bounds-check_modules-end c = room (goal.at.slice_bounds-check_modules-end c).In_ok-extent

pub slice_bounds-check_modules-end-2 : goal.slice_bounds-check_modules-end-2
slice_bounds-check_modules-end-2 c = sym (length-take-le _ _ (room (goal.at.slice_bounds-check_modules-end-2 c).In_ok-extent))

pub check_modules-requires : goal.check_modules-requires
check_modules-requires c =
    file-ready (bytes (goal.at.check_modules-requires c).In_ok-extent) c.read.ensures c.in_ok-extent.was c.requires c.read.auto.starts

pub returns-in_err-check_modules : goal.returns-in_err-check_modules
returns-in_err-check_modules c =
    let kept = c.check_modules.auto in
    let extent = c.in_ok-extent.extent in
    answered (bytes (goal.at.returns-in_err-check_modules c).In_ok-extent) c.read.ensures c.in_ok-extent.was c.requires
    c.read.auto.starts
    (drop extent.numbers c.read.new.numbers) kept.nets kept.sizes kept.rooms c.check_modules.ensures
    (handed_on c.from_residual-in_err-check_modules.ensures.1
    ∙ sym (ap (λ (r : Found). prepared_of r extent.modules) c.in_err-check_modules.was))

pub returns : goal.returns
returns c =
    let kept = c.check_modules.auto in
    let extent = c.in_ok-extent.extent in
    answered (bytes (goal.at.returns c).In_ok-extent) c.read.ensures c.in_ok-extent.was c.requires
    c.read.auto.starts
    (drop extent.numbers c.read.new.numbers) kept.nets kept.sizes kept.rooms c.check_modules.ensures
    (sym (ap (λ (r : Found). prepared_of r extent.modules) c.in_ok-check_modules.was))
