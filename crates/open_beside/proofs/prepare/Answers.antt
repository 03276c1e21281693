-- Reading, then the check of a copy of just the file's numbers.
use Rattle.std.proofs.Common.{◌≤◌, refl, sym, ap, ◌∙◌, arith, length, drop}
use Rattle.std.proofs.Math.Seq.{length-take-le}
use Rattle.meaning.specs.Ceilings.{Bytes}
use Rattle.read_parts.specs.Exact.{bytes-all}
use Rattle.read_parts.specs.Ways.{handed_on}
use Rattle.check_steps.specs.Found.{Found}
use Rattle.open_file.specs.Prepared.{prepared_of}
use Rattle.open_file.specs.ReadyFile.{read-refused, count_long, file-ready, answered}
use Rattle.open_beside.specs.Beside.{beside_of}
use Rattle.open_beside.proofs.Keeping.{kept-beside}
use Rattle.open_beside.proofs.prepare.Goals as goal
use Rattle.open_beside.proofs.prepare.Goals.{In_ok-extent}

bytes : (c : In_ok-extent) → Bytes c.args.file.now
bytes c = bytes-all c.args.file.now (λ i. (c.type_inv.file i).fits)

few : (c : In_ok-extent)
    → (c.in_ok-extent.extent.numbers ≤ length c.read.new.numbers) × (c.in_ok-extent.extent.numbers ≤ length c.args.image.now)
few c =
    let few = count_long (bytes c) c.read.ensures c.in_ok-extent.was in (
      omega (arith, few.0, few.1, c.requires.numbers_long),
      omega (arith, few.0, few.1, c.requires.space.image_long),
    )

pub returns-in_err-extent : goal.returns-in_err-extent
returns-in_err-extent c =
    rw (handed_on c.from_residual.ensures.1) (read-refused c.read.ensures c.in_err-extent.was)

pub slice_bounds-check_copy-end : goal.slice_bounds-check_copy-end
slice_bounds-check_copy-end c = (few (goal.at.slice_bounds-check_copy-end c).In_ok-extent).0

pub slice_bounds-check_copy-end-2 : goal.slice_bounds-check_copy-end-2
slice_bounds-check_copy-end-2 c = sym (length-take-le _ _ (few (goal.at.slice_bounds-check_copy-end-2 c).In_ok-extent).0)

pub slice_bounds-check_copy-end-3 : goal.slice_bounds-check_copy-end-3
slice_bounds-check_copy-end-3 c = (few (goal.at.slice_bounds-check_copy-end-3 c).In_ok-extent).1

pub slice_bounds-check_copy-end-4 : goal.slice_bounds-check_copy-end-4
slice_bounds-check_copy-end-4 c = sym (length-take-le _ _ (few (goal.at.slice_bounds-check_copy-end-4 c).In_ok-extent).1)

pub check_copy-requires-clause-file_ready : goal.check_copy-requires-clause-file_ready
check_copy-requires-clause-file_ready c =
    file-ready (bytes (goal.at.check_copy-requires-clause-file_ready c).In_ok-extent) c.read.ensures c.in_ok-extent.was
    c.requires.space c.read.auto.starts

pub check_copy-requires-clause-image_len : goal.check_copy-requires-clause-image_len
check_copy-requires-clause-image_len c =
    let k = (goal.at.check_copy-requires-clause-image_len c).In_ok-extent in
    length-take-le _ _ (few k).1 ∙ sym (length-take-le _ _ (few k).0)

pub returns-in_err-check_copy : goal.returns-in_err-check_copy
returns-in_err-check_copy c =
    let b = bytes (goal.at.returns-in_err-check_copy c).In_ok-extent in
    let d = c.read.ensures in
    let extent = c.in_ok-extent.extent in
    let kept = c.check_copy.auto in
    kept-beside b d c.in_ok-extent.was _ _ _ _ _ (prepared_of c.check_copy.result extent.modules)
    (answered b d c.in_ok-extent.was c.requires.space c.read.auto.starts (drop extent.numbers c.args.image.now) kept.nets kept.sizes
    kept.rooms c.check_copy.ensures refl)
    (handed_on c.from_residual-in_err-check_copy.ensures.1
    ∙ sym (ap (λ (r : Found). beside_of (prepared_of r extent.modules) extent.numbers) c.in_err-check_copy.was))

pub returns : goal.returns
returns c =
    let b = bytes (goal.at.returns c).In_ok-extent in
    let d = c.read.ensures in
    let extent = c.in_ok-extent.extent in
    let kept = c.check_copy.auto in
    kept-beside b d c.in_ok-extent.was _ _ _ _ _ (prepared_of c.check_copy.result extent.modules)
    (answered b d c.in_ok-extent.was c.requires.space c.read.auto.starts (drop extent.numbers c.args.image.now) kept.nets kept.sizes
    kept.rooms c.check_copy.ensures refl)
    (sym (ap (λ (r : Found). beside_of (prepared_of r extent.modules) extent.numbers) c.in_ok-check_copy.was))
