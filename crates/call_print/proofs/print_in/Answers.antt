-- The file's refusal, or what is asked of the numbers that are kept.
use Rattle.std.proofs.Common.{sym}
use Rattle.std.proofs.Math.Seq.{length-take-le}
use Rattle.read_parts.specs.Exact.{bytes-all}
use Rattle.read_parts.specs.Ways.{handed_on}
use Rattle.open_beside.specs.Rooms.{beside}
use Rattle.open_beside.specs.Beside.{opened-beside, broken-beside, numbers-inside}
use Rattle.call_ndl.proofs.Listings.{numbered}
use Rattle.call_print.proofs.Printings.{file-refused, printed}
use Rattle.call_print.proofs.print_in.Goals as goal

pub prepare-requires : goal.prepare-requires
prepare-requires g c = beside _ _ c.requires.clear

pub returns-in_err-extent : goal.returns-in_err-extent
returns-in_err-extent g c =
    rw (handed_on c.from_residual.ensures.1)
    (file-refused c.args.file.now c.args.out.now
    (broken-beside _ _ _ _ _ _ _ _ _ c.prepare.result c.prepare.ensures _ c.in_err-extent.was))

pub slice_bounds-tell-end : goal.slice_bounds-tell-end
slice_bounds-tell-end g c =
    sym (length-take-le _ _ (numbers-inside (opened-beside _ _ _ _ _ _ _ _ _ c.prepare.result c.prepare.ensures _ c.in_ok-extent.was)))

pub tell-requires : goal.tell-requires
tell-requires g c =
    numbered (opened-beside _ _ _ _ _ _ _ _ _ c.prepare.result c.prepare.ensures _ c.in_ok-extent.was)
    (bytes-all c.args.file.now (λ i. (c.type_inv.file i).fits))

pub returns : goal.returns
returns g c =
    let o = opened-beside _ _ _ _ _ _ _ _ _ c.prepare.result c.prepare.ensures _ c.in_ok-extent.was in
    printed o c.args.out.now
    (c.tell.ensures (numbered o (bytes-all c.args.file.now (λ i. (c.type_inv.file i).fits))))
