-- The lines of an accepted file, or the one line of a refused one.
use Rattle.std.proofs.Common.{arith}
use Rattle.open_file.specs.Opening.{opened, broken}
use Rattle.list_file.proofs.Sheets.{listable, put_as, lines-listed, refusal-listed}
use Rattle.list_file.proofs.list_in.Goals as goal

pub put_lines-requires : goal.put_lines-requires
put_lines-requires c =
    let o = opened _ _ _ _ _ _ _ c.prepare.result c.prepare.ensures _ c.in-Ok.is in
    listable o (omega (arith, c.prepare.auto.image)) c.requires.scratch_len c.requires.longest_listing_in_bounds

pub returns-in-Err : goal.returns-in-Err
returns-in-Err c =
    put_as (refusal-listed _ _ _ _ (broken _ _ _ _ _ _ _ c.prepare.result c.prepare.ensures _ c.in-Err.is)) c.put_file_refusal.ensures

pub returns-in-Ok : goal.returns-in-Ok
returns-in-Ok c =
    let o = opened _ _ _ _ _ _ _ c.prepare.result c.prepare.ensures _ c.in-Ok.is in
    put_as (lines-listed o _)
    (c.put_lines.ensures
    (listable o (omega (arith, c.prepare.auto.image)) c.requires.scratch_len c.requires.longest_listing_in_bounds))
