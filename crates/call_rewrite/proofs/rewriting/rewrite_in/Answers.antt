-- The file is made ready, and then rewritten.
use Rattle.std.proofs.Common.{ℕ, length, arith}
use lib.ListN.{length-replicate}
use Rattle.read_parts.specs.Ways.{handed_on}
use Rattle.open_beside.specs.Rooms.{beside}
use Rattle.open_beside.specs.Beside.{opened-beside, broken-beside}
use Rattle.call_rewrite.proofs.Answering.{file-refused}
use Rattle.call_rewrite.proofs.rewriting.rewrite_in.Goals as goal

pub prepare-requires : goal.prepare-requires
prepare-requires g c = beside _ _ c.requires.clear

pub rewrite_ready-requires : goal.rewrite_ready-requires
rewrite_ready-requires g c =
    record {
      names = c.prepare.new.names;
      rooms = c.prepare.new.rooms;
      beside = opened-beside _ _ _ _ _ _ _ _ _ c.prepare.result c.prepare.ensures _ c.in_ok-extent.was;
      offsets_long = omega (arith, c.prepare.auto.offsets, length-replicate {A = ℕ} 129 0);
    }

pub returns-in_err-extent : goal.returns-in_err-extent
returns-in_err-extent g c =
    let out = c.args.out.now in
    rw (handed_on c.from_residual.ensures.1)
    (file-refused c.args.file.now (length out) out (broken-beside _ _ _ _ _ _ _ _ _ c.prepare.result c.prepare.ensures _ c.in_err-extent.was))

pub returns : goal.returns
returns g c = c.rewrite_ready.ensures
