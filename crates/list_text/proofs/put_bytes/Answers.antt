-- The part that is copied over is the bytes.
use Rattle.list_text.proofs.Pieces.{put_part}
use Rattle.list_text.proofs.put_bytes.Goals as goal

pub returns : goal.returns
returns c = put_part c.args.bytes.now c.args.out.now _ c.args.at c.requires c.copy_from_slice.ensures.after
