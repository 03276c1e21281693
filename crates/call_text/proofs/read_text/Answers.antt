-- 33, or what the text comes to in lists that are long enough.
use lib.ListN.{length}
use Rattle.call_text.specs.Rooms.{over-long, not_long}
use Rattle.call_text.proofs.read_text.Goals as goal

pub returns-then-text-gt262144 : goal.returns-then-text-gt262144
returns-then-text-gt262144 c = over-long c.args.text.now c.if-text-gt262144.true (length c.args.out.now) c.args.out.now

pub returns : goal.returns
returns c = not_long c.args.text.now c.if-text-gt262144.false (length c.args.out.now) c.args.out.now _ _ c.file.ensures
