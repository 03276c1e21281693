-- What was read is filed, and a refusal handed on.
use Rattle.std.proofs.Common.{length}
use Rattle.text_file.specs.Delivers.{filed, answered}
use Rattle.text_file.proofs.answer.Goals as goal

pub file-requires : goal.file-requires
file-requires c = filed (rw c.in_ok-count.was at c.requires)

pub returns : goal.returns
returns c =
    let ready = rw c.in_ok-count.was at c.requires in
    answered ready (length c.args.out.now) c.args.out.now _ _ (c.file.ensures (filed ready))
