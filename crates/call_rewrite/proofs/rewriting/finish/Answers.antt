-- What stands at the front of the list is the new file.
use Rattle.std.proofs.Common.{length}
use Rattle.meaning.specs.Withdrawn.{rewrite_file}
use Rattle.call_rewrite.proofs.Answering.{too_long, short-answers}
use Rattle.call_rewrite.proofs.rewriting.finish.Goals as goal

pub returns-then-long-gt65535 : goal.returns-then-long-gt65535
returns-then-long-gt65535 c s =
    let out = c.args.out.now in
    too_long (rewrite_file s.ms) (c.put_file-long.ensures s) (length out) out c.if-long-gt65535.true

pub returns : goal.returns
returns c s =
    short-answers (rewrite_file s.ms) (c.put_file-long.ensures s) (length c.args.out.now) c.if-long-gt65535.false c.answer.ensures
