-- `answer::answer` meets its contract: the lengths decide 22, and only then a byte is written. Assumes nothing.
use native.Mathlib.Omega.{arith}
use borrow.Author.Rules.{rules}
use Rattle.bytes_out.specs.Puts.{put_front}
use Rattle.write_order.proofs.Answering.{answers-short, answers-file}
use Rattle.write_order.proofs.answer.answer.Statement.{statement}
use Rattle.write_order.proofs.answer.answer.Tie as tie

returns : tie.Need-returns-then-bytes-out
returns c =
    let args = c.args in
    answers-file args.bytes.now args.out.now c.if-bytes-out.true (put_front c.copy.ensures)

returns-2 : tie.Need-returns-else-bytes-out
returns-2 c =
    let args = c.args in
    answers-short args.bytes.now args.out.now (omega arith)

pub answer_spec : {M : Type 1} → statement M
answer_spec = tie.close (tie.spec (λ c κs. search rules) (λ c. search rules) returns returns-2)
