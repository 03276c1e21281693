-- The length of the bytes decides 22, and only then something lent is written.
use borrow.Author.Rules.{rules}
use native.Mathlib.Omega.{arith}
use Rattle.flat_ending.specs.Order.{front_first}
use Rattle.flat_ending.proofs.Ending.{ends-short, ends-written}
use Rattle.flat_ending.proofs.Pasting.{length-of-parts, parts_pasted}
use Rattle.flat_ending.proofs.answer.Statement.{statement}
use Rattle.flat_ending.proofs.answer.Tie as tie

returns : tie.Need-returns-then-whole-out
returns c =
    let args = c.args in
    let long = length-of-parts args.bytes.now args.gates args.whole c.requires.0 c.requires.1.0 in
    ends-written (front_first args.bytes.now args.gates args.whole) args.room args.scratch.now args.out.now
    (omega (arith, long, c.if-whole-out.true)) c.clear.ensures
    (parts_pasted args.bytes.now args.gates args.whole c.requires.0 c.requires.1.0 c.copy.ensures c.copy-then-whole-out.ensures)

returns-2 : tie.Need-returns-else-whole-out
returns-2 c =
    let args = c.args in
    let long = length-of-parts args.bytes.now args.gates args.whole c.requires.0 c.requires.1.0 in
    ends-short (front_first args.bytes.now args.gates args.whole) args.room args.scratch.now args.out.now (omega (arith, long, c.if-whole-out.false))

pub answer_spec : {M : Type 1} → statement M
answer_spec =
    tie.close
    (tie.spec
    (λ c. search rules)
    (λ c κs. search rules)
    (λ c κs. search rules)
    (λ c κs. search rules)
    (λ c. search rules)
    (λ c. search rules)
    returns
    returns-2)
