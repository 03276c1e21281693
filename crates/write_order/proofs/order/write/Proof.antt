-- `order::write` meets its contract: outside the widths it refuses, within them the room in the buffer decides. Assumes nothing.
use native.Mathlib.Omega.{arith}
use borrow.Author.Rules.{rules}
use Rattle.write_order.specs.Orders.{modules_of}
use Rattle.write_order.proofs.Answering.{answers-narrow, answers-wide, writing-fitting}
use Rattle.write_order.proofs.order.write.Statement.{statement}
use Rattle.write_order.proofs.order.write.Tie as tie

returns : tie.Need-returns-in-1-to-64
returns c =
    let args = c.args in
    rw (writing-fitting (modules_of args.order) args.width args.out.now (omega arith) (omega arith))
    c.deliver.ensures

returns-2 : tie.Need-returns-in_default
returns-2 c =
    let args = c.args in
    answers-narrow (modules_of args.order) args.width args.out.now c.in_default.if-width-lt1-own.true

returns-3 : tie.Need-returns-in_default-2
returns-3 c =
    let args = c.args in
    answers-wide (modules_of args.order) args.width args.out.now c.in_default.if-width-lt65-own.false

pub write_spec : {M : Type 1} → statement M
write_spec =
    tie.close (tie.spec (λ c κs. search rules) (λ c. search rules) returns returns-2 returns-3)
