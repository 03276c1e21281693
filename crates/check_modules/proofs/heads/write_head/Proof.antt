-- `check_modules::heads::write_head` meets its contract: slots can take the places of both lists, and with the count behind them what is left is
-- the head in the image. Assumes nothing.
use native.Mathlib.Omega.{arith}
use borrow.Author.Rules.{rules}
use Rattle.check_lists.specs.Lists.{ListReady}
use Rattle.check_lists.specs.Places.{inputs_in_head}
use Rattle.check_modules.proofs.HeadNumbers.{inputs-ready, outputs-ready, head-written}
use Rattle.check_modules.proofs.heads.write_head.Statement.{statement}
use Rattle.check_modules.proofs.heads.write_head.Tie as tie

list-end-requires : tie.Need-list_end-o-requires
list-end-requires c κs = let p = c.requires in record { list = p.m.inputs; stands = inputs_in_head p.m p.stands }

write-list-requires : tie.Need-write_list-requires
write-list-requires c κs = inputs-ready c.requires

-- What slots in the outputs' places ask, once the inputs have theirs.
outputs :
    (c : tie.After-write_list)
    → (let a = c.args in
    ListReady c.write_list.new.numbers a.slots.now a.base c.list_end-o.result a.nets)
outputs c =
    outputs-ready c.requires c.list_end-o.ensures c.write_list.auto.numbers c.write_list.ensures

entry-requires : tie.Need-entry-outputs-requires
entry-requires c κs = omega (arith, (outputs c.before.before).listed.stands.within)

write-list-requires-2 : tie.Need-write_list-requires-2
write-list-requires-2 c κs = (outputs c.before.before.before.before)

returns : tie.Need-returns
returns c =
    head-written c.list_end-o.ensures c.write_list.auto.numbers c.write_list.ensures c.entry-outputs.ensures
    c.write_list-2.ensures

pub write_head_spec : {M : Type 1} → statement M
write_head_spec =
    tie.close
    (tie.spec
    list-end-requires
    (λ c. search rules)
    (λ c. search rules)
    (λ c. search rules)
    write-list-requires
    entry-requires
    write-list-requires-2
    (λ c. search rules)
    returns)
