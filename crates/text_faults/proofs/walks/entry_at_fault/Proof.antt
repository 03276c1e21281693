use borrow.Author.Tests.{lt-ltb, le-ltb}
use Rattle.text_faults.specs.Faults.{entry_at_fault}
use borrow.Author.Rules.{rules}
use Rattle.text_faults.proofs.walks.entry_at_fault.Statement.{statement}
use Rattle.text_faults.proofs.walks.entry_at_fault.Tie as tie

returns : tie.Need-returns-then-new-driven
unfolding entry_at_fault
returns c = rw (lt-ltb _ _ c.if-new-driven.true)

add-result : tie.Need-overflow_add-result
add-result c = search rules

add-result-2 : tie.Need-overflow_add-result-then-known-taken
add-result-2 c = search rules

returns-2 : tie.Need-returns-then-known-taken
unfolding entry_at_fault
returns-2 c = rw (le-ltb _ _ c.if-new-driven.false, lt-ltb _ _ c.if-known-taken.true)

add-result-3 : tie.Need-overflow_add-result-then-fit
add-result-3 c = search rules

add-result-4 : tie.Need-overflow_add-result-then-fit-2
add-result-4 c = search rules

returns-3 : tie.Need-returns-then-fit
unfolding entry_at_fault
returns-3 c = rw (le-ltb _ _ c.if-new-driven.false, le-ltb _ _ c.if-known-taken.false, c.if-fit.true)

returns-4 : tie.Need-returns
unfolding entry_at_fault
returns-4 c = rw (le-ltb _ _ c.if-new-driven.false, le-ltb _ _ c.if-known-taken.false, c.if-fit.false)

pub entry_at_fault_spec : {M : Type 1} → statement M
entry_at_fault_spec =
    tie.close
    (tie.spec
    returns
    add-result
    add-result-2
    returns-2
    add-result-3
    add-result-4
    returns-3
    returns-4)
