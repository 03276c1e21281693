use borrow.Author.Tests.{lt-ltb, le-ltb}
use Rattle.text_file.proofs.filing.width.Statement.{statement}
use Rattle.text_file.proofs.filing.width.Tie as tie

-- src/filing.rt:15:1
returns : tie.Need-returns-then-number-lt128
returns c = rw (lt-ltb _ 128 c.if-number-lt128.true)

-- src/filing.rt:15:1
returns-2 : tie.Need-returns-else-number-lt128
returns-2 c = rw (le-ltb _ 128 c.if-number-lt128.false)

pub width_spec : {M : Type 1} → statement M
width_spec = tie.close (tie.spec returns returns-2)
