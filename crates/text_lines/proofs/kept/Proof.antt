use borrow.Author.Tests.{lt-ltb, le-ltb}
use Rattle.text_lines.proofs.kept.Statement.{statement}
use Rattle.text_lines.proofs.kept.Tie as tie

-- src/lib.rt:82:1
returns : tie.Need-returns-then-left-gt60
returns c = rw (lt-ltb 60 c.args.left c.if-left-gt60.true)

-- src/lib.rt:82:1
returns-2 : tie.Need-returns-else-left-gt60
returns-2 c = rw (le-ltb 60 c.args.left c.if-left-gt60.false)

pub kept_spec : {M : Type 1} → statement M
kept_spec = tie.close (tie.spec returns returns-2)
