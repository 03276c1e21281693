-- `put_break` meets its contract: nothing in front of the first entry, and else what parts it from the one before. Assumes nothing.
use borrow.Author.Rules.{rules}
use Rattle.bytes_out.specs.Puts.{put-none}
use Rattle.print_names.proofs.Naming.{leading-first, leading-later}
use Rattle.print_names.proofs.put_break.Statement.{statement}
use Rattle.print_names.proofs.put_break.Tie as tie

returns : tie.Need-returns-then-position-lt1
returns c =
    rw (leading-first c.args.between.now c.args.position c.if-position-lt1.true) (put-none c.args.out.now c.args.at)

copy-requires : tie.Need-copy-requires
copy-requires c κs =
    (rw (leading-later c.args.between.now c.args.position c.if-position-lt1.false) at c.requires.fits)

returns-2 : tie.Need-returns
returns-2 c =
    rw (leading-later c.args.between.now c.args.position c.if-position-lt1.false) c.copy.ensures

pub put_break_spec : {M : Type 1} → statement M
put_break_spec = tie.close (tie.spec returns copy-requires (λ c. search rules) returns-2)
