-- `numerals::put_three` meets its contract: one digit, and the two behind it. Assumes nothing.
use mathlib.Core.Path.{refl}
use borrow.Author.Rules.{rules}
use Rattle.ndl_pieces.proofs.Spelling.{front-room, two-room, two-last}
use Rattle.ndl_pieces.proofs.numerals.put_three.Statement.{statement}
use Rattle.ndl_pieces.proofs.numerals.put_three.Tie as tie

put-two-requires : tie.Need-put_two-requires
put-two-requires c κs =
    two-room 1 c.args.n refl c.requires c.put_one-next.ensures

returns : tie.Need-returns
returns c =
    two-last 1 c.args.n refl c.requires c.put_one-next.ensures c.put_two.ensures

pub put_three_spec : {M : Type 1} → statement M
put_three_spec =
    tie.close
    (tie.spec
    (λ c κs. front-room 1 c.args.n refl c.requires)
    put-two-requires
    (λ c. search rules)
    returns)
