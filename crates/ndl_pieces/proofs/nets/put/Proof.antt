-- `nets::put` meets its contract: a listing's nets are apart by commas. Assumes nothing.
use borrow.Author.Rules.{rules}
use Rattle.ndl_pieces.proofs.Lists.{with_commas}
use Rattle.ndl_pieces.proofs.nets.put.Statement.{statement}
use Rattle.ndl_pieces.proofs.nets.put.Tie as tie

put-apart-requires : tie.Need-put_apart-requires
put-apart-requires c κs =
    rw (with_commas c.args.nets.now) c.requires

returns : tie.Need-returns
returns c =
    rw (with_commas c.args.nets.now) at c.put_apart.ensures

pub put_spec : {M : Type 1} → statement M
put_spec = tie.close (tie.spec put-apart-requires (λ c. search rules) returns)
